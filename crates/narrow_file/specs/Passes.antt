-- What the inner functions of the two passes promise. Nothing that a caller is promised rests on this file.
use Rattle.std.specs.Prelude.{Bool, true, false, List, [], ◌∷◌, ◌++◌, ℕ, ◌+◌, ◌-◌, ◌*◌, ◌%◌, ◌^◌, length, take, drop, Result, Ok, Err}
use Rattle.std.specs.Borrow.{Bor}
use Rattle.refusals.specs.Said.{number_of}
use Rattle.refusals.specs.First.{choose}
use Rattle.layout.specs.Bytes.{Class, digit, comma, equals, line_end, letter, other, class_of}
use Rattle.layout.specs.Line.{Outcome, fault, found}
use Rattle.layout.specs.Reading.{Reading, file, refused_at, only}
use Rattle.file_line.specs.declared.line.Word.{Word}
use Rattle.file_line.specs.declared.line.Wanted.{Wanted}
use Rattle.file_line.specs.declared.line.Fault.{Fault}
use Rattle.narrow_file.specs.declared.lines.Judged.{Judged}

-- a line with one number, from the least to the greatest that is allowed
abbrev pub one_number : Word → ℕ → ℕ → ℕ → Wanted
one_number word line low high = record { word = word; line = line; commas = 0; digits = 10; low = low; high = high }

-- the second pass takes a number's end for the place to store it
abbrev pub stores : Class → Bool
stores comma = true
stores line_end = true
stores digit = false
stores equals = false
stores letter = false
stores other = false

-- the value that a byte makes of the value before it, in 32 bits
abbrev pub carried : ℕ → ℕ → Class → ℕ
carried v b digit = (v * 10 + (b - 48)) % 2 ^ 32
carried v b comma = v
carried v b equals = v
carried v b line_end = v
carried v b letter = v
carried v b other = v

-- the numbers that stand in bytes, the first after digits of the value v
abbrev pub collect : ℕ → List ℕ → List ℕ
collect v [] = []
collect v (b ∷ rest) = choose (stores (class_of b)) (v ∷ collect 0 rest) (collect (carried v b (class_of b)) rest)

-- numbers put into the first places of a list
abbrev pub put : List ℕ → List ℕ → List ℕ
put ns list = ns ++ drop (length ns) list

-- what the first pass tells: the file's head and the numbers in its rounds; or a refusal
abbrev pub said_judged : Result Judged Fault → Reading
said_judged (Ok judged) =
    file judged.head.vars judged.head.degree judged.head.claim (take (judged.head.vars * (judged.head.degree + 1)) (collect 0 judged.rounds.now))
said_judged (Err refused) = refused_at (number_of refused.refusal) refused.line

-- an outcome with its last number alone
abbrev pub lasts : Outcome → Outcome
lasts (fault number line) = fault number line
lasts (found ns rest) = found (only ns ∷ []) rest

-- what the reading of a line tells: its last number and the bytes after it; or a refusal
abbrev pub said_line : Result (ℕ × Bor (List ℕ)) Fault → Outcome
said_line (Ok line) = found (line.0 ∷ []) line.1.now
said_line (Err refused) = fault (number_of refused.refusal) refused.line

-- an outcome without its numbers
abbrev pub bare : Outcome → Outcome
bare (fault number line) = fault number line
bare (found ns rest) = found [] rest

-- what the reading of the rounds tells: the bytes after them; or a refusal
abbrev pub said_rounds : Result (Bor (List ℕ)) Fault → Outcome
said_rounds (Ok rest) = found [] rest.now
said_rounds (Err refused) = fault (number_of refused.refusal) refused.line
