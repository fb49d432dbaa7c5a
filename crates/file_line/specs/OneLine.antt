-- What is promised of one line (document 01, "Proof file"): the class of a byte, the line that is asked for, and what is told of it. All in
-- the terms of the layout.
use Rattle.std.specs.Prelude.{List, ℕ, ◌+◌, ◌-◌, length, Result, Ok, Err}
use Rattle.refusals.specs.Said.{number_of}
use Rattle.layout.specs.Bytes.{within}
use Rattle.layout.specs.Bytes as bytes
use Rattle.layout.specs.Words as words
use Rattle.layout.specs.Line.{Outcome, fault, found}
use Rattle.layout.specs.Line as layout
use Rattle.layout.specs.Reading.{only}
use Rattle.file_line.specs.declared.class.Class.{Class}
use Rattle.file_line.specs.declared.class.Class.TheVariants.{Digit, Comma, Equals, LineEnd, Letter, Other}
use Rattle.file_line.specs.declared.line.Word.{Word}
use Rattle.file_line.specs.declared.line.Word.TheVariants.{Sumproof, Field, Vars, Degree, Claim, Round, End}
use Rattle.file_line.specs.declared.line.Wanted.{Wanted}
use Rattle.file_line.specs.declared.line.Found.{Found}
use Rattle.file_line.specs.declared.line.Fault.{Fault}

-- the classes that are answered are the layout's
abbrev pub meant : Class → bytes.Class
meant Digit = bytes.digit
meant Comma = bytes.comma
meant Equals = bytes.equals
meant LineEnd = bytes.line_end
meant Letter = bytes.letter
meant Other = bytes.other

-- the letters of a word are the layout's
abbrev pub letters : Word → List ℕ
letters Sumproof = words.sumproof
letters Field = words.field
letters Vars = words.vars
letters Degree = words.degree
letters Claim = words.claim
letters Round = words.round
letters End = words.end

-- a line that begins with these letters: one number more than commas, each from the least to the greatest that is wanted
abbrev pub line_with : List ℕ → Wanted → layout.Line
line_with word wanted =
    record { word = word; count = wanted.commas + 1; most = wanted.digits; allowed = λ n. within wanted.low wanted.high n }

-- the line that is asked for
abbrev pub line_wanted : Wanted → layout.Line
line_wanted wanted = line_with (letters wanted.word) wanted

-- what is told of a line: a refusal's number and its line; or the line's last number, and where the next line starts
pub data Brief : Type 0 where
  stopped : ℕ → ℕ → Brief
  went : ℕ → ℕ → Brief

-- what the layout finds, where there are so many bytes in all: the next line starts where the bytes that are left do
abbrev pub brief : ℕ → Outcome → Brief
brief size (fault number at) = stopped number at
brief size (found ns rest) = went (only ns) (size - length rest)

-- what an answer says
abbrev pub said : Result Found Fault → Brief
said (Ok line) = went line.last line.next
said (Err refused) = stopped (number_of refused.refusal) refused.line
