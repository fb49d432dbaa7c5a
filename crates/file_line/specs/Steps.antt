-- What the steps of the machine promise, over the types of the code. Only inner functions promise it: nothing that a caller is promised
-- rests on this file.
use Rattle.std.specs.Prelude.{Bool, true, ◌&&◌, List, [], ◌∷◌, ℕ, ◌+◌, ◌-◌, ◌*◌, min, length, get_or, leb, eqb}
use Rattle.refusals.specs.First.{choose}
use Rattle.layout.specs.Bytes.{within, class_of}
use Rattle.layout.specs.Bytes as bytes
use Rattle.file_line.specs.declared.line.Wanted.{Wanted}
use Rattle.file_line.specs.declared.numbers.Number.{Number}
use Rattle.file_line.specs.declared.state.State.{State}
use Rattle.file_line.specs.declared.state.State.TheVariants.{Letters, Numbers, Bad}
use Rattle.file_line.specs.OneLine.{Brief, stopped, went}

-- the greatest number of 64 bits
abbrev pub greatest : ℕ
greatest = 18446744073709551615

-- a number with the digit b more: a greater value is held as the greatest, and its number is not allowed
unfoldable pub more_of : Number → ℕ → Number
more_of n b =
    record {
      digits = n.digits + 1;
      value = min (n.value * 10 + (b - 48)) greatest;
      commas = n.commas;
      allowed = leb (n.value * 10 + (b - 48)) greatest && n.allowed;
    }

-- whether the numbers up to this one are allowed
unfoldable pub still_of : Wanted → Number → Bool
still_of wanted n = n.allowed && within wanted.low wanted.high n.value

unfoldable pub with_digit : Wanted → Number → ℕ → State
with_digit wanted n b =
    choose (leb wanted.digits n.digits) Bad
    (choose (eqb n.digits 0) (Numbers (more_of n b)) (choose (eqb n.value 0) Bad (Numbers (more_of n b))))

unfoldable pub with_comma : Wanted → Number → State
with_comma wanted n =
    choose (eqb n.digits 0) Bad
    (choose (eqb n.commas 0) Bad
    (Numbers (record { digits = 0; value = 0; commas = n.commas - 1; allowed = still_of wanted n })))

unfoldable pub with_letter : List ℕ → ℕ → ℕ → State
with_letter word letters b =
    choose (leb (length word) letters) Bad (choose (eqb b (get_or word letters 0)) (Letters (letters + 1)) Bad)

unfoldable pub opened : Wanted → List ℕ → ℕ → State
opened wanted word letters =
    choose (eqb letters (length word))
    (Numbers (record { digits = 0; value = 0; commas = wanted.commas; allowed = true }))
    Bad

-- a byte's class says what it does to a word, and to numbers
abbrev pub in_word : Wanted → List ℕ → ℕ → ℕ → bytes.Class → State
in_word wanted word letters b bytes.letter = with_letter word letters b
in_word wanted word letters b bytes.equals = opened wanted word letters
in_word wanted word letters b bytes.digit = Bad
in_word wanted word letters b bytes.comma = Bad
in_word wanted word letters b bytes.line_end = Bad
in_word wanted word letters b bytes.other = Bad

abbrev pub in_numbers : Wanted → Number → ℕ → bytes.Class → State
in_numbers wanted n b bytes.digit = with_digit wanted n b
in_numbers wanted n b bytes.comma = with_comma wanted n
in_numbers wanted n b bytes.equals = Bad
in_numbers wanted n b bytes.line_end = Bad
in_numbers wanted n b bytes.letter = Bad
in_numbers wanted n b bytes.other = Bad

-- the machine's step, for a byte and its class
abbrev pub step_of : Wanted → List ℕ → ℕ → bytes.Class → State → State
step_of wanted word b class (Letters letters) = in_word wanted word letters b class
step_of wanted word b class (Numbers n) = in_numbers wanted n b class
step_of wanted word b class Bad = Bad

-- at the line end: one number more, no comma to come, all allowed
unfoldable pub closed_number : Wanted → Number → ℕ → Brief
closed_number wanted n next =
    choose (eqb n.digits 0) (stopped 10 wanted.line)
    (choose (eqb n.commas 0)
    (choose (still_of wanted n) (went n.value next) (stopped 12 wanted.line))
    (stopped 10 wanted.line))

abbrev pub closed_of : Wanted → State → ℕ → Brief
closed_of wanted (Letters letters) next = stopped 10 wanted.line
closed_of wanted (Numbers n) next = closed_number wanted n next
closed_of wanted Bad next = stopped 10 wanted.line

-- what the machine comes to on the last bytes of so many
abbrev pub run_of : ℕ → Wanted → List ℕ → State → List ℕ → Brief
run_of size wanted word state [] = stopped 10 wanted.line
run_of size wanted word state (b ∷ rest) =
    choose (eqb b 10) (closed_of wanted state (size - length rest)) (run_of size wanted word (step_of wanted word b (class_of b) state) rest)
