-- What the code's answers say in document 01's terms: each refusal's number, and a result as an answer. The promises use these.
use Rattle.std.specs.Prelude.{ℕ, Result, Ok, Err}
use Rattle.refusals.specs.First.{Answer, refused, given}
use Rattle.refusals.specs.declared.refusal.Refusal.{Refusal}
use Rattle.refusals.specs.declared.refusal.Refusal.TheVariants.{TooManyVars, BadDegree, WrongLength, TooShort, NoElement, InverseOfZero, StateForbids}
use Rattle.refusals.specs.declared.refusal.Refusal.TheVariants.{NoSuchRound, FileTooLong, BadLine, FileEnds, NotAllowed, FileGoesOn}

-- the number of each refusal, in the order of document 01's table
abbrev pub number_of : Refusal → ℕ
number_of TooManyVars = 1
number_of BadDegree = 2
number_of WrongLength = 3
number_of TooShort = 4
number_of NoElement = 5
number_of InverseOfZero = 6
number_of StateForbids = 7
number_of NoSuchRound = 8
number_of FileTooLong = 9
number_of BadLine = 10
number_of FileEnds = 11
number_of NotAllowed = 12
number_of FileGoesOn = 13

-- a value, or a refusal by its number
abbrev pub said : {A : Type 0} → Result A Refusal → Answer A
said (Ok a) = given a
said (Err refusal) = refused (number_of refusal)

-- the number of a refusal alone; 0 if nothing is refused
abbrev pub number_said : {A : Type 0} → Result A Refusal → ℕ
number_said (Ok a) = 0
number_said (Err refusal) = number_of refusal
