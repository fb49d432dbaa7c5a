-- The code's answers in document 01's terms: for each the definition that gives the document's number and values.
use Rattle.std.specs.Prelude.{ℕ, Result, Ok, Err}
use Rattle.refusals.specs.First.{Answer, refused, given}
use Rattle.refusals.specs.Said.{number_of}
use Rattle.sumcheck.specs.Protocol as Protocol
use Rattle.sumcheck.specs.Protocol.{accepted, rejected, reached, failed}
use Rattle.narrow_checker.specs.declared.failure.Failure.{Failure}
use Rattle.narrow_checker.specs.declared.failure.Failure.TheVariants.{Refused, Rejected}

-- an answer, from what a value and what a rejecting round say
abbrev pub said_by : {A B : Type 0} → (A → B) → (ℕ → B) → Result A Failure → Answer B
said_by value rejecting (Ok a) = given (value a)
said_by value rejecting (Err (Rejected round)) = given (rejecting round)
said_by value rejecting (Err (Refused refusal)) = refused (number_of refusal)

-- the checker's verdict, and closing's
abbrev pub said : Result (Unit {0}) Failure → Answer Protocol.Verdict
said answer = said_by (λ x. accepted) rejected answer

-- what the checker without tables answers
abbrev pub said_rounds : Result ℕ Failure → Answer Protocol.Rounds
said_rounds answer = said_by reached failed answer
