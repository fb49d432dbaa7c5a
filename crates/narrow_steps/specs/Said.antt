-- The code's state and answers in document 01's terms: for each the definition that gives the document's number and values.
use Rattle.std.specs.Prelude.{Result, Ok, Err}
use Rattle.refusals.specs.First.{Answer, refused, given}
use Rattle.refusals.specs.Said.{number_of}
use Rattle.refusals.specs.declared.refusal.Refusal.{Refusal}
use Rattle.sumcheck.specs.Protocol as Protocol
use Rattle.sumcheck.specs.Steps as Steps
use Rattle.sumcheck.specs.Steps.{Judged, fitted, rejects, opened}
use Rattle.narrow_checker.specs.Said.{said_by, said}
use Rattle.narrow_checker.specs.declared.failure.Failure.{Failure}
use Rattle.narrow_steps.specs.declared.state.State.{State}
use Rattle.narrow_steps.specs.declared.state.Back.{Back}

-- the state
abbrev pub state_of : State → Steps.State
state_of s = record { vars = s.vars; degree = s.degree; taken = s.taken; claim = s.claim; mark = s.rejected }

-- what a call on a state hands back, from what its outcome says
abbrev pub said_back : {O A : Type 0} → (O → Answer A) → Back O → Steps.Back A
said_back outcome b = record { state = state_of b.state; outcome = outcome b.outcome }

-- what opening, a step and closing hand back
abbrev pub said_opening : Result (Unit {0}) Refusal → Answer Steps.Opened
said_opening (Ok x) = given opened
said_opening (Err refusal) = refused (number_of refusal)

abbrev pub said_opened : Back (Result (Unit {0}) Refusal) → Steps.Back Steps.Opened
said_opened b = said_back said_opening b

abbrev pub said_step : Result (Unit {0}) Failure → Answer Judged
said_step outcome = said_by (λ x. fitted) rejects outcome

abbrev pub said_stepped : Back (Result (Unit {0}) Failure) → Steps.Back Judged
said_stepped b = said_back said_step b

abbrev pub said_closed : Back (Result (Unit {0}) Failure) → Steps.Back Protocol.Verdict
said_closed b = said_back said b
