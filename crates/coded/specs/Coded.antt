-- Answers in numbers, as they cross to other languages. kind 0: given; 1: rejected, with its round; 2: refused, with its number and its line.
use Rattle.std.specs.Prelude.{Bool, true, false, not, ℕ, eqb}
use Rattle.refusals.specs.First as First
use Rattle.refusals.specs.First.{refused, given}
use Rattle.refusals.specs.Said.{number_of}
use Rattle.narrow_checker.specs.declared.failure.Failure.{Failure}
use Rattle.narrow_checker.specs.declared.failure.Failure.TheVariants.{Rejected, Refused}
use Rattle.sumcheck.specs.Protocol as Protocol
use Rattle.sumcheck.specs.Protocol.{accepted, rejected, reached, failed}
use Rattle.sumcheck.specs.Steps as Steps
use Rattle.sumcheck.specs.Steps.{Back, Judged, fitted, rejects, Opened, opened}
use Rattle.narrow_file.specs.Narrow.{Reply, head, refusal}
use Rattle.coded.specs.declared.Answer.{Answer}
use Rattle.coded.specs.declared.State.{State}
use Rattle.coded.specs.declared.Stepped.{Stepped}
use Rattle.coded.specs.declared.File.{File}

-- the three kinds of answer: a value, a round, a refusal
abbrev pub with_value : ℕ → Answer
with_value x = record { kind = 0; number = 0; line = 0; value = x }

abbrev pub with_round : ℕ → Answer
with_round j = record { kind = 1; number = j; line = 0; value = 0 }

abbrev pub turned_down : ℕ → Answer
turned_down number = record { kind = 2; number = number; line = 0; value = 0 }

-- what fails: a rejecting round, or a refusal
abbrev pub of_failure : Failure → Answer
of_failure (Rejected j) = with_round j
of_failure (Refused why) = turned_down (number_of why)

-- a number; done; a verdict; what the rounds come to; opening; a step
abbrev pub of_number : First.Answer ℕ → Answer
of_number (given x) = with_value x
of_number (refused number) = turned_down number

abbrev pub of_done : First.Answer (Unit {0}) → Answer
of_done (given x) = with_value 0
of_done (refused number) = turned_down number

abbrev pub of_verdict : First.Answer Protocol.Verdict → Answer
of_verdict (given accepted) = with_value 0
of_verdict (given (rejected j)) = with_round j
of_verdict (refused number) = turned_down number

abbrev pub of_rounds : First.Answer Protocol.Rounds → Answer
of_rounds (given (reached c)) = with_value c
of_rounds (given (failed j)) = with_round j
of_rounds (refused number) = turned_down number

abbrev pub of_opening : First.Answer Opened → Answer
of_opening (given opened) = with_value 0
of_opening (refused number) = turned_down number

abbrev pub of_step : First.Answer Judged → Answer
of_step (given fitted) = with_value 0
of_step (given (rejects j)) = with_round j
of_step (refused number) = turned_down number

-- a mark as a number, and any number as a mark
abbrev pub bit : Bool → ℕ
bit true = 1
bit false = 0

abbrev pub state_of : State → Steps.State
state_of s = record { vars = s.vars; degree = s.degree; taken = s.taken; claim = s.claim; mark = not (eqb s.rejected 0) }

abbrev pub of_state : Steps.State → State
of_state s = record { vars = s.vars; degree = s.degree; taken = s.taken; claim = s.claim; rejected = bit s.mark }

abbrev pub of_opened : Back Opened → Stepped
of_opened b = record { state = of_state b.state; answer = of_opening b.outcome }

abbrev pub of_stepped : Back Judged → Stepped
of_stepped b = record { state = of_state b.state; answer = of_step b.outcome }

-- a file's head
abbrev pub of_head : Reply → File
of_head (head vars degree claim) = record { kind = 0; number = 0; line = 0; vars = vars; degree = degree; claim = claim }
of_head (refusal number line) = record { kind = 2; number = number; line = line; vars = 0; degree = 0; claim = 0 }
