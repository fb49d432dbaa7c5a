-- A conversion's clause says of each answer of the library what specs/Coded says of it. Assumes nothing.
use mathlib.Core.Path.{◌≡◌, sym, ap₂, ◌∙◌}
use Prim.Native.Nat.{ℕ}
use Rattle.std.specs.Prelude.{Result, Ok, Err, MatchResult}
use Rattle.refusals.specs.Said.{number_of, said}
use Rattle.refusals.specs.declared.refusal.Refusal.{Refusal}
use Rattle.narrow_checker.specs.Said.{said_rounds, said as said_verdict}
use Rattle.narrow_checker.specs.declared.failure.Failure.{Failure}
use Rattle.narrow_checker.specs.declared.failure.Failure.TheVariants.{Rejected, Refused}
use Rattle.narrow_steps.specs.Said.{said_opening, said_step, said_opened, said_stepped, state_of as checker_state}
use Rattle.narrow_steps.specs.declared.state.Back.{Back}
use Rattle.coded.specs.Coded.{with_value, turned_down, of_failure, of_state}
use Rattle.coded.specs.Coded.{of_number, of_done, of_verdict, of_rounds, of_opening, of_step, of_opened, of_stepped}
use Rattle.coded.specs.declared.Answer.{Answer}
use Rattle.coded.specs.declared.State.{State}
use Rattle.coded.specs.declared.Stepped.{Stepped}

-- what converting a result gives, from what converting its value and its error gives
abbrev pub Converts : {T E : Type 0} → (T → Answer) → (E → Answer) → Result T E → Answer → Type 0
Converts value error r a = MatchResult r (λ x. a ≡ value x) (λ e. a ≡ error e)

-- so it leaves one answer, whatever the value and the error
pub converts_once : {T E : Type 0} (value : T → Answer) (error : E → Answer) (r : Result T E) (a b : Answer)
    → Converts value error r a → Converts value error r b → a ≡ b
converts_once value error (Ok x) a b e f = e ∙ sym f
converts_once value error (Err x) a b e f = e ∙ sym f

-- a value or nothing, and a refusal
abbrev refusal_of : Refusal → Answer
refusal_of why = turned_down (number_of why)

abbrev nothing : Unit {0} → Answer
nothing x = with_value 0

pub number_told : (r : Result ℕ Refusal) (a : Answer) → Converts with_value refusal_of r a → a ≡ of_number (said r)
number_told (Ok x) a e = e
number_told (Err why) a e = e

pub done_told : (r : Result (Unit {0}) Refusal) (a : Answer) → Converts nothing refusal_of r a → a ≡ of_done (said r)
done_told (Ok x) a e = e
done_told (Err why) a e = e

pub opening_told : (r : Result (Unit {0}) Refusal) (a : Answer) → Converts nothing refusal_of r a → a ≡ of_opening (said_opening r)
opening_told (Ok x) a e = e
opening_told (Err why) a e = e

-- a value or nothing, and a failure
pub verdict_told : (r : Result (Unit {0}) Failure) (a : Answer) → Converts nothing of_failure r a → a ≡ of_verdict (said_verdict r)
verdict_told (Ok x) a e = e
verdict_told (Err (Rejected j)) a e = e
verdict_told (Err (Refused why)) a e = e

pub rounds_told : (r : Result ℕ Failure) (a : Answer) → Converts with_value of_failure r a → a ≡ of_rounds (said_rounds r)
rounds_told (Ok x) a e = e
rounds_told (Err (Rejected j)) a e = e
rounds_told (Err (Refused why)) a e = e

pub step_told : (r : Result (Unit {0}) Failure) (a : Answer) → Converts nothing of_failure r a → a ≡ of_step (said_step r)
step_told (Ok x) a e = e
step_told (Err (Rejected j)) a e = e
step_told (Err (Refused why)) a e = e

-- what is handed back
both : {s t : State} {a b : Answer} → s ≡ t → a ≡ b → ◌≡◌ {A = Stepped} (record { state = s; answer = a }) (record { state = t; answer = b })
both e f = ap₂ {B = Answer} {C = Stepped} (λ (s : State) (a : Answer). record { state = s; answer = a }) e f

pub opened_told : (b : Back (Result (Unit {0}) Refusal)) (s : Stepped) → s.state ≡ of_state (checker_state b.state)
    → Converts nothing refusal_of b.outcome s.answer → s ≡ of_opened (said_opened b)
opened_told b s e f = both e (opening_told b.outcome s.answer f)

pub stepped_told : (b : Back (Result (Unit {0}) Failure)) (s : Stepped) → s.state ≡ of_state (checker_state b.state)
    → Converts nothing of_failure b.outcome s.answer → s ≡ of_stepped (said_stepped b)
stepped_told b s e f = both e (step_told b.outcome s.answer f)
