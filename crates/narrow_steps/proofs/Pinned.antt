-- No two states and no two answers say the same (refusals, specs/Pinned). Assumes nothing.
use mathlib.Core.Path.{refl, ap, ap₂}
use Rattle.std.specs.Prelude.{Ok, Err}
use Rattle.refusals.specs.First.{Answer}
use Rattle.refusals.specs.Pinned.{Pins}
use Rattle.refusals.specs.declared.refusal.Refusal.{Refusal}
use Rattle.refusals.proofs.Pinned.{refusal_pins}
use Rattle.sumcheck.specs.Steps as Steps
use Rattle.narrow_checker.proofs.Pinned.{by_pins, said_pins}
use Rattle.narrow_steps.specs.Said.{state_of, said_back, said_opening, said_opened, said_step, said_stepped, said_closed}
use Rattle.narrow_steps.specs.declared.state.State.{State}
use Rattle.narrow_steps.specs.declared.state.Back.{Back}

pub opening_pins : Pins said_opening
opening_pins (Ok x) (Ok y) e = refl
opening_pins (Ok x) (Err r) e = cc
opening_pins (Err r) (Ok x) e = cc
opening_pins (Err q) (Err r) e = ap (λ (refusal : Refusal). Err refusal) (refusal_pins q r cc)

pub step_pins : Pins said_step
step_pins = by_pins (λ x y e. refl) (λ i j e. cc) (λ x j e. cc)

pub state_pins : Pins state_of
state_pins s t e =
    ap {B = State} (λ (x : Steps.State). record { vars = x.vars; degree = x.degree; taken = x.taken; claim = x.claim; rejected = x.mark }) e

-- what is handed back, where no two outcomes say the same
pub back_pins : {O A : Type 0} {outcome : O → Answer A} → Pins outcome → Pins (said_back outcome)
back_pins {O} {A} one b d e =
    ap₂ {B = O} {C = Back O} (λ (s : State) (o : O). record { state = s; outcome = o })
    (state_pins b.state d.state (ap (λ (x : Steps.Back A). x.state) e))
    (one b.outcome d.outcome (ap (λ (x : Steps.Back A). x.outcome) e))

pub opened_pins : Pins said_opened
opened_pins = back_pins opening_pins

pub stepped_pins : Pins said_stepped
stepped_pins = back_pins step_pins

pub closed_pins : Pins said_closed
closed_pins = back_pins said_pins
