-- `narrow_steps::state::State::step` meets its contract: one law of the step for each path. Assumes nothing.
use Rattle.std.proofs.Common.{◌≡◌, Bool, false, refl, ap, ◌∙◌, ◌+◌}
use Rattle.refusals.specs.First.{given}
use Rattle.sumcheck.specs.Steps.{Back, Judged, fitted}
use Rattle.sumcheck.proofs.Steps.{unrefused, step_fits, step-rejects}
use Rattle.narrow_field.specs.Narrow.{p}
use Rattle.narrow_steps.specs.Said.{state_of}
use Rattle.narrow_steps.proofs.state.State.step.Goals as goal

-- a step that is not refused finds no mark, and so sets none where the sum fits
pub returns-then-sum_fits : goal.returns-then-sum_fits
returns-then-sum_fits c =
    let s = c.args.self in
    let going : s.rejected ≡ false = (unrefused p (state_of s) c.args.message.now c.args.challenge c.in_default.ensures refl).going in
    ap {B = Back Judged} (λ (mark : Bool). record {
      state = record { vars = s.vars; degree = s.degree; taken = s.taken + 1; claim = c.value_at-claim.result; mark = mark };
      outcome = given fitted;
    }) going
    ∙ step_fits p (state_of s) c.args.message.now c.args.challenge c.in_default.ensures refl
    c.coefficients-c.result c.coefficients-c.ensures c.sum_fits.ensures c.if-sum_fits.true c.value_at-claim.ensures

pub returns : goal.returns
returns c =
    step-rejects p (state_of c.args.self) c.args.message.now c.args.challenge c.in_default.ensures refl
    c.coefficients-c.result c.coefficients-c.ensures c.sum_fits.ensures c.if-sum_fits.false
