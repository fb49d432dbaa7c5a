-- `narrow_field::modulo::to_power` meets its contract: what is done times base^left is a^e all along, and what is done is an element. Assumes nothing.
use Rattle.std.proofs.Common.{ℕ, sym, ap, ◌∙◌}
use native.Mathlib.Nat.{mod-eq_of_lt}
use native.Mathlib.Omega.{arith}
use Rattle.arithmetic.specs.Modulo.{mul, pow}
use Rattle.arithmetic.proofs.Power.{power_start, power_end}
use Rattle.narrow_field.specs.Narrow.{p}
use Rattle.narrow_field.proofs.modulo.to_power.Goals as goal

pub loop-left-init : goal.loop-left-init
loop-left-init c = (omega arith, power_start p c.args.a c.args.e)

pub returns : goal.returns
returns c =
    sym (mod-eq_of_lt c.loop-left.invariant.0)
    ∙ (sym (power_end p c.loop-left.done c.loop-left.base)
    ∙ (ap (λ (e : ℕ). mul p c.loop-left.done (pow p c.loop-left.base e)) (sym c.loop-left-test.false) ∙ c.loop-left.invariant.1))
