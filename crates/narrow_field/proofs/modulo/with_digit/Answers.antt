-- `narrow_field::modulo::with_digit` meets its contract: a digit 1 and a digit 0 of the exponent are one law each. Assumes nothing.
use Rattle.std.proofs.Common.{ℕ, ap, ◌∙◌, ◌/◌}
use native.Mathlib.Omega.{arith}
use Rattle.arithmetic.specs.Modulo.{mul, pow}
use Rattle.arithmetic.proofs.Power.{power_even, power_odd}
use Rattle.narrow_field.specs.Narrow.{p}
use Rattle.narrow_field.proofs.modulo.with_digit.Goals as goal

pub returns-then-left-eq1 : goal.returns-then-left-eq1
returns-then-left-eq1 c = (
  omega (arith, c.times.ensures),
  ap (λ (r : ℕ). mul p r (pow p (mul p c.args.base c.args.base) (c.args.left / 2))) c.times.ensures
      ∙ power_odd p c.args.done c.args.base c.args.left c.if-left-eq1.true,
)

pub returns-else-left-eq1 : goal.returns-else-left-eq1
returns-else-left-eq1 c = (c.requires, power_even p c.args.done c.args.base c.args.left c.if-left-eq1.false)
