-- `narrow_field::modulo::to_power`: what is done times base^left is a^e all along, and what is done is an element.
use Rattle.std.proofs.Common.{◌≡◌, ◌<◌}
use Rattle.arithmetic.specs.Modulo.{mul, pow}
use Rattle.narrow_field.specs.Narrow.{p}
use Rattle.narrow_field.proofs.modulo.to_power.Given as goal

abbrev pub invariant-loop-left : goal.invariant-loop-left
invariant-loop-left l = (l.done < p) × (mul p l.done (pow p l.base l.left) ≡ pow p l.fn.a l.fn.e)

abbrev pub decreases-loop-left : goal.decreases-loop-left
decreases-loop-left l = l.left
