-- `narrow_field::inverse::inverse_of`: the loop's invariant is Euclid's.
use Rattle.arithmetic.proofs.Euclid.{Euclid}
use Rattle.narrow_field.specs.Narrow.{p}
use Rattle.narrow_field.proofs.inverse.inverse_of.Given as goal

abbrev pub invariant-loop-second : goal.invariant-loop-second
invariant-loop-second l = Euclid p l.fn.a l.first l.second l.before l.coefficient

abbrev pub decreases-loop-second : goal.decreases-loop-second
decreases-loop-second l = l.second
