-- `narrow_prover::round::Folding::round`: the sum over the places from i on.
use Rattle.std.proofs.Common.{◌≡◌, ◌-◌, ◌++◌, replicate}
use Rattle.sumcheck.specs.Lent.{parts}
use Rattle.sumcheck.proofs.Terms.{sum_from}
use Rattle.narrow_field.specs.Narrow.{p}
use Rattle.narrow_prover.proofs.folding.Folding.round.Given as goal

abbrev pub invariant-loop-i : goal.invariant-loop-i
invariant-loop-i l = l.sum ≡ sum_from p l.self.half l.self.count (parts l.self.count l.self.places l.tables) l.i ++ replicate (3 - l.self.count) 0
