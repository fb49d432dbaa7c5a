-- `narrow_prover::round::Folding::term`: the product of the lines of the tables from the one numbered `table` on.
use Rattle.std.proofs.Common.{◌≡◌, ◌-◌, ◌++◌, replicate}
use Rattle.sumcheck.proofs.Terms.{term_left}
use Rattle.narrow_field.specs.Narrow.{p}
use Rattle.narrow_prover.proofs.folding.Folding.term.Given as goal

abbrev pub invariant-loop-table : goal.invariant-loop-table
invariant-loop-table l = l.product ≡ term_left p l.self.half l.i l.self.places l.self.count l.table l.tables ++ replicate (3 - (l.self.count - l.table)) 0
