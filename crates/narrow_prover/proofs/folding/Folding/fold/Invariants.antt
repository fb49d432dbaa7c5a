-- `narrow_prover::fold::Folding::fold`: the first tables are folded, each in its place.
use Rattle.std.proofs.Common.{◌≡◌, map}
use Rattle.sumcheck.specs.Lent.{parts}
use Rattle.sumcheck.proofs.FoldedParts.{folded_part}
use Rattle.sumcheck.proofs.Laid.{laid}
use Rattle.narrow_field.specs.Narrow.{p}
use Rattle.narrow_prover.proofs.folding.Folding.fold.Given as goal

abbrev pub invariant-loop-table : goal.invariant-loop-table
invariant-loop-table l =
    l.tables ≡ laid l.self.places (map (folded_part p l.r l.self.half) (parts l.table l.self.places l.fn.tables)) l.fn.tables
