-- `narrow_prover::fold::fold_table` meets its contract: the first i places are folded, and the places that are read are as they were. Assumes nothing.
use Rattle.std.proofs.Common.{ℕ, ◌+◌, ◌≤◌, List, get_or, ap, ap₂, ◌∙◌}
use native.Mathlib.Omega.{arith}
use Rattle.sumcheck.specs.Folding.{between}
use Rattle.sumcheck.proofs.Written.{written_none, written_next, written_at}
use Rattle.narrow_field.specs.Narrow.{p}
use Rattle.narrow_prover.proofs.fold.fold_table.Invariants.{at_last}
use Rattle.narrow_prover.proofs.fold.fold_table.Goals as goal

pub loop-i-init : goal.loop-i-init
loop-i-init c = written_none (at_last c.args.r c.args.half c.args.table.now) c.args.table.now

pub loop-i-preserved : goal.loop-i-preserved
loop-i-preserved c =
    let a = c.args in
    let table = c.args.table.now in
    let at = c.loop-i in
    let as_it_was = λ (j : ℕ) (h : c.loop-i.i ≤ j). ap (λ (xs : List ℕ). get_or xs j 0) at.invariant ∙ written_at (at_last a.r a.half table) at.i table j h in
    written_next (at_last a.r a.half table) at.i table at.table c.point_between.result at.invariant (omega arith)
    (c.point_between.ensures ∙ ap₂ (between p a.r) (as_it_was at.i (omega arith)) (as_it_was (a.half + at.i) (omega arith)))
