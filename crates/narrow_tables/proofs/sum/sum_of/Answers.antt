-- `narrow_tables::sum::sum_of` meets its contract: the total is the sum over the places from i on. Assumes nothing.
use Rattle.std.proofs.Common.{ℕ, List, map, sym, ap, ap₂, ◌∙◌}
use native.Mathlib.Omega.{arith}
use Rattle.arithmetic.specs.Modulo.{add}
use Rattle.polynomial.specs.Elements.{sum}
use Rattle.sumcheck.proofs.Corners.{count_cons, count_none}
use Rattle.sumcheck.proofs.Halves.{column}
use Rattle.narrow_field.specs.Narrow.{p}
use Rattle.narrow_lent.specs.Tables.{lists}
use Rattle.narrow_tables.proofs.sum.sum_of.Goals as goal

pub loop-i-init : goal.loop-i-init
loop-i-init c =
    let at = c.args.tables in
    sym (ap (λ (xs : List ℕ). sum p (map (column p (lists at)) xs)) (count_none at.places))

pub loop-i-preserved : goal.loop-i-preserved
loop-i-preserved c =
    let at = c.args.tables in
    let g = column p (lists at) in
    c.plus-total.ensures
    ∙ (ap₂ (add p) c.column_at.ensures c.loop-i.invariant
    ∙ sym (ap (λ (xs : List ℕ). sum p (map g xs)) (count_cons c.loop-i.i at.places (omega arith) c.loop-i.auto.i)))
