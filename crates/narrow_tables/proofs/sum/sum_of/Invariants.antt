-- `narrow_tables::sum::sum_of`: the total is the sum over the places from i on.
use Rattle.std.proofs.Common.{◌≡◌, ◌-◌, map}
use Rattle.polynomial.specs.Elements.{sum, count_from}
use Rattle.sumcheck.proofs.Halves.{column}
use Rattle.narrow_field.specs.Narrow.{p}
use Rattle.narrow_lent.specs.Tables.{lists}
use Rattle.narrow_tables.proofs.sum.sum_of.Given as goal

abbrev pub invariant-loop-i : goal.invariant-loop-i
invariant-loop-i l =
    l.total ≡ sum p (map (column p (lists l.tables)) (count_from l.i (l.tables.places - l.i)))
