-- `narrow_lent::tables::Tables::first_outside`: the walker has passed table · places + i numbers, all of them elements.
use Rattle.std.proofs.Common.{◌+◌, ◌*◌}
use Rattle.sumcheck.proofs.Search.{Passed}
use Rattle.narrow_field.specs.Narrow.{p}
use Rattle.narrow_lent.proofs.tables.Tables.first_outside.Given as goal

abbrev pub invariant-loop-i : goal.invariant-loop-i
invariant-loop-i l = Passed p l.self.numbers.now (l.table * l.self.places + l.i)

abbrev pub invariant-loop-table : goal.invariant-loop-table
invariant-loop-table l = Passed p l.self.numbers.now (l.table * l.self.places)
