-- `narrow_tables::sum::column_at`: the product over the tables so far.
use Rattle.std.proofs.Common.{◌≡◌}
use Rattle.sumcheck.specs.Lent.{parts}
use Rattle.sumcheck.proofs.Halves.{column}
use Rattle.narrow_field.specs.Narrow.{p}
use Rattle.narrow_tables.proofs.sum.column_at.Given as goal

abbrev pub invariant-loop-table : goal.invariant-loop-table
invariant-loop-table l = l.value ≡ column p (parts l.table l.tables.places l.tables.numbers.now) l.i
