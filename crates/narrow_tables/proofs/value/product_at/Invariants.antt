-- `narrow_tables::value::product_at`: the product over the tables so far.
use Rattle.std.proofs.Common.{◌≡◌}
use Rattle.sumcheck.specs.Function.{f}
use Rattle.sumcheck.specs.Lent.{parts}
use Rattle.narrow_field.specs.Narrow.{p}
use Rattle.narrow_tables.proofs.value.product_at.Given as goal

abbrev pub invariant-loop-table : goal.invariant-loop-table
invariant-loop-table l = l.value ≡ f p (parts l.table l.tables.places l.tables.numbers.now) l.point
