-- `narrow_lent::tables::Tables::is_outside` meets its contract: the search ends before the list does. Assumes nothing.
use Rattle.std.proofs.Common.{ℕ, length, nat_lt, ap, ◌∙◌}
use Rattle.sumcheck.proofs.Search.{outside_search}
use Rattle.narrow_field.specs.Narrow.{p}
use Rattle.narrow_lent.proofs.tables.Tables.is_outside.Goals as goal

pub returns : goal.returns
returns c =
    let numbers = c.args.self.numbers.now in
    ap (λ (i : ℕ). nat_lt i (length numbers)) c.first_outside.ensures ∙ outside_search p numbers
