-- `narrow_tables::sum::column_at` meets its contract: one table more is one factor more. Assumes nothing.
use Rattle.std.proofs.Common.{ℕ, ◌*◌, List, drop, sym, ap₂, ◌∙◌}
use lib.ListN.{get_or}
use lib.Seq.{get_or-take, get_or-drop}
use Rattle.arithmetic.specs.Modulo.{mul}
use Rattle.sumcheck.proofs.Parts.{product_none, product_more}
use Rattle.narrow_field.specs.Narrow.{p}
use Rattle.narrow_tables.proofs.sum.column_at.Goals as goal

pub loop-table-init : goal.loop-table-init
loop-table-init c =
    let i = c.args.i in
    product_none p (λ (t : List ℕ). get_or t i 0) c.args.tables.places c.args.tables.numbers.now

pub loop-table-preserved : goal.loop-table-preserved
loop-table-preserved c =
    let i = c.args.i in
    let places = c.args.tables.places in
    let numbers = c.args.tables.numbers.now in
    let start = c.loop-table.table * places in
    c.times-value.ensures
    ∙ ap₂ (mul p) c.loop-table.invariant (sym (get_or-take places (drop start numbers) i 0 c.requires ∙ get_or-drop start numbers i 0))
    ∙ sym (product_more p (λ (t : List ℕ). get_or t i 0) places c.loop-table.table numbers)
