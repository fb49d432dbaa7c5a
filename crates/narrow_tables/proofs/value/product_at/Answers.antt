-- `narrow_tables::value::product_at` meets its contract: one table more is one factor more. Assumes nothing.
use Rattle.std.proofs.Common.{ℕ, ◌*◌, List, sym, ap, ap₂, ◌∙◌}
use Rattle.arithmetic.specs.Modulo.{mul}
use Rattle.sumcheck.specs.Extension.{extension}
use Rattle.sumcheck.proofs.Parts.{product_none, product_more, part_of}
use Rattle.narrow_field.specs.Narrow.{p}
use Rattle.narrow_tables.proofs.value.product_at.Goals as goal

pub loop-table-init : goal.loop-table-init
loop-table-init c =
    let point = c.args.point.now in
    product_none p (λ (t : List ℕ). extension p t point) c.args.tables.places c.args.tables.numbers.now

pub loop-table-preserved : goal.loop-table-preserved
loop-table-preserved c =
    let value : List ℕ → ℕ = λ t. extension p t c.args.point.now in
    let places = c.args.tables.places in
    let numbers = c.args.tables.numbers.now in
    let table = c.loop-table.table in
    c.times-value.ensures
    ∙ ap₂ (mul p) c.loop-table.invariant (c.extension_at.ensures ∙ ap value (part_of (table * places) places numbers))
    ∙ sym (product_more p value places table numbers)
