-- `narrow_tables::value::extension_at` meets its contract: the extension is the point between those of the table's halves at the rest of the point. The
-- measure is the point's length. Assumes nothing.
use Rattle.std.proofs.Common.{ℕ, ◌^◌, List, sym, ap, ap₂, ◌∙◌}
use native.Mathlib.Omega.{arith}
use lib.ListN.{get_or}
use Rattle.arithmetic.proofs.Modulo.{add-zero-mod}
use Rattle.sumcheck.specs.Extension.{extension}
use Rattle.sumcheck.specs.Folding.{between}
use Rattle.sumcheck.proofs.Halves.{single, by_halves}
use Rattle.narrow_field.specs.Narrow.{p}
use Rattle.narrow_tables.proofs.value.+extension_at.Goals as goal

pub returns-in_default : goal.returns-in_default
returns-in_default t c =
    c.plus.ensures ∙ add-zero-mod p (get_or c.args.table.now 0 0) ∙ single p (omega arith) c.args.table.now c.args.point.now c.in_default.ensures.cases

pub returns : goal.returns
returns t c =
    let taken = c.in-Some.ensures.cases in
    let rest = c.in-Some.rest.now in
    let at_rest : List ℕ → ℕ = λ u. extension p u rest in
    let r = c.in-Some.field-0-0.now in
    c.point_between.ensures
    ∙ ap₂ (between p r) (c.extension_at-low.ensures ∙ ap at_rest c.split_at.ensures.front) (c.extension_at-high.ensures ∙ ap at_rest c.split_at.ensures.back)
    ∙ by_halves p (omega arith) r c.args.table.now rest (c.requires ∙ ap (λ (l : ℕ). 2 ^ l) (sym taken.1))
    ∙ ap (extension p c.args.table.now) (sym taken.0)
