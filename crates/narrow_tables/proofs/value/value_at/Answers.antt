-- `narrow_tables::value::value_at` meets its contract: the refusals by their tests, in order; then the product. Assumes nothing.
use Rattle.std.proofs.Common.{◌≡◌, sym, ap, ◌∙◌, rules}
use native.Mathlib.Omega.{arith}
use Rattle.refusals.specs.First.{given}
use Rattle.refusals.proofs.First.{either_left, either-right, either-none}
use Rattle.sumcheck.specs.Function.{f}
use Rattle.sumcheck.specs.Lent.{tables_of}
use Rattle.sumcheck.proofs.Answers.{value_element, value-given}
use Rattle.narrow_field.specs.Narrow.{p}
use Rattle.narrow_lent.specs.Tables.{lists}
use Rattle.narrow_tables.proofs.value.value_at.Goals as goal
use Rattle.narrow_tables.proofs.value.value_at.Goals.{then-is_outside-via-then-is_outside, then-is_outside-via-else-is_outside+then-is_outside-2}

pub returns-then-is_outside : goal.returns-then-is_outside
returns-then-is_outside c =
    let a = c.args in
    value_element p a.vars a.degree a.tables.now a.point.now (sym c.in_ok-lent.ensures.refusal) (omega arith)
    (elim c.then-is_outside.branch [
      | then-is_outside-via-then-is_outside w ↦ search (rules, either_left)
      | then-is_outside-via-else-is_outside+then-is_outside-2 w ↦ search (rules, either-right)
    ])

pub returns : goal.returns
returns c =
    let a = c.args in
    let t = c.in_ok-lent.lent in
    let lent = c.in_ok-lent.ensures.tables in
    let same : f p (lists t) a.point.now ≡ f p (tables_of a.vars a.degree a.tables.now) a.point.now = cc in
    ap given (c.product_at.ensures ∙ same)
    ∙ value-given p a.vars a.degree a.tables.now a.point.now (sym c.in_ok-lent.ensures.refusal) (omega arith) (search (rules, either-none))
