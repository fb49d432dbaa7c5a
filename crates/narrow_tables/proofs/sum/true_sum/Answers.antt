-- `narrow_tables::sum::true_sum` meets its contract: the refusals by their tests, in order; then the sum over the places. Assumes nothing.
use Rattle.std.proofs.Common.{◌≡◌, ◌^◌, map, sym, ap, ◌∙◌, rules}
use native.Mathlib.Omega.{arith}
use Rattle.refusals.specs.First.{given}
use Rattle.polynomial.specs.Elements.{sum, count_from}
use Rattle.sumcheck.specs.Lent.{tables_of}
use Rattle.sumcheck.proofs.Answers.{sum-given}
use Rattle.sumcheck.proofs.Halves.{column, sum_columns}
use Rattle.narrow_field.specs.Narrow.{p}
use Rattle.narrow_lent.specs.Tables.{lists}
use Rattle.narrow_tables.proofs.sum.true_sum.Goals as goal

pub returns : goal.returns
returns c =
    let a = c.args in
    let t = c.in_ok-lent.lent in
    let lent = c.in_ok-lent.ensures.tables in
    let same : sum p (map (column p (lists t)) (count_from 0 t.places))
    ≡ sum p (map (column p (tables_of a.vars a.degree a.tables.now)) (count_from 0 (2 ^ a.vars))) = cc in
    ap given (c.sum_of.ensures ∙ (same ∙ sym (sum_columns p (omega arith) (tables_of a.vars a.degree a.tables.now) a.vars)))
    ∙ sum-given p a.vars a.degree a.tables.now (sym c.in_ok-lent.ensures.refusal) (search rules)
