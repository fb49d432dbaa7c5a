-- `narrow_prover::round::Folding::term` meets its contract: the product of the lines of the tables from the one numbered `table` on. Assumes nothing.
use Rattle.std.proofs.Common.{◌∙◌}
use native.Mathlib.Omega.{arith}
use Rattle.sumcheck.proofs.Terms.{term_first, term_turn}
use Rattle.narrow_field.specs.Narrow.{p}
use Rattle.narrow_prover.proofs.folding.Folding.term.Goals as goal

pub loop-table-init : goal.loop-table-init
loop-table-init c = term_first p c.args.self.half c.args.i c.args.self.places c.args.self.count 3 c.args.tables.now

pub loop-table-preserved : goal.loop-table-preserved
loop-table-preserved c =
    let s = c.args.self in
    let at = c.loop-table in
    c.line_times-next.ensures
    ∙ term_turn p s.half c.args.i s.places s.count 3 at.table c.args.tables.now at.product (omega arith) (omega arith) s.few (omega arith) at.invariant
