-- `narrow_prover::prove::Folding::write_round` meets its contract: the first places of the array are the polynomial, and the tables are folded after it is
-- made. Assumes nothing.
use Rattle.std.proofs.Common.{ℕ, ◌+◌, ◌-◌, List, ◌++◌, take, drop, ap, ◌∙◌}
use native.Mathlib.Omega.{arith}
use Rattle.sumcheck.specs.Lent.{parts}
use Rattle.sumcheck.proofs.Laid.{parts_count}
use Rattle.sumcheck.proofs.Terms.{sum_taken}
use Rattle.narrow_field.specs.Narrow.{p}
use Rattle.narrow_prover.proofs.folding.Folding.write_round.Goals as goal

pub returns : goal.returns
returns c =
    let s = c.args.self in
    let us = parts c.args.self.count c.args.self.places c.args.tables.now in (
      ap (λ (r : List ℕ). r ++ drop (s.count + 1) c.args.part.now)
          (c.copy_from_slice.ensures.after
          ∙ (ap (take (s.count + 1)) c.round-coefficients.ensures
          ∙ sum_taken p s.half s.count (3 - s.count) (omega arith) c.requires.0 us (parts_count s.count s.places c.args.tables.now))),
      c.fold.ensures,
    )
