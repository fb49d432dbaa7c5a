-- `narrow_prover::round::Folding::round` meets its contract: the sum over the places from i on. Assumes nothing.
use Rattle.std.proofs.Common.{◌≡◌, ℕ, ◌+◌, ◌-◌, replicate, sym, ap, ap₂, ◌∙◌}
use native.Mathlib.Omega.{arith}
use Rattle.polynomial.specs.Polynomial.{plus}
use Rattle.sumcheck.specs.Lent.{parts}
use Rattle.sumcheck.proofs.Laid.{parts_count}
use Rattle.sumcheck.proofs.Terms.{sum_start, sum_step}
use Rattle.narrow_field.specs.Narrow.{p}
use Rattle.narrow_prover.proofs.folding.Folding.round.Goals as goal

pub loop-i-init : goal.loop-i-init
loop-i-init c =
    let s = c.args.self in
    let all : c.args.self.count + 1 + (3 - c.args.self.count) ≡ 4 = omega (arith, c.args.self.few) in
    sym (sum_start p s.half s.count (3 - s.count) (parts s.count s.places c.args.tables.now) ∙ ap (λ (z : ℕ). replicate z 0) all)

pub loop-i-preserved : goal.loop-i-preserved
loop-i-preserved c =
    let s = c.args.self in
    let tables = c.args.tables.now in
    let at = c.loop-i in
    c.added-next.ensures
    ∙ (ap₂ (plus p) c.term.ensures at.invariant
    ∙ sum_step p s.half s.count (3 - s.count) at.i (parts s.count s.places tables) (parts_count s.count s.places tables) (omega arith) (omega arith))
