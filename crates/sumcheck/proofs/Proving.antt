-- What the prover leaves (specs/Proving). Its definition lays the true polynomials over the list, one after the other; taken apart, each round's part is
-- the round's true polynomial. Assumes nothing.
use mathlib.Core.Path.{◌≡◌, refl, sym, ap, ◌∙◌}
use mathlib.Core.List.{List, [], ◌++◌}
use Prim.Native.Nat.{ℕ, suc, ◌-◌, ◌<◌}
use native.Mathlib.Omega.{arith}
use lib.ListN.{length, take, drop, get_or, replicate}
use lib.Seq.{drop_at}
use Rattle.refusals.specs.First.{first}
use Rattle.refusals.proofs.Order.{kept_by, left_by, untested, neither_right, decided_given, decided_refused}
use Rattle.sumcheck.specs.TruePolynomial.{true_polynomial, true_polynomials}
use Rattle.sumcheck.specs.Lent.{join, tables_length, messages_length, tables_of, messages_of, not_long}
use Rattle.sumcheck.specs.Entries.{prover_rules}
use Rattle.sumcheck.specs.Proving.{ProverKeeps, ProverWrites}
use Rattle.sumcheck.proofs.Messages.{proof-length, proof-parts}
use Rattle.sumcheck.proofs.Soundness.{place}
use Rattle.sumcheck.proofs.Unrefused.{is_long}

-- the true polynomials one after the other, taken apart: each round's part is the round's true polynomial, whatever stands behind them
pub proof-round : (n vars degree : ℕ) (tables challenges : List ℕ) → length challenges ≡ vars → (behind : List ℕ) (j : ℕ) → j < vars →
    let ts = tables_of vars degree tables in
    get_or (messages_of vars degree (join (true_polynomials n ts challenges) ++ behind)) j [] ≡ true_polynomial n ts (take j challenges) (vars - suc j)
proof-round n vars degree tables challenges e behind j l =
    let ts = tables_of vars degree tables in
    ap (λ (ms : List (List ℕ)). get_or ms j []) (proof-parts n vars degree tables challenges e behind)
    ∙ (place n ts challenges [] j (omega (arith, e, l)) ∙ ap (λ (m : ℕ). true_polynomial n ts (take j challenges) (m - suc j)) e)

module _ (n vars degree : ℕ) (tables challenges messages scratch : List ℕ) where
  abbrev written : List ℕ
  written = join (true_polynomials n (tables_of vars degree tables) challenges) ++ drop (messages_length vars degree) messages

  abbrev cleared : List ℕ
  cleared = replicate (tables_length vars degree) 0 ++ drop (tables_length vars degree) scratch

  rounds : first (prover_rules n vars degree tables challenges messages scratch) ≡ 0 → length challenges ≡ vars
  rounds z =
      let u = untested (prover_rules n vars degree tables challenges messages scratch) refl refl z in
      is_long vars challenges (neither_right (not_long (tables_length vars degree) tables) (not_long vars challenges) u.1.1.0)

pub prover_keeps : ProverKeeps
unfolding ProverKeeps
prover_keeps n vars degree tables challenges messages scratch number h =
    let rules = prover_rules n vars degree tables challenges messages scratch in
    let d = decided_refused rules refl tt number h in (
      sym (kept_by rules (written n vars degree tables challenges messages scratch) messages (sym d.0) d.1),
      sym (kept_by rules (cleared n vars degree tables challenges messages scratch) scratch (sym d.0) d.1),
    )

pub prover_writes : ProverWrites
unfolding ProverWrites
prover_writes n vars degree tables challenges messages scratch h =
    let rules = prover_rules n vars degree tables challenges messages scratch in
    let z = (decided_given rules refl tt tt h).0 in
    let e = rounds n vars degree tables challenges messages scratch z in
    let w = written n vars degree tables challenges messages scratch in
    let left = sym (left_by rules w messages refl z) in (
      λ (j : ℕ) (l : j < vars). ap (λ (xs : List ℕ). get_or (messages_of vars degree xs) j []) left
          ∙ proof-round n vars degree tables challenges e (drop (messages_length vars degree) messages) j l,
      ap (drop (messages_length vars degree)) left
          ∙ drop_at (join (true_polynomials n (tables_of vars degree tables) challenges)) (drop (messages_length vars degree) messages)
          (messages_length vars degree)
          (proof-length n vars degree tables challenges e),
      sym (left_by rules (cleared n vars degree tables challenges messages scratch) scratch refl z),
    )
