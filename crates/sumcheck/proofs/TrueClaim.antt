-- A true claim is accepted by the checker's own answer (specs/Checker, AnswerComplete): the true polynomials one after the other are a list of the
-- exact length and of elements, so nothing is refused, and taken apart they are themselves again. Assumes nothing.
use mathlib.Core.Path.{◌≡◌, refl, sym, ap, ap₂, ◌∙◌}
use mathlib.Core.Bool.{false}
use mathlib.Core.List.{List, [], ◌∷◌, ◌++◌, map, append-nil}
use Prim.Native.Nat.{ℕ, suc, ◌*◌, ◌%◌, ◌<◌}
use native.Mathlib.Nat.{mod-lt}
use lib.ListN.{length, drop}
use lib.Seq.{drop-length}
use borrow.Author.Tests.{eq-eqb}
use Rattle.polynomial.specs.Elements.{sum}
use Rattle.polynomial.proofs.Lists.{sum_reduced}
use Rattle.refusals.specs.First.{◌when◌, given, first, either, outside}
use Rattle.refusals.proofs.First.{choose-true, either-none, outside-append}
use Rattle.refusals.proofs.Order.{given_by, Untested, untested, untested-none, neither_left, neither_right, outside-none}
use Rattle.sumcheck.specs.Corners.{corners}
use Rattle.sumcheck.specs.Function.{f, true_sum}
use Rattle.sumcheck.specs.TruePolynomial.{true_polynomials}
use Rattle.sumcheck.specs.Protocol.{accepted, verdict}
use Rattle.sumcheck.specs.Lent.{join, tables_length, messages_length, tables_of, messages_of, bad_vars, bad_degree, not_long}
use Rattle.sumcheck.specs.Entries.{prover_rules, messages_after, checker_rules, checker_answer}
use Rattle.sumcheck.specs.Demands.{Complete}
use Rattle.sumcheck.specs.Checker.{WellLent, AnswerComplete, ProverAccepted}
use Rattle.sumcheck.proofs.Completeness.{complete}
use Rattle.sumcheck.proofs.Unrefused.{is_long, long_is, inside_is}
use Rattle.sumcheck.proofs.Messages.{join-elements, polynomials_elements, proof-length, proof-parts}

-- a sum is an element
sum_below : (n : ℕ) → 0 < n → (xs : List ℕ) → sum n xs % n < n → sum n xs < n
sum_below n h xs l = rw sum_reduced at l

module _ (n : ℕ) (h : 0 < n) (vars degree : ℕ) (tables challenges : List ℕ) (z : WellLent n vars degree tables challenges) where
  abbrev ts : List (List ℕ)
  ts = tables_of vars degree tables

  abbrev ps : List (List ℕ)
  ps = true_polynomials n ts challenges

  -- no test holds of tables and challenges
  unmet : Untested
      (1 when bad_vars vars
      ∷ 2 when bad_degree degree
      ∷ 3 when either (not_long (tables_length vars degree) tables) (not_long vars challenges)
      ∷ 5 when outside n (tables ++ challenges)
      ∷ [])
  unmet =
      untested
      (1 when bad_vars vars
      ∷ 2 when bad_degree degree
      ∷ 3 when either (not_long (tables_length vars degree) tables) (not_long vars challenges)
      ∷ 5 when outside n (tables ++ challenges)
      ∷ [])
      refl refl z

  split : either (outside n tables) (outside n challenges) ≡ false
  split = sym (outside-append n tables challenges) ∙ unmet.1.1.1.0

  rounds : length challenges ≡ vars
  rounds = is_long vars challenges (neither_right (not_long (tables_length vars degree) tables) (not_long vars challenges) unmet.1.1.0)

  long : length (join ps) ≡ vars * suc degree
  long = proof-length n vars degree tables challenges rounds

  again : messages_of vars degree (join ps) ≡ ps
  again = ap (messages_of vars degree) (sym (append-nil (join ps))) ∙ proof-parts n vars degree tables challenges rounds []

  numbers : outside n (true_sum n ts vars ∷ challenges ++ join ps) ≡ false
  numbers =
      outside-none n (true_sum n ts vars ∷ []) (challenges ++ join ps)
      (inside_is n (true_sum n ts vars ∷ []) (sum_below n h (map (f n ts) (corners vars)) (mod-lt (true_sum n ts vars) h), tt))
      (outside-none n challenges (join ps) (neither_right (outside n tables) (outside n challenges) split)
      (inside_is n (join ps) (join-elements n ps (polynomials_elements n h ts [] challenges))))

  unrefused : 0 ≡ first (checker_rules n vars degree tables (true_sum n ts vars) challenges (join ps))
  unrefused =
      untested-none (checker_rules n vars degree tables (true_sum n ts vars) challenges (join ps)) (
        unmet.0,
        (
          unmet.1.0,
          (
            either-none (neither_left (not_long (tables_length vars degree) tables) (not_long vars challenges) unmet.1.1.0)
                (either-none (long_is vars challenges rounds) (long_is (messages_length vars degree) (join ps) long)),
            (outside-none n tables (true_sum n ts vars ∷ challenges ++ join ps) (neither_left (outside n tables) (outside n challenges) split) numbers, tt),
          ),
        ),
      )

  true_claim_lem : verdict n ts (true_sum n ts vars) challenges (messages_of vars degree (join ps)) ≡ accepted
  unfolding Complete
  true_claim_lem =
      ap₂ {B = List (List ℕ)} (λ (m : ℕ) (ms : List (List ℕ)). verdict n ts (true_sum n ts m) challenges ms) (sym rounds) again
      ∙ complete n h ts challenges

pub answer_complete : AnswerComplete
unfolding AnswerComplete
answer_complete n h vars degree tables challenges z =
    sym
    (given_by (checker_rules n vars degree tables (true_sum n t vars) challenges (join p)) refl
    (verdict n t (true_sum n t vars) challenges (messages_of vars degree (join p))) (unrefused n h vars degree tables challenges z) refl)
    ∙ ap given (true_claim_lem n h vars degree tables challenges z)
  where
    t : List (List ℕ)
    t = tables_of vars degree tables

    p : List (List ℕ)
    p = true_polynomials n (tables_of vars degree tables) challenges

-- the prover leaves the true polynomials, and nothing behind them in a list of the exact length
left : (n vars degree : ℕ) (tables challenges messages scratch : List ℕ) → first (prover_rules n vars degree tables challenges messages scratch) ≡ 0
    → length messages ≡ messages_length vars degree
    → messages_after n vars degree tables challenges messages scratch ≡ join (true_polynomials n (tables_of vars degree tables) challenges)
left n vars degree tables challenges messages scratch z e =
    choose-true (proof ++ drop (messages_length vars degree) messages) messages
    (eq-eqb (first (prover_rules n vars degree tables challenges messages scratch)) 0 z)
    ∙ (ap (λ (l : List ℕ). proof ++ l) (ap (λ (k : ℕ). drop k messages) (sym e) ∙ drop-length messages) ∙ append-nil proof)
  where
    proof : List ℕ
    proof = join (true_polynomials n (tables_of vars degree tables) challenges)

-- what the prover does not refuse is well lent
well_lent : (n vars degree : ℕ) (tables challenges messages scratch : List ℕ) → first (prover_rules n vars degree tables challenges messages scratch) ≡ 0
    → WellLent n vars degree tables challenges
well_lent n vars degree tables challenges messages scratch z =
    let u = untested (prover_rules n vars degree tables challenges messages scratch) refl refl z in
    sym
    (untested-none
    (1 when bad_vars vars
    ∷ 2 when bad_degree degree
    ∷ 3 when either (not_long (tables_length vars degree) tables) (not_long vars challenges)
    ∷ 5 when outside n (tables ++ challenges)
    ∷ [])
    (u.0, (u.1.0, (u.1.1.0, (u.1.1.1.1.0, tt)))))

pub prover_accepted : ProverAccepted
unfolding ProverAccepted AnswerComplete
prover_accepted n h vars degree tables challenges messages scratch z e =
    ap (checker_answer n vars degree tables (true_sum n (tables_of vars degree tables) vars) challenges)
    (left n vars degree tables challenges messages scratch z e)
    ∙ answer_complete n h vars degree tables challenges (well_lent n vars degree tables challenges messages scratch z)
