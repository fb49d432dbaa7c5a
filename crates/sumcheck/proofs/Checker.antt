-- What is demanded of the checker's own answer (specs/Checker). The course of the rounds decides the verdict; what is not refused is well formed, so
-- the protocol's demands hold of the answer. Assumes nothing.
use mathlib.Core.Logic.{◌↔◌}
use mathlib.Core.Path.{◌≡◌, refl, sym, ap, subst, ◌∙◌}
use mathlib.Core.Bool.{Bool, true, false}
use mathlib.Core.List.{List, [], ◌∷◌}
use Prim.Native.Nat.{ℕ, suc, ◌+◌, ◌^◌, ◌<◌}
use native.Mathlib.Omega.{arith}
use lib.Dec.{eqb}
use lib.ListN.{length}
use borrow.Author.Tests.{eq-eqb, ne_eqb, eqb-true, eqb-false}
use Rattle.polynomial.specs.Elements.{Every}
use Rattle.refusals.specs.First.{given, first, choose}
use Rattle.refusals.proofs.First.{choose-true, choose-false}
use Rattle.refusals.proofs.Order.{given_by, refused_by, decided_given, decided_refused}
use Rattle.sumcheck.specs.Function.{f, true_sum}
use Rattle.sumcheck.specs.Protocol.{reached, failed, rounds, Verdict, accepted, rejected, final, verdict}
use Rattle.sumcheck.specs.Lent.{tables_of, messages_of}
use Rattle.sumcheck.specs.Entries.{checker_rules, checker_answer}
use Rattle.sumcheck.specs.Demands.{WellFormed, Sound, NoVariables}
use Rattle.sumcheck.specs.Checker.{claim_after, SumAgrees, SumsAgree, Fails, at_sum, at_final, AcceptsExactly, RejectsFirst, RefusesFirst}
use Rattle.sumcheck.specs.Checker.{AnswerSound, AnswerCertain}
use Rattle.sumcheck.proofs.Soundness.{sound, no_variables}
use Rattle.sumcheck.proofs.Entries.{RoundsLent, checker_lent}
use Rattle.sumcheck.proofs.Course.{Course, fair, foul, course, fair-reached, foul-failed}
use Rattle.sumcheck.proofs.Messages.{parts-elements}
use Rattle.sumcheck.proofs.Laid.{parts_count, parts_lengths}

-- the verdict of m rounds, by their course
module _ (n v c : ℕ) (rs : List ℕ) (ms : List (List ℕ)) (m : ℕ) (e : length rs ≡ m) (g : length ms ≡ length rs) where
  fair-final : SumsAgree n c rs ms m → final m v (rounds n c rs ms) ≡ choose (eqb (claim_after n c rs ms m) v) accepted (rejected m)
  fair-final u =
      ap (final m v)
      (fair-reached n 1 c rs ms g (subst (SumsAgree n c rs ms) (sym e) u) ∙ ap (λ (i : ℕ). reached (claim_after n c rs ms i)) e)

  foul-final : (j : ℕ) → j < m → SumsAgree n c rs ms j → (SumAgrees n c rs ms j → ⊥) → final m v (rounds n c rs ms) ≡ rejected (suc j)
  foul-final j l u w = ap (final m v) (foul-failed n 1 c rs ms g j (omega arith) u w ∙ ap failed one)
    where
      one : 1 + j ≡ suc j
      one = omega arith

  accepts : final m v (rounds n c rs ms) ≡ accepted → SumsAgree n c rs ms m × (claim_after n c rs ms m ≡ v)
  accepts h = go (course n c rs ms g) (eqb (claim_after n c rs ms m) v) refl
    where
      go : Course n c rs ms → (b : Bool) → eqb (claim_after n c rs ms m) v ≡ b → SumsAgree n c rs ms m × (claim_after n c rs ms m ≡ v)
      go (fair u) true t = (subst (SumsAgree n c rs ms) e u, eqb-true (claim_after n c rs ms m) v t)
      go (fair u) false t =
          let z : rejected m ≡ accepted = sym (fair-final (subst (SumsAgree n c rs ms) e u) ∙ choose-false accepted (rejected m) t) ∙ h in cc
      go (foul j l u w) b t =
          let z : rejected (suc j) ≡ accepted = sym (foul-final j (omega arith) u w) ∙ h in cc

  accepted_by : SumsAgree n c rs ms m → claim_after n c rs ms m ≡ v → final m v (rounds n c rs ms) ≡ accepted
  accepted_by u w = fair-final u ∙ choose-true accepted (rejected m) (eq-eqb (claim_after n c rs ms m) v w)

  rejects_by : (round : ℕ) → Fails n m v c rs ms round → final m v (rounds n c rs ms) ≡ rejected round
  rejects_by round (at_sum j l u w) = foul-final j l u w
  rejects_by round (at_final u w) = fair-final u ∙ choose-false accepted (rejected m) (ne_eqb (claim_after n c rs ms m) v w)

  fails : (round : ℕ) → final m v (rounds n c rs ms) ≡ rejected round → Fails n m v c rs ms round
  fails round h = go (course n c rs ms g) (eqb (claim_after n c rs ms m) v) refl
    where
      go : Course n c rs ms → (b : Bool) → eqb (claim_after n c rs ms m) v ≡ b → Fails n m v c rs ms round
      go (fair u) true t =
          let z : accepted ≡ rejected round = sym (fair-final (subst (SumsAgree n c rs ms) e u) ∙ choose-true accepted (rejected m) t) ∙ h in cc
      go (fair u) false t =
          let z : rejected m ≡ rejected round = sym (fair-final (subst (SumsAgree n c rs ms) e u) ∙ choose-false accepted (rejected m) t) ∙ h in
          let y : m ≡ round = cc in
          subst (Fails n m v c rs ms) y (at_final (subst (SumsAgree n c rs ms) e u) (eqb-false (claim_after n c rs ms m) v t))
      go (foul j l u w) b t =
          let z : rejected (suc j) ≡ rejected round = sym (foul-final j (omega arith) u w) ∙ h in
          let y : suc j ≡ round = cc in
          subst (Fails n m v c rs ms) y (at_sum j (omega arith) u w)

-- the verdict on what was lent and not refused
module _ (n vars degree : ℕ) (tables : List ℕ) (claim : ℕ) (challenges messages : List ℕ)
    (z : first (checker_rules n vars degree tables claim challenges messages) ≡ 0) where
  lent : RoundsLent n vars degree claim challenges messages
  lent = checker_lent n vars degree tables claim challenges messages refl z

  counted : length (messages_of vars degree messages) ≡ length challenges
  counted = parts_count vars (suc degree) messages ∙ sym lent.rounds

  judged : verdict n (tables_of vars degree tables) claim challenges (messages_of vars degree messages)
      ≡ final vars (f n (tables_of vars degree tables) challenges) (rounds n claim challenges (messages_of vars degree messages))
  judged = ap (λ (m : ℕ). final m (f n (tables_of vars degree tables) challenges) (rounds n claim challenges (messages_of vars degree messages))) lent.rounds

  answered : {a : Verdict} → final vars (f n (tables_of vars degree tables) challenges) (rounds n claim challenges (messages_of vars degree messages)) ≡ a
      → checker_answer n vars degree tables claim challenges messages ≡ given a
  answered {a} h =
      sym
      (given_by (checker_rules n vars degree tables claim challenges messages) refl
      (verdict n (tables_of vars degree tables) claim challenges (messages_of vars degree messages)) refl z)
      ∙ ap given (judged ∙ h)

  -- what the checker has seen to before it judges
  well_formed : WellFormed n (tables_of vars degree tables) challenges (messages_of vars degree messages)
  well_formed =
      record {
        rounds = counted;
        lengths =
            subst (λ (k : ℕ). Every (λ (s : List ℕ). length s ≡ suc k) (messages_of vars degree messages)) (sym (parts_count degree (2 ^ vars) tables))
            (parts_lengths vars (suc degree) messages (omega (arith, lent.long)));
        elements = parts-elements n vars (suc degree) messages lent.numbers;
      }

-- an answer that is no refusal, taken apart
said : (n vars degree : ℕ) (tables : List ℕ) (claim : ℕ) (challenges messages : List ℕ) (a : Verdict)
    → checker_answer n vars degree tables claim challenges messages ≡ given a
    → (first (checker_rules n vars degree tables claim challenges messages) ≡ 0)
    × (verdict n (tables_of vars degree tables) claim challenges (messages_of vars degree messages) ≡ a)
said n vars degree tables claim challenges messages a h =
    decided_given (checker_rules n vars degree tables claim challenges messages) refl
    (verdict n (tables_of vars degree tables) claim challenges (messages_of vars degree messages)) a h

-- so an answer is exactly what the verdict on what was not refused is
exactly : (n vars degree : ℕ) (tables : List ℕ) (claim : ℕ) (challenges messages : List ℕ) (a : Verdict) (B : Type 0) →
    let v = f n (tables_of vars degree tables) challenges in
    let ms = messages_of vars degree messages in
    (length challenges ≡ vars → length ms ≡ length challenges → (final vars v (rounds n claim challenges ms) ≡ a) ↔ B)
    → (checker_answer n vars degree tables claim challenges messages ≡ given a)
    ↔ ((first (checker_rules n vars degree tables claim challenges messages) ≡ 0) × B)
exactly n vars degree tables claim challenges messages a B h = (
  λ (w : checker_answer n vars degree tables claim challenges messages ≡ given a).
      let d = said n vars degree tables claim challenges messages a w in
      (d.0, (its d.0).0 (sym (judged n vars degree tables claim challenges messages d.0) ∙ d.1)),
  λ (t : (first (checker_rules n vars degree tables claim challenges messages) ≡ 0) × B).
      answered n vars degree tables claim challenges messages t.0 ((its t.0).1 t.1),
)
  where
    its : first (checker_rules n vars degree tables claim challenges messages) ≡ 0
        → (final vars (f n (tables_of vars degree tables) challenges) (rounds n claim challenges (messages_of vars degree messages)) ≡ a) ↔ B
    its z = h (lent n vars degree tables claim challenges messages z).rounds (counted n vars degree tables claim challenges messages z)

pub accepts_exactly : AcceptsExactly
unfolding AcceptsExactly
accepts_exactly n vars degree tables claim challenges messages =
    exactly n vars degree tables claim challenges messages accepted
    (SumsAgree n claim challenges ms vars × (claim_after n claim challenges ms vars ≡ v))
    (λ (e : length challenges ≡ vars) (g : length ms ≡ length challenges). (
      accepts n v claim challenges ms vars e g,
      λ (t : SumsAgree n claim challenges ms vars × (claim_after n claim challenges ms vars ≡ v)). accepted_by n v claim challenges ms vars e g t.0 t.1,
    ))
  where
    v : ℕ
    v = f n (tables_of vars degree tables) challenges

    ms : List (List ℕ)
    ms = messages_of vars degree messages

pub rejects_first : RejectsFirst
unfolding RejectsFirst
rejects_first n vars degree tables claim challenges messages round =
    exactly n vars degree tables claim challenges messages (rejected round) (Fails n vars v claim challenges ms round)
    (λ (e : length challenges ≡ vars) (g : length ms ≡ length challenges).
    (fails n v claim challenges ms vars e g round, rejects_by n v claim challenges ms vars e g round))
  where
    v : ℕ
    v = f n (tables_of vars degree tables) challenges

    ms : List (List ℕ)
    ms = messages_of vars degree messages

pub refuses_first : RefusesFirst
unfolding RefusesFirst
refuses_first n vars degree tables claim challenges messages number = (
  decided_refused (checker_rules n vars degree tables claim challenges messages) refl
      (verdict n (tables_of vars degree tables) claim challenges (messages_of vars degree messages)) number,
  λ (t : (first (checker_rules n vars degree tables claim challenges messages) ≡ number) × (number ≡ 0 → ⊥)).
      sym (refused_by (checker_rules n vars degree tables claim challenges messages) refl
      (verdict n (tables_of vars degree tables) claim challenges (messages_of vars degree messages)) (sym t.0) t.1),
)

pub answer_sound : AnswerSound
unfolding AnswerSound Sound
answer_sound n h vars degree tables claim challenges messages a wrong =
    let d = said n vars degree tables claim challenges messages accepted a in
    let z = d.0 in
    let e : length challenges ≡ vars = (lent n vars degree tables claim challenges messages z).rounds in
    sound n h (tables_of vars degree tables) claim challenges (messages_of vars degree messages) (well_formed n vars degree tables claim challenges messages z)
    (λ (w : claim ≡ true_sum n (tables_of vars degree tables) (length challenges)). wrong (w ∙ ap (true_sum n (tables_of vars degree tables)) e))
    d.1

pub answer_certain : AnswerCertain
unfolding AnswerCertain NoVariables
answer_certain n degree tables claim challenges messages a = go (eqb claim (true_sum n (tables_of 0 degree tables) 0)) refl
  where
    none : (rs : List ℕ) → length rs ≡ 0 → rs ≡ []
    none [] e = refl
    none (r ∷ rs) e = absurd (omega arith)

    go : (b : Bool) → eqb claim (true_sum n (tables_of 0 degree tables) 0) ≡ b → claim ≡ true_sum n (tables_of 0 degree tables) 0
    go true t = eqb-true claim (true_sum n (tables_of 0 degree tables) 0) t
    go false t =
        let d = said n 0 degree tables claim challenges messages accepted a in
        let e : challenges ≡ [] = none challenges (lent n 0 degree tables claim challenges messages d.0).rounds in
        absurd
        (no_variables n (tables_of 0 degree tables) claim (messages_of 0 degree messages) (eqb-false claim (true_sum n (tables_of 0 degree tables) 0) t)
        (sym (ap (λ (rs : List ℕ). verdict n (tables_of 0 degree tables) claim rs (messages_of 0 degree messages)) e) ∙ d.1))
