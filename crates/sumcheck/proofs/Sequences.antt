-- Any sequence of steps, refused ones among it, answers as the protocol does on the steps that were not refused (specs/Sequences). A refused step
-- leaves the state; after a rejecting step all are refused. Assumes nothing.
use mathlib.Core.Path.{◌≡◌, refl, sym, ap, subst, ◌∙◌}
use mathlib.Core.Bool.{Bool, true, false}
use mathlib.Core.List.{List, [], ◌∷◌, ◌++◌}
use Prim.Native.Nat.{ℕ, suc, ◌-◌}
use native.Mathlib.Omega.{arith}
use lib.Dec.{eqb}
use lib.ListN.{length, length-map, replicate}
use borrow.Author.Tests.{eqb-true, eqb-false}
use Rattle.refusals.specs.First.{Answer, refused, first, choose}
use Rattle.refusals.proofs.First.{decide_first}
use Rattle.refusals.proofs.Order.{kept_by, decided_given, decided_refused}
use Rattle.sumcheck.specs.Protocol.{fits, Rounds, rounds, final}
use Rattle.sumcheck.specs.Checker.{claim_after}
use Rattle.sumcheck.specs.Steps.{State, Back, fresh, opening_rules, opened, Judged, fitted, rejects, step_rules, onward, marked, judged, moved}
use Rattle.sumcheck.specs.Steps.{closing_rules, closed}
use Rattle.sumcheck.specs.Sequences.{Input, end_of, outcomes_of, kept, givens, challenges_of, messages_in, taken_by, rejected_by, answers_by, kept_of}
use Rattle.sumcheck.specs.Sequences.{StepsFollow, ClosingFollows, RefusedKeeps, DoubtedAlike}
use Rattle.sumcheck.proofs.Steps.{unrefused, step_rest, closing_rest, step-refused, step_given}
use Rattle.sumcheck.proofs.Followed.{follow, answers, state_at, Ended, through, stopped, ended}

-- a rejected state is refused by every step
marked_refused : (n : ℕ) (s : State) → s.mark ≡ true → (message : List ℕ) (challenge : ℕ) → first (step_rules n s message challenge) ≡ 0 → ⊥
marked_refused n s h message challenge z =
    let w : true ≡ false = sym h ∙ (unrefused n s message challenge refl z).going in cc

-- so it stays, and no input is kept
pub record Stays (n : ℕ) (s : State) (inputs : List Input) : Type 0 where
  pub end : end_of n s inputs ≡ s
  pub none : kept inputs (outcomes_of n s inputs) ≡ []
  pub silent : givens (outcomes_of n s inputs) ≡ []

pub stays : (n : ℕ) (s : State) → s.mark ≡ true → (inputs : List Input) → Stays n s inputs
stays n s h [] = record { end = refl; none = refl; silent = refl }
stays n s h (i ∷ inputs) =
    let e = step-refused n s i.message i.challenge refl (marked_refused n s h i.message i.challenge) in
    let u : Stays n s inputs = stays n s h inputs in
    record {
      end = subst (λ (b : Back Judged). end_of n b.state inputs ≡ s) e u.end;
      none = subst (λ (b : Back Judged). kept (i ∷ inputs) (b.outcome ∷ outcomes_of n b.state inputs) ≡ []) e u.none;
      silent = subst (λ (b : Back Judged). givens (b.outcome ∷ outcomes_of n b.state inputs) ≡ []) e u.silent;
    }

-- a sequence of steps goes the protocol's own course over the inputs that are kept
abbrev Follows : ℕ → State → List Input → State → List (Answer Judged) → List Input → Type 0
Follows n s inputs end outcomes ks = (end ≡ follow n s ks) × (givens outcomes ≡ answers n s ks)

-- one step that is not refused, and the sequence after it
one_step : (n : ℕ) (s : State) (i : Input) (inputs : List Input) → (t : Bool)
    → ((s' : State) → s'.mark ≡ false → Follows n s' inputs (end_of n s' inputs) (outcomes_of n s' inputs) (kept inputs (outcomes_of n s' inputs))) →
    let s' = choose t (onward n s i.message i.challenge) (marked s) in
    let ks = kept inputs (outcomes_of n s' inputs) in
    (end_of n s' inputs ≡ choose t (follow n (onward n s i.message i.challenge) ks) (marked s))
    × (choose t fitted (rejects (suc s.taken)) ∷ givens (outcomes_of n s' inputs)
    ≡ choose t (fitted ∷ answers n (onward n s i.message i.challenge) ks) (rejects (suc s.taken) ∷ []))
one_step n s i inputs true ih =
    let u = ih (onward n s i.message i.challenge) refl in
    (u.0, ap (λ (l : List Judged). fitted ∷ l) u.1)
one_step n s i inputs false ih =
    let u : Stays n (marked s) inputs = stays n (marked s) refl inputs in
    (u.end, ap (λ (l : List Judged). rejects (suc s.taken) ∷ l) u.silent)

followed : (n : ℕ) (inputs : List Input) (s : State) → s.mark ≡ false
    → Follows n s inputs (end_of n s inputs) (outcomes_of n s inputs) (kept inputs (outcomes_of n s inputs))
followed n [] s h = (refl, refl)
followed n (i ∷ inputs) s h = go (eqb (first (step_rules n s i.message i.challenge)) 0) refl (followed n inputs)
  where
    after : Back Judged → Type 0
    after b =
        (end_of n b.state inputs ≡ follow n s (kept (i ∷ inputs) (b.outcome ∷ outcomes_of n b.state inputs)))
        × (givens (b.outcome ∷ outcomes_of n b.state inputs) ≡ answers n s (kept (i ∷ inputs) (b.outcome ∷ outcomes_of n b.state inputs)))

    go : (t : Bool) → eqb (first (step_rules n s i.message i.challenge)) 0 ≡ t
        → ((s' : State) → s'.mark ≡ false → Follows n s' inputs (end_of n s' inputs) (outcomes_of n s' inputs) (kept inputs (outcomes_of n s' inputs)))
        → Follows n s (i ∷ inputs) (end_of n s (i ∷ inputs)) (outcomes_of n s (i ∷ inputs)) (kept (i ∷ inputs) (outcomes_of n s (i ∷ inputs)))
    go true t ih =
        subst after (step_given n s i.message i.challenge refl (eqb-true (first (step_rules n s i.message i.challenge)) 0 t))
        (one_step n s i inputs (fits n i.message s.claim) ih)
    go false t ih =
        subst after (step-refused n s i.message i.challenge refl (eqb-false (first (step_rules n s i.message i.challenge)) 0 t)) (ih s h)

-- where the protocol stands once its rounds came to o
abbrev standing_by : ℕ → ℕ → ℕ → ℕ → List ℕ → List (List ℕ) → Rounds → State
standing_by n vars degree claim rs ms o =
    state_at vars degree (taken_by (length rs) o) (claim_after n claim rs ms (taken_by (length rs) o)) (rejected_by o)

last_round : (j : ℕ) → suc j - 1 ≡ j
last_round j = omega arith

stands : (n vars degree claim : ℕ) (rs : List ℕ) (ms : List (List ℕ)) (s : State) (told : List Judged) → Ended n vars degree claim rs ms s told
    → (s ≡ standing_by n vars degree claim rs ms (rounds n claim rs ms)) × (told ≡ answers_by (length rs) (rounds n claim rs ms))
stands n vars degree claim rs ms s told (through c w o e a) = (
  e ∙ (ap (λ (x : ℕ). state_at vars degree (length rs) x false) w ∙ ap (standing_by n vars degree claim rs ms) (sym o)),
  a ∙ ap (answers_by (length rs)) (sym o),
)
stands n vars degree claim rs ms s told (stopped j l o e a) = (
  e ∙ (ap (λ (i : ℕ). state_at vars degree i (claim_after n claim rs ms i) true) (sym (last_round j)) ∙ ap (standing_by n vars degree claim rs ms) (sym o)),
  a ∙ (ap (λ (i : ℕ). replicate i fitted ++ rejects (suc j) ∷ []) (sym (last_round j)) ∙ ap (answers_by (length rs)) (sym o)),
)

pub steps_follow : StepsFollow
unfolding StepsFollow
steps_follow n vars degree claim inputs =
    let u = followed n inputs (fresh vars degree claim) refl in
    let k = kept_of n vars degree claim inputs in
    let w = stands n vars degree claim (challenges_of k) (messages_in k) (follow n (fresh vars degree claim) k) (answers n (fresh vars degree claim) k)
    (ended n vars degree claim k) in
    (u.0 ∙ w.0, u.1 ∙ (w.1 ∙ ap (λ (m : ℕ). answers_by m (rounds n claim (challenges_of k) (messages_in k))) (length-map k (λ (i : Input). i.challenge))))

-- closing such a state gives the final check of its rounds
pub closed-ended : (n vars degree claim : ℕ) (rs : List ℕ) (ms : List (List ℕ)) (s : State) (told : List Judged) (v : ℕ)
    → Ended n vars degree claim rs ms s told
    → closed s v ≡ final vars v (rounds n claim rs ms)
closed-ended n vars degree claim rs ms s told v (through c w o e a) = ap (λ (x : State). closed x v) e ∙ ap (final vars v) (sym o)
closed-ended n vars degree claim rs ms s told v (stopped j l o e a) = ap (λ (x : State). closed x v) e ∙ ap (final vars v) (sym o)

pub closing_follows : ClosingFollows
unfolding ClosingFollows
closing_follows n vars degree claim inputs v a h =
    let s = end_of n (fresh vars degree claim) inputs in
    let k = kept_of n vars degree claim inputs in
    sym (decided_given (closing_rules n s v) refl (closed s v) a h).1
    ∙ (ap (λ (x : State). closed x v) (followed n inputs (fresh vars degree claim) refl).0
    ∙ closed-ended n vars degree claim (challenges_of k) (messages_in k) (follow n (fresh vars degree claim) k)
    (answers n (fresh vars degree claim) k) v (ended n vars degree claim k))

pub refused_keeps : RefusedKeeps
unfolding RefusedKeeps
refused_keeps n s message challenge number h =
    let d = decided_refused (step_rules n s message challenge) refl (judged n s message) number h in
    sym (kept_by (step_rules n s message challenge) (moved n s message challenge) s (sym d.0) d.1)

pub doubted-alike : DoubtedAlike
unfolding DoubtedAlike
doubted-alike n vars degree claim number h =
    let s = fresh vars degree claim in
    let d = decided_refused (opening_rules n vars degree claim) refl opened number h in
    let some : first (opening_rules n vars degree claim) ≡ 0 → ⊥ = λ (z : first (opening_rules n vars degree claim) ≡ 0). d.1 (sym d.0 ∙ z) in (
      λ (message : List ℕ) (challenge : ℕ). decide_first (opening_rules n vars degree claim) (step_rest n s message challenge) (judged n s message) some
          ∙ ap refused d.0,
      λ (v : ℕ). decide_first (opening_rules n vars degree claim) (closing_rest n s v) (closed s v) some ∙ ap refused d.0,
    )
