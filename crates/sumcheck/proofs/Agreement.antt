-- Steps and closing agree with the checker where all inputs are well formed (specs/Sequences, StepsAgree and RoundsAgree): no step is refused before
-- a round rejects, and closing is not refused then. Assumes nothing.
use mathlib.Core.Path.{◌≡◌, refl, sym, ap, subst, ◌∙◌}
use mathlib.Core.Bool.{Bool, true, false, not}
use mathlib.Core.List.{List, [], ◌∷◌, map}
use Prim.Native.Nat.{ℕ, zero, suc, ◌+◌, ◌≤◌, ◌<◌}
use native.Mathlib.Nat.{mod-lt}
use native.Mathlib.Omega.{arith}
use lib.ListN.{length, get_or}
use borrow.Author.Tests.{le-ltb, eq-eqb, ne_eqb}
use Rattle.polynomial.specs.Elements.{Every, Elements}
use Rattle.polynomial.specs.Polynomial.{value}
use Rattle.polynomial.proofs.Value.{value_reduced}
use Rattle.refusals.specs.First.{given, first, choose}
use Rattle.refusals.proofs.First.{either-none}
use Rattle.refusals.proofs.Order.{untested, untested-none, given_by}
use Rattle.sumcheck.specs.Extension.{extension}
use Rattle.sumcheck.specs.Function.{f}
use Rattle.sumcheck.specs.Protocol.{fits, rounds, final, verdict}
use Rattle.sumcheck.specs.Lent.{tables_of, messages_of, bad_vars, bad_degree}
use Rattle.sumcheck.specs.Entries.{checker_rules, rounds_rules}
use Rattle.sumcheck.specs.Checker.{claim_after}
use Rattle.sumcheck.specs.Steps.{State, Back, over, forged, fresh, Judged, step_rules, closing_rules, closed, closing}
use Rattle.sumcheck.specs.Sequences.{Input, end_of, challenges_of, messages_in, inputs_of, rounds_by, StepsAgree, RoundsAgree}
use Rattle.sumcheck.proofs.Parts.{product_reduced}
use Rattle.sumcheck.proofs.Unrefused.{long_is, inside_is}
use Rattle.sumcheck.proofs.Entries.{RoundsLent, rounds-lent, checker_rounds}
use Rattle.sumcheck.proofs.Messages.{parts-elements}
use Rattle.sumcheck.proofs.Laid.{parts_count, parts_lengths}
use Rattle.sumcheck.proofs.Steps.{step_given}
use Rattle.sumcheck.proofs.Followed.{follow, answers, state_at, Ended, through, stopped, ended}
use Rattle.sumcheck.proofs.Sequences.{stays, closed-ended}

-- an input of the right length and of elements
pub record Formed (n degree : ℕ) (i : Input) : Type 0 where
  pub long : length i.message ≡ suc degree
  pub element : i.challenge < n
  pub elements : Elements n i.message

-- a value is an element
value-below : (n : ℕ) → 0 < n → (cs : List ℕ) (x : ℕ) → value n cs x < n
value-below n h cs x = rw value_reduced at (mod-lt (value n cs x) h)

module _ (n vars degree : ℕ) (v : bad_vars vars ≡ false) (d : bad_degree degree ≡ false) where
  -- a step that is left is not refused
  step_taken : (taken c : ℕ) (i : Input) → c < n → taken < vars → Formed n degree i
      → 0 ≡ first (step_rules n (state_at vars degree taken c false) i.message i.challenge)
  step_taken taken c i e l u =
      untested-none (step_rules n (state_at vars degree taken c false) i.message i.challenge) (
        v,
        (
          d,
          (
            inside_is n (c ∷ []) (e, tt),
            (
              either-none (either-none (le-ltb vars taken (omega arith)) refl) (ne_eqb taken vars (λ (z : taken ≡ vars). omega arith)),
              (long_is (suc degree) i.message u.long, (inside_is n (i.challenge ∷ i.message) (u.element, u.elements), tt)),
            ),
          ),
        ),
      )

  -- so the sequence goes the protocol's own course
  formed : (inputs : List Input) (taken c : ℕ) → c < n → taken + length inputs ≤ vars → Every (Formed n degree) inputs
      → end_of n (state_at vars degree taken c false) inputs ≡ follow n (state_at vars degree taken c false) inputs
  formed [] taken c e l u = refl
  formed (i ∷ inputs) taken c e l u =
      sym (ap (λ (b : Back Judged). end_of n b.state inputs) (step_given n s i.message i.challenge (step_taken taken c i e (omega arith) u.0) refl))
      ∙ go (fits n i.message c) (formed inputs (suc taken) (value n i.message i.challenge) (value-below n (omega arith) i.message i.challenge)
      (omega arith) u.1)
    where
      s : State
      s = state_at vars degree taken c false

      go : (t : Bool)
          → end_of n (state_at vars degree (suc taken) (value n i.message i.challenge) false) inputs
          ≡ follow n (state_at vars degree (suc taken) (value n i.message i.challenge) false) inputs
          → end_of n (choose t (state_at vars degree (suc taken) (value n i.message i.challenge) false) (state_at vars degree taken c true)) inputs
          ≡ choose t (follow n (state_at vars degree (suc taken) (value n i.message i.challenge) false) inputs) (state_at vars degree taken c true)
      go true ih = ih
      go false ih = (stays n (state_at vars degree taken c true) refl inputs).end

-- messages and challenges as inputs are those messages and challenges
inputs_challenges : (rs : List ℕ) (ms : List (List ℕ)) → length ms ≡ length rs → challenges_of (inputs_of rs ms) ≡ rs
inputs_challenges [] ms e = refl
inputs_challenges (r ∷ rs) [] e = absurd (omega arith)
inputs_challenges (r ∷ rs) (s ∷ ms) e = ap (λ (l : List ℕ). r ∷ l) (inputs_challenges rs ms (omega arith))

inputs_messages : (rs : List ℕ) (ms : List (List ℕ)) → length ms ≡ length rs → messages_in (inputs_of rs ms) ≡ ms
inputs_messages [] [] e = refl
inputs_messages [] (s ∷ ms) e = absurd (omega arith)
inputs_messages (r ∷ rs) [] e = absurd (omega arith)
inputs_messages (r ∷ rs) (s ∷ ms) e = ap (λ (l : List (List ℕ)). s ∷ l) (inputs_messages rs ms (omega arith))

inputs_length : (rs : List ℕ) (ms : List (List ℕ)) → length ms ≡ length rs → length (inputs_of rs ms) ≡ length rs
inputs_length [] ms e = refl
inputs_length (r ∷ rs) [] e = absurd (omega arith)
inputs_length (r ∷ rs) (s ∷ ms) e = ap suc (inputs_length rs ms (omega arith))

inputs_formed : (n degree : ℕ) (rs : List ℕ) (ms : List (List ℕ)) → Elements n rs → Every (λ (s : List ℕ). length s ≡ suc degree) ms → Every (Elements n) ms
    → Every (Formed n degree) (inputs_of rs ms)
inputs_formed n degree [] ms u l e = tt
inputs_formed n degree (r ∷ rs) [] u l e = tt
inputs_formed n degree (r ∷ rs) (s ∷ ms) u l e = (record { long = l.0; element = u.0; elements = e.0 }, inputs_formed n degree rs ms u.1 l.1 e.1)

-- how the steps on what was lent and not refused end
module _ (n vars degree claim : ℕ) (challenges messages : List ℕ) (z : first (rounds_rules n vars degree claim challenges messages) ≡ 0) where
  lent : RoundsLent n vars degree claim challenges messages
  lent = rounds-lent n vars degree claim challenges messages refl z

  abbrev ms : List (List ℕ)
  ms = messages_of vars degree messages

  abbrev inputs : List Input
  inputs = inputs_of challenges ms

  counted : length ms ≡ length challenges
  counted = parts_count vars (suc degree) messages ∙ sym lent.rounds

  course_taken : end_of n (fresh vars degree claim) inputs ≡ follow n (fresh vars degree claim) inputs
  course_taken =
      let u = untested (rounds_rules n vars degree claim challenges messages) refl refl z in
      formed n vars degree u.0 u.1.0 inputs 0 claim lent.claimed (omega (arith, inputs_length challenges ms counted, lent.rounds))
      (inputs_formed n degree challenges ms lent.points (parts_lengths vars (suc degree) messages (omega (arith, lent.long)))
      (parts-elements n vars (suc degree) messages lent.numbers))

  ends : Ended n vars degree claim challenges ms (end_of n (fresh vars degree claim) inputs) (answers n (fresh vars degree claim) inputs)
  ends =
      subst (λ (s : State). Ended n vars degree claim challenges ms s (answers n (fresh vars degree claim) inputs)) (sym course_taken)
      (subst (λ (xs : List (List ℕ)). Ended n vars degree claim challenges xs (follow n (fresh vars degree claim) inputs)
      (answers n (fresh vars degree claim) inputs))
      (inputs_messages challenges ms counted)
      (subst (λ (rs : List ℕ). Ended n vars degree claim rs (messages_in inputs) (follow n (fresh vars degree claim) inputs)
      (answers n (fresh vars degree claim) inputs))
      (inputs_challenges challenges ms counted) (ended n vars degree claim inputs)))

-- a running claim is an element
claim-below : (n claim : ℕ) → claim < n → (rs : List ℕ) (ms : List (List ℕ)) (j : ℕ) → claim_after n claim rs ms j < n
claim-below n claim h rs ms zero = h
claim-below n claim h rs ms (suc j) = value-below n (omega arith) (get_or ms j []) (get_or rs j 0)

-- a closing that is not refused
closes : (n vars degree taken c : ℕ) (mark : Bool) (v : ℕ) → bad_vars vars ≡ false → bad_degree degree ≡ false → c < n → v < n →
    let s = state_at vars degree taken c mark in
    forged s ≡ false → over s ≡ true → given (closed s v) ≡ (closing n s v).outcome
closes n vars degree taken c mark v b d h l k o =
    given_by (closing_rules n (state_at vars degree taken c mark) v) refl (closed (state_at vars degree taken c mark) v)
    (untested-none (closing_rules n (state_at vars degree taken c mark) v)
    (b, (d, (inside_is n (c ∷ []) (h, tt), (either-none k (ap not o), (inside_is n (v ∷ []) (l, tt), tt))))))
    refl

-- a sequence that went through, or stopped, can be closed
closing-ended : (n vars degree claim : ℕ) (rs : List ℕ) (ms : List (List ℕ)) (s : State) (told : List Judged) (v : ℕ) → bad_vars vars ≡ false
    → bad_degree degree ≡ false
    → length rs ≡ vars → claim < n → v < n → Ended n vars degree claim rs ms s told → given (closed s v) ≡ (closing n s v).outcome
closing-ended n vars degree claim rs ms s told v b d r h l (through c w o e a) =
    subst (λ (x : State). given (closed x v) ≡ (closing n x v).outcome) (sym e)
    (closes n vars degree (length rs) c false v b d (subst (λ (x : ℕ). x < n) (sym w) (claim-below n claim h rs ms (length rs))) l
    (either-none (le-ltb vars (length rs) (omega arith)) refl)
    (eq-eqb (length rs) vars r))
closing-ended n vars degree claim rs ms s told v b d r h l (stopped j k o e a) =
    subst (λ (x : State). given (closed x v) ≡ (closing n x v).outcome) (sym e)
    (closes n vars degree j (claim_after n claim rs ms j) true v b d (claim-below n claim h rs ms j) l
    (either-none (le-ltb vars j (omega arith)) (ne_eqb j vars (λ (z : j ≡ vars). omega arith)))
    refl)

-- f is an element
f-below : (n : ℕ) → 0 < n → (ts : List (List ℕ)) (r : List ℕ) → f n ts r < n
f-below n h ts r = subst (λ (x : ℕ). x < n) (product_reduced n (map (λ (t : List ℕ). extension n t r) ts)) (mod-lt (f n ts r) h)

pub steps_agree : StepsAgree
unfolding StepsAgree
steps_agree n vars degree tables claim challenges messages z =
    let q : first (rounds_rules n vars degree claim challenges messages) ≡ 0 = sym (checker_rounds n vars degree tables claim challenges messages refl z) in
    let u = untested (rounds_rules n vars degree claim challenges messages) refl refl q in
    let l : RoundsLent n vars degree claim challenges messages = lent n vars degree claim challenges messages q in
    let v = f n (tables_of vars degree tables) challenges in
    let xs = messages_of vars degree messages in
    let s = end_of n (fresh vars degree claim) (inputs_of challenges xs) in
    let told = answers n (fresh vars degree claim) (inputs_of challenges xs) in
    let end : Ended n vars degree claim challenges xs s told = ends n vars degree claim challenges messages q in
    sym
    (closing-ended n vars degree claim challenges xs s told v u.0 u.1.0 l.rounds l.claimed
    (f-below n (omega (arith, l.claimed)) (tables_of vars degree tables) challenges) end)
    ∙ (ap given (closed-ended n vars degree claim challenges xs s told v end ∙ ap (λ (m : ℕ). final m v (rounds n claim challenges xs)) (sym l.rounds))
    ∙ given_by (checker_rules n vars degree tables claim challenges messages) refl (verdict n (tables_of vars degree tables) claim challenges xs) refl z)

-- what the state says of its rounds is what they came to
rounds-ended : (n vars degree claim : ℕ) (rs : List ℕ) (ms : List (List ℕ)) (s : State) (told : List Judged) → Ended n vars degree claim rs ms s told
    → rounds_by s ≡ rounds n claim rs ms
rounds-ended n vars degree claim rs ms s told (through c w o e a) = ap rounds_by e ∙ sym o
rounds-ended n vars degree claim rs ms s told (stopped j l o e a) = ap rounds_by e ∙ sym o

pub rounds_agree : RoundsAgree
unfolding RoundsAgree
rounds_agree n vars degree claim challenges messages z =
    let xs = messages_of vars degree messages in
    ap given
    (rounds-ended n vars degree claim challenges xs (end_of n (fresh vars degree claim) (inputs_of challenges xs))
    (answers n (fresh vars degree claim) (inputs_of challenges xs))
    (ends n vars degree claim challenges messages z))
    ∙ given_by (rounds_rules n vars degree claim challenges messages) refl (rounds n claim challenges xs) refl z
