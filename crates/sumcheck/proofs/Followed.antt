-- The protocol's own course over inputs, with nothing refused: where it ends and what it answers. Assumes nothing.
use mathlib.Core.Path.{◌≡◌, refl, sym, ap, ap₂, subst, ◌∙◌}
use mathlib.Core.Bool.{Bool, true, false}
use mathlib.Core.List.{List, [], ◌∷◌, ◌++◌}
use Prim.Native.Nat.{ℕ, zero, suc, ◌+◌, ◌<◌}
use native.Mathlib.Nat.{add-zero, zero-add}
use native.Mathlib.Omega.{arith}
use lib.ListN.{length, length-map, replicate}
use borrow.Author.Tests.{eq-eqb, ne_eqb}
use Rattle.arithmetic.specs.Modulo.{add}
use Rattle.polynomial.specs.Polynomial.{value}
use Rattle.refusals.specs.First.{choose}
use Rattle.refusals.proofs.First.{choose-true, choose-false}
use Rattle.sumcheck.specs.Protocol.{fits, reached, failed, rounds}
use Rattle.sumcheck.specs.Checker.{claim_after, SumAgrees, SumsAgree}
use Rattle.sumcheck.specs.Steps.{State, fresh, Judged, fitted, rejects, onward, marked}
use Rattle.sumcheck.specs.Sequences.{Input, challenges_of, messages_in}
use Rattle.sumcheck.proofs.Course.{Course, fair, foul, course, later, agrees_front, sums_later, fair-reached, foul-failed}

-- the state after inputs that are all judged, up to the first that rejects
abbrev pub follow : ℕ → State → List Input → State
follow n s [] = s
follow n s (i ∷ inputs) = choose (fits n i.message s.claim) (follow n (onward n s i.message i.challenge) inputs) (marked s)

-- and what they answer
abbrev pub answers : ℕ → State → List Input → List Judged
answers n s [] = []
answers n s (i ∷ inputs) =
    choose (fits n i.message s.claim) (fitted ∷ answers n (onward n s i.message i.challenge) inputs) (rejects (suc s.taken) ∷ [])

-- a state with so many rounds taken, a running claim and a mark
abbrev pub state_at : ℕ → ℕ → ℕ → ℕ → Bool → State
state_at vars degree taken claim mark = record { vars = vars; degree = degree; taken = taken; claim = claim; mark = mark }

-- a sum that agrees fits, and one that does not fails
fitting : (n : ℕ) (i : Input) (inputs : List Input) (c : ℕ) → SumAgrees n c (challenges_of (i ∷ inputs)) (messages_in (i ∷ inputs)) 0
    → fits n i.message c ≡ true
fitting n i inputs c h = eq-eqb (add n (value n i.message 0) (value n i.message 1)) c h

module _ (n vars degree : ℕ) where
  -- every sum agrees
  follow-fair : (inputs : List Input) (taken c : ℕ) → SumsAgree n c (challenges_of inputs) (messages_in inputs) (length inputs)
      → follow n (state_at vars degree taken c false) inputs
      ≡ state_at vars degree (taken + length inputs) (claim_after n c (challenges_of inputs) (messages_in inputs) (length inputs)) false
  follow-fair [] taken c u = ap (λ (t : ℕ). state_at vars degree t c false) (sym (add-zero taken))
  follow-fair (i ∷ inputs) taken c u =
      choose-true (follow n (state_at vars degree (suc taken) w false) inputs) (state_at vars degree taken c true) (fitting n i inputs c (u 0 (omega arith)))
      ∙ (follow-fair inputs (suc taken) w (sums_later n c i.challenge (challenges_of inputs) i.message (messages_in inputs) (length inputs) u)
      ∙ ap₂ {B = ℕ} (λ (t x : ℕ). state_at vars degree t x false) next
      (sym (later n c i.challenge (challenges_of inputs) i.message (messages_in inputs) (length inputs))))
    where
      w : ℕ
      w = value n i.message i.challenge

      next : suc taken + length inputs ≡ taken + suc (length inputs)
      next = omega arith

  answers-fair : (inputs : List Input) (taken c : ℕ) → SumsAgree n c (challenges_of inputs) (messages_in inputs) (length inputs)
      → answers n (state_at vars degree taken c false) inputs ≡ replicate (length inputs) fitted
  answers-fair [] taken c u = refl
  answers-fair (i ∷ inputs) taken c u =
      choose-true (fitted ∷ answers n (state_at vars degree (suc taken) (value n i.message i.challenge) false) inputs) (rejects (suc taken) ∷ [])
      (fitting n i inputs c (u 0 (omega arith)))
      ∙ ap (λ (l : List Judged). fitted ∷ l)
      (answers-fair inputs (suc taken) (value n i.message i.challenge)
      (sums_later n c i.challenge (challenges_of inputs) i.message (messages_in inputs) (length inputs) u))

  -- the sum at place j is the first that fails
  follow-foul : (inputs : List Input) (taken c j : ℕ) → j < length inputs → SumsAgree n c (challenges_of inputs) (messages_in inputs) j
      → (SumAgrees n c (challenges_of inputs) (messages_in inputs) j → ⊥)
      → follow n (state_at vars degree taken c false) inputs
      ≡ state_at vars degree (taken + j) (claim_after n c (challenges_of inputs) (messages_in inputs) j) true
  follow-foul [] taken c j l u x = absurd (omega arith)
  follow-foul (i ∷ inputs) taken c zero l u x =
      choose-false (follow n (state_at vars degree (suc taken) (value n i.message i.challenge) false) inputs) (state_at vars degree taken c true)
      (ne_eqb (add n (value n i.message 0) (value n i.message 1)) c x)
      ∙ ap (λ (t : ℕ). state_at vars degree t c true) (sym (add-zero taken))
  follow-foul (i ∷ inputs) taken c (suc j) l u x =
      choose-true (follow n (state_at vars degree (suc taken) w false) inputs) (state_at vars degree taken c true) (fitting n i inputs c (u 0 (omega arith)))
      ∙ (follow-foul inputs (suc taken) w j (omega arith) (sums_later n c i.challenge (challenges_of inputs) i.message (messages_in inputs) j u)
      (λ (h : SumAgrees n w (challenges_of inputs) (messages_in inputs) j). x
      (agrees_front n c i.challenge (challenges_of inputs) i.message (messages_in inputs) j h))
      ∙ ap₂ {B = ℕ} (λ (t y : ℕ). state_at vars degree t y true) next (sym (later n c i.challenge (challenges_of inputs) i.message (messages_in inputs) j)))
    where
      w : ℕ
      w = value n i.message i.challenge

      next : suc taken + j ≡ taken + suc j
      next = omega arith

  answers-foul : (inputs : List Input) (taken c j : ℕ) → j < length inputs → SumsAgree n c (challenges_of inputs) (messages_in inputs) j
      → (SumAgrees n c (challenges_of inputs) (messages_in inputs) j → ⊥)
      → answers n (state_at vars degree taken c false) inputs ≡ replicate j fitted ++ rejects (suc (taken + j)) ∷ []
  answers-foul [] taken c j l u x = absurd (omega arith)
  answers-foul (i ∷ inputs) taken c zero l u x =
      choose-false (fitted ∷ answers n (state_at vars degree (suc taken) (value n i.message i.challenge) false) inputs) (rejects (suc taken) ∷ [])
      (ne_eqb (add n (value n i.message 0) (value n i.message 1)) c x)
      ∙ ap (λ (t : ℕ). rejects (suc t) ∷ []) (sym (add-zero taken))
  answers-foul (i ∷ inputs) taken c (suc j) l u x =
      choose-true (fitted ∷ answers n (state_at vars degree (suc taken) w false) inputs) (rejects (suc taken) ∷ []) (fitting n i inputs c (u 0 (omega arith)))
      ∙ ap (λ (l : List Judged). fitted ∷ l)
      (answers-foul inputs (suc taken) w j (omega arith) (sums_later n c i.challenge (challenges_of inputs) i.message (messages_in inputs) j u)
      (λ (h : SumAgrees n w (challenges_of inputs) (messages_in inputs) j). x
      (agrees_front n c i.challenge (challenges_of inputs) i.message (messages_in inputs) j h))
      ∙ ap (λ (t : ℕ). replicate j fitted ++ rejects (suc t) ∷ []) next)
    where
      w : ℕ
      w = value n i.message i.challenge

      next : suc taken + j ≡ taken + suc j
      next = omega arith

-- how inputs end from an opened state: all rounds through, or stopped at the first that fails
pub data Ended (n vars degree claim : ℕ) (rs : List ℕ) (ms : List (List ℕ)) (s : State) (told : List Judged) : Type 0 where
  through : (c : ℕ) → c ≡ claim_after n claim rs ms (length rs) → rounds n claim rs ms ≡ reached c → s ≡ state_at vars degree (length rs) c false
      → told ≡ replicate (length rs) fitted → Ended n vars degree claim rs ms s told
  stopped : (j : ℕ) → j < length rs → rounds n claim rs ms ≡ failed (suc j) → s ≡ state_at vars degree j (claim_after n claim rs ms j) true
      → told ≡ replicate j fitted ++ rejects (suc j) ∷ [] → Ended n vars degree claim rs ms s told

pub ended : (n vars degree claim : ℕ) (inputs : List Input)
    → Ended n vars degree claim (challenges_of inputs) (messages_in inputs) (follow n (fresh vars degree claim) inputs)
    (answers n (fresh vars degree claim) inputs)
ended n vars degree claim inputs = go (course n claim (challenges_of inputs) (messages_in inputs) (length-map inputs (λ (i : Input). i.message) ∙ sym many))
  where
    many : length (challenges_of inputs) ≡ length inputs
    many = length-map inputs (λ (i : Input). i.challenge)

    go : Course n claim (challenges_of inputs) (messages_in inputs)
        → Ended n vars degree claim (challenges_of inputs) (messages_in inputs) (follow n (fresh vars degree claim) inputs)
        (answers n (fresh vars degree claim) inputs)
    go (fair u) =
        let same : length (messages_in inputs) ≡ length (challenges_of inputs) = length-map inputs (λ (i : Input). i.message) ∙ sym many in
        let all : SumsAgree n claim (challenges_of inputs) (messages_in inputs) (length inputs) =
        subst (SumsAgree n claim (challenges_of inputs) (messages_in inputs)) many u in
        through (claim_after n claim (challenges_of inputs) (messages_in inputs) (length (challenges_of inputs))) refl
        (fair-reached n 1 claim (challenges_of inputs) (messages_in inputs) same u)
        (follow-fair n vars degree inputs 0 claim all
        ∙ ap₂ {B = ℕ} (λ (t x : ℕ). state_at vars degree t x false) (zero-add (length inputs) ∙ sym many)
        (ap (claim_after n claim (challenges_of inputs) (messages_in inputs)) (sym many)))
        (answers-fair n vars degree inputs 0 claim all ∙ ap (λ (t : ℕ). replicate t fitted) (sym many))
    go (foul j l u x) =
        let same : length (messages_in inputs) ≡ length (challenges_of inputs) = length-map inputs (λ (i : Input). i.message) ∙ sym many in
        let within : j < length inputs = subst (λ (k : ℕ). j < k) many l in
        let none : 0 + j ≡ j = zero-add j in
        let one : 1 + j ≡ suc j = omega arith in
        stopped j l
        (foul-failed n 1 claim (challenges_of inputs) (messages_in inputs) same j l u x ∙ ap failed one)
        (follow-foul n vars degree inputs 0 claim j within u x
        ∙ ap (λ (t : ℕ). state_at vars degree t (claim_after n claim (challenges_of inputs) (messages_in inputs) j) true) none)
        (answers-foul n vars degree inputs 0 claim j within u x ∙ ap (λ (t : ℕ). replicate j fitted ++ rejects (suc t) ∷ []) none)
