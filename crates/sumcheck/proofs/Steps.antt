-- The paths of a step (specs/Steps): what each comes to, from the tests on the way. Assumes nothing.
use mathlib.Core.Path.{◌≡◌, refl, sym, ap, ap₂, ◌∙◌}
use mathlib.Core.Bool.{Bool, true, false, not}
use mathlib.Core.List.{List, [], ◌∷◌}
use Prim.Native.Nat.{ℕ, suc, ◌+◌, ◌≤◌, ◌<◌}
use native.Mathlib.Numerals.{add-one}
use native.Mathlib.Omega.{arith}
use lib.Dec.{ltb}
use lib.ListN.{length}
use borrow.Author.Tests.{eqb-false, ltb-false}
use Rattle.polynomial.specs.Elements.{Elements}
use Rattle.polynomial.specs.Polynomial.{value}
use Rattle.polynomial.specs.Array.{padded}
use Rattle.refusals.specs.Limits.{max_vars, max_degree}
use Rattle.refusals.specs.First.{Rule, ◌when◌, Answer, refused, given, first, choose, either, outside}
use Rattle.refusals.proofs.First.{choose-true, choose-false}
use Rattle.refusals.proofs.Order.{refused_by, given_by, kept_by, left_by, untested, neither_left, neither_right}
use Rattle.sumcheck.specs.Protocol.{fits}
use Rattle.sumcheck.specs.Lent.{not_long}
use Rattle.sumcheck.specs.Steps.{State, Back, complete, over, forged, fitted, rejects, step_rules, onward}
use Rattle.sumcheck.specs.Steps.{marked, judged, moved, step}
use Rattle.sumcheck.proofs.Walk.{array_fits, array_value}
use Rattle.sumcheck.proofs.Unrefused.{vars-within, degree-within, is_long, is_inside}

-- what a call hands back, part by part
back : {A : Type 0} {s t : State} {a b : Answer A} → s ≡ t → a ≡ b → ◌≡◌ {A = Back A} (record { state = s; outcome = a }) (record { state = t; outcome = b })
back {A} e f = ap₂ {B = Answer A} (λ (s : State) (a : Answer A). record { state = s; outcome = a }) e f

-- what a step or closing refuses after it doubted the shape and the running claim: 7, and then what is given
abbrev pub given_rules : ℕ → State → List ℕ → ℕ → List Rule
given_rules n s message challenge = 3 when not_long (suc s.degree) message ∷ 5 when outside n (challenge ∷ message) ∷ []

abbrev pub step_rest : ℕ → State → List ℕ → ℕ → List Rule
step_rest n s message challenge = 7 when either (forged s) (over s) ∷ given_rules n s message challenge

abbrev pub closing_rest : ℕ → State → ℕ → List Rule
closing_rest n s v = 7 when either (forged s) (not (over s)) ∷ 5 when outside n (v ∷ []) ∷ []

-- what a step knows that was not refused
pub record Unrefused (n : ℕ) (s : State) (message : List ℕ) (challenge : ℕ) : Type 0 where
  pub vars : s.vars ≤ max_vars
  pub degree : s.degree ≤ max_degree
  pub claim : s.claim < n
  pub going : s.mark ≡ false
  pub left : s.taken < s.vars
  pub long : length message ≡ suc s.degree
  pub element : challenge < n
  pub elements : Elements n message

pub unrefused : (n : ℕ) (s : State) (message : List ℕ) (challenge : ℕ) {k : ℕ} → k ≡ first (step_rules n s message challenge) → k ≡ 0
    → Unrefused n s message challenge
unrefused n s message challenge e z =
    let u = untested (step_rules n s message challenge) refl e z in
    let end : over s ≡ false = neither_right (forged s) (over s) u.1.1.1.0 in
    let kind : forged s ≡ false = neither_left (forged s) (over s) u.1.1.1.0 in
    let other : s.taken ≡ s.vars → ⊥ = eqb-false s.taken s.vars (neither_right s.mark (complete s) end) in
    let most : s.taken ≤ s.vars = ltb-false s.vars s.taken (neither_left (ltb s.vars s.taken) (choose s.mark (complete s) false) kind) in
    let given : Elements n (challenge ∷ message) = is_inside n (challenge ∷ message) u.1.1.1.1.1.0 in
    record {
      vars = vars-within s.vars u.0;
      degree = degree-within s.degree u.1.0;
      claim = (is_inside n (s.claim ∷ []) u.1.1.0).0;
      going = neither_left s.mark (complete s) end;
      left = omega arith;
      long = is_long (suc s.degree) message u.1.1.1.1.0;
      element = given.0;
      elements = given.1;
    }

module _ (n : ℕ) (s : State) (message : List ℕ) (challenge : ℕ) {k : ℕ} (e : k ≡ first (step_rules n s message challenge)) where
  pub step-refused : (k ≡ 0 → ⊥) → record { state = s; outcome = refused k } ≡ step n s message challenge
  step-refused z =
      back (kept_by (step_rules n s message challenge) (moved n s message challenge) s e z)
      (refused_by (step_rules n s message challenge) refl (judged n s message) e z)

  -- a step that is not refused
  pub step_given : k ≡ 0 → record { state = moved n s message challenge; outcome = given (judged n s message) } ≡ step n s message challenge
  step_given z =
      back (left_by (step_rules n s message challenge) (moved n s message challenge) s e z)
      (given_by (step_rules n s message challenge) refl (judged n s message) e z)

  -- its array
  fitting : k ≡ 0 → (cs : List ℕ) → cs ≡ padded (suc max_degree) message → {t : Bool} → t ≡ fits n cs s.claim → fits n message s.claim ≡ t
  fitting z cs a f =
      let u : Unrefused n s message challenge = unrefused n s message challenge e z in
      sym (f ∙ array_fits n message cs s.claim a (omega (arith, u.long, u.degree)))

  -- its sum fits
  pub step_fits : k ≡ 0 → (cs : List ℕ) → cs ≡ padded (suc max_degree) message → {t : Bool} → t ≡ fits n cs s.claim → t ≡ true → {v : ℕ}
      → v ≡ value n cs challenge
      → record { state = record { vars = s.vars; degree = s.degree; taken = s.taken + 1; claim = v; mark = false }; outcome = given fitted } ≡ step n s
      message challenge
  step_fits z cs a f y w =
      let u : Unrefused n s message challenge = unrefused n s message challenge e z in
      let true-fit : fits n message s.claim ≡ true = fitting z cs a f ∙ y in
      back
      (ap₂ (λ (i c : ℕ). record { vars = s.vars; degree = s.degree; taken = i; claim = c; mark = false })
      (add-one s.taken)
      (w ∙ array_value n message cs challenge a (omega (arith, u.long, u.degree)))
      ∙ sym (choose-true (onward n s message challenge) (marked s) true-fit))
      (ap given (sym (choose-true fitted (rejects (suc s.taken)) true-fit)))
      ∙ step_given z

  -- its sum fails
  pub step-rejects : k ≡ 0 → (cs : List ℕ) → cs ≡ padded (suc max_degree) message → {t : Bool} → t ≡ fits n cs s.claim → t ≡ false
      → record { state = marked s; outcome = given (rejects (s.taken + 1)) } ≡ step n s message challenge
  step-rejects z cs a f y =
      let false-fit : fits n message s.claim ≡ false = fitting z cs a f ∙ y in
      back (sym (choose-false (onward n s message challenge) (marked s) false-fit))
      (ap given (ap rejects (add-one s.taken) ∙ sym (choose-false fitted (rejects (suc s.taken)) false-fit)))
      ∙ step_given z
