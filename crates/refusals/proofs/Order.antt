-- Refusals by their number: a list of refusals is decided by the number of the first that holds; one list after another; a search over one list
-- after another. Assumes nothing.
use mathlib.Core.Path.{◌≡◌, refl, sym, ap, ◌∙◌}
use mathlib.Core.Bool.{Bool, true, false}
use mathlib.Core.List.{List, [], ◌∷◌, ◌++◌}
use Prim.Native.Nat.{ℕ}
use lib.Dec.{eqb}
use borrow.Author.Tests.{eq-eqb, ne_eqb, eqb-true, eqb-false}
use Rattle.refusals.specs.First.{Rule, ◌when◌, Answer, refused, given, choose, either, outside, first, decide}
use Rattle.refusals.proofs.First.{choose-true, choose-false, unnumbered, either-none, Numbers, first_rest}
use Rattle.refusals.proofs.First.{outside-append}

-- no refusal has the number 0, by a test that computes
abbrev pub named : List Rule → Bool
named [] = true
named ((number when test) ∷ rules) = choose (eqb number 0) false (named rules)

named_here : (b : Bool) (r : Bool) → choose b false r ≡ true → b ≡ false
named_here true r e = sym e
named_here false r e = refl

named-next : (b : Bool) (r : Bool) → choose b false r ≡ true → r ≡ true
named-next true r e = cc
named-next false r e = e

pub named-numbers : (rules : List Rule) → named rules ≡ true → Numbers rules
named-numbers [] e = tt
named-numbers ((number when test) ∷ rules) e =
    (eqb-false number 0 (named_here (eqb number 0) (named rules) e), named-numbers rules (named-next (eqb number 0) (named rules) e))

-- a list of refusals is decided by its number
decide_number : {A : Type 0} (rules : List Rule) → Numbers rules → (a : A) → decide rules a ≡ choose (eqb (first rules) 0) (given a) (refused (first rules))
decide_number [] h a = refl
decide_number {A} ((number when true) ∷ rules) h a = sym (choose-false (given a) (refused number) (ne_eqb number 0 h.0))
decide_number ((number when false) ∷ rules) h a = decide_number rules h.1 a

-- one list of refusals after another: where the first gives no number, the second decides
pub first_passed : (xs ys : List Rule) → named xs ≡ true → {k : ℕ} → k ≡ first xs → k ≡ 0 → first ys ≡ first (xs ++ ys)
first_passed xs ys h e z = sym (first_rest xs ys (named-numbers xs h) (sym e ∙ z))

-- a refused and a passed decision, from the number
pub refused_by : {A : Type 0} (rules : List Rule) → named rules ≡ true → (a : A) {k : ℕ} → k ≡ first rules → (k ≡ 0 → ⊥) → refused k ≡ decide rules a
refused_by {A} rules h a {k} e z =
    ap refused e
    ∙ sym (decide_number rules (named-numbers rules h) a
    ∙ choose-false (given a) (refused (first rules)) (ne_eqb (first rules) 0 (λ (w : first rules ≡ 0). z (e ∙ w))))

pub given_by : {A : Type 0} (rules : List Rule) → named rules ≡ true → (a : A) {k : ℕ} → k ≡ first rules → k ≡ 0 → given a ≡ decide rules a
given_by {A} rules h a {k} e z =
    sym (decide_number rules (named-numbers rules h) a ∙ choose-true (given a) (refused (first rules)) (eq-eqb (first rules) 0 (sym e ∙ z)))

-- what stands after a refusal, from the number: unchanged, or as the call leaves it
pub kept_by : {A : Type 0} (rules : List Rule) (a b : A) {k : ℕ} → k ≡ first rules → (k ≡ 0 → ⊥) → b ≡ choose (eqb (first rules) 0) a b
kept_by {A} rules a b {k} e z = sym (choose-false a b (ne_eqb (first rules) 0 (λ (w : first rules ≡ 0). z (e ∙ w))))

pub left_by : {A : Type 0} (rules : List Rule) (a b : A) {k : ℕ} → k ≡ first rules → k ≡ 0 → a ≡ choose (eqb (first rules) 0) a b
left_by {A} rules a b {k} e z = sym (choose-true a b (eq-eqb (first rules) 0 (sym e ∙ z)))

-- no test of a list of refusals holds
abbrev pub Untested : List Rule → Type 0
Untested [] = Unit {0}
Untested ((number when test) ∷ rules) = (test ≡ false) × Untested rules

-- a list of refusals gives the number 0 exactly where no test holds
met : (rules : List Rule) → Numbers rules → first rules ≡ 0 → Untested rules
met [] h z = tt
met ((number when true) ∷ rules) h z = absurd (h.0 z)
met ((number when false) ∷ rules) h z = (refl, met rules h.1 z)

pub untested : (rules : List Rule) → named rules ≡ true → {k : ℕ} → k ≡ first rules → k ≡ 0 → Untested rules
untested rules h e z = met rules (named-numbers rules h) (sym e ∙ z)

pub untested-none : (rules : List Rule) → Untested rules → 0 ≡ first rules
untested-none [] u = refl
untested-none ((number when test) ∷ rules) u = untested-none rules u.1 ∙ unnumbered number rules u.0

-- neither of two tests holds
pub neither_left : (a b : Bool) → either a b ≡ false → a ≡ false
neither_left true b e = e
neither_left false b e = refl

pub neither_right : (a b : Bool) → either a b ≡ false → b ≡ false
neither_right true b e = cc
neither_right false b e = e

-- two lists one after the other hold no number that is no element where neither does
pub outside-none : (n : ℕ) (xs ys : List ℕ) → outside n xs ≡ false → outside n ys ≡ false → outside n (xs ++ ys) ≡ false
outside-none n xs ys e f = outside-append n xs ys ∙ either-none e f

-- what an answer says: a value was not refused, and a refusal is the first whose test holds
pub decided_given : {A : Type 0} (rules : List Rule) → named rules ≡ true → (a x : A) → decide rules a ≡ given x → (first rules ≡ 0) × (a ≡ x)
decided_given {A} rules h a x e = go (eqb (first rules) 0) refl (sym (decide_number rules (named-numbers rules h) a) ∙ e)
  where
    go : (b : Bool) → eqb (first rules) 0 ≡ b → choose (eqb (first rules) 0) (given a) (refused (first rules)) ≡ given x → (first rules ≡ 0) × (a ≡ x)
    go true t f =
        let same : ◌≡◌ {A = Answer A} (given a) (given x) = sym (choose-true (given a) (refused (first rules)) t) ∙ f in
        (eqb-true (first rules) 0 t, cc)
    go false t f = let no : ◌≡◌ {A = Answer A} (refused (first rules)) (given x) = sym (choose-false (given a) (refused (first rules)) t) ∙ f in cc

pub decided_refused : {A : Type 0} (rules : List Rule) → named rules ≡ true → (a : A) (number : ℕ) → decide rules a ≡ refused number
    → (first rules ≡ number) × (number ≡ 0 → ⊥)
decided_refused {A} rules h a number e = go (eqb (first rules) 0) refl (sym (decide_number rules (named-numbers rules h) a) ∙ e)
  where
    go : (b : Bool) → eqb (first rules) 0 ≡ b → choose (eqb (first rules) 0) (given a) (refused (first rules)) ≡ refused number
        → (first rules ≡ number) × (number ≡ 0 → ⊥)
    go true t f = let no : ◌≡◌ {A = Answer A} (given a) (refused number) = sym (choose-true (given a) (refused (first rules)) t) ∙ f in cc
    go false t f =
        let same : ◌≡◌ {A = Answer A} (refused (first rules)) (refused number) = sym (choose-false (given a) (refused (first rules)) t) ∙ f in
        let alike : first rules ≡ number = cc in
        (alike, λ (z : number ≡ 0). eqb-false (first rules) 0 t (alike ∙ z))
