-- How a list of refusals is decided, a rule at a time. Assumes nothing.
use mathlib.Core.Path.{◌≡◌, refl, sym, ap, ◌∙◌}
use mathlib.Core.Bool.{Bool, true, false, ◌||◌}
use mathlib.Core.List.{List, [], ◌∷◌, ◌++◌}
use Prim.Native.Nat.{ℕ}
use lib.Dec.{leb}
use Rattle.refusals.specs.First.{Rule, ◌when◌, refused, choose, either, outside, first, decide}

pub choose-true : {A : Type 0} {b : Bool} (x y : A) → b ≡ true → choose b x y ≡ x
choose-true {A} x y e = ap (λ (b : Bool). choose b x y) e

pub choose-false : {A : Type 0} {b : Bool} (x y : A) → b ≡ false → choose b x y ≡ y
choose-false {A} x y e = ap (λ (b : Bool). choose b x y) e

-- the first test holds
pub turned : {A : Type 0} (number : ℕ) {test : Bool} (rules : List Rule) (a : A) → test ≡ true → refused number ≡ decide ((number when test) ∷ rules) a
turned number rules a e = sym (choose-true (refused number) (decide rules a) e)

-- the first test fails
pub passed : {A : Type 0} (number : ℕ) {test : Bool} (rules : List Rule) (a : A) → test ≡ false → decide rules a ≡ decide ((number when test) ∷ rules) a
passed number rules a e = sym (choose-false (refused number) (decide rules a) e)

-- the same of the number alone
pub numbered : (number : ℕ) {test : Bool} (rules : List Rule) → test ≡ true → number ≡ first ((number when test) ∷ rules)
numbered number rules e = sym (choose-true number (first rules) e)

pub unnumbered : (number : ℕ) {test : Bool} (rules : List Rule) → test ≡ false → first rules ≡ first ((number when test) ∷ rules)
unnumbered number rules e = sym (choose-false number (first rules) e)

-- either of two tests, as the code writes it
pub either_or : (a b : Bool) → either a b ≡ (a || b)
either_or true b = refl
either_or false b = refl

-- either of two tests
pub either_left : {a : Bool} (b : Bool) → a ≡ true → either a b ≡ true
either_left b e = choose-true true b e

pub either-right : {a b : Bool} → a ≡ false → b ≡ true → either a b ≡ true
either-right {a} {b} e f = choose-false true b e ∙ f

pub either-none : {a b : Bool} → a ≡ false → b ≡ false → either a b ≡ false
either-none {a} {b} e f = choose-false true b e ∙ f

-- a list of refusals in two parts: one of the first part is given where its number is not 0
pub decide_first : {A : Type 0} (rules more : List Rule) (a : A) → (first rules ≡ 0 → ⊥) → decide (rules ++ more) a ≡ refused (first rules)
decide_first [] more a h = absurd (h refl)
decide_first ((number when true) ∷ rules) more a h = refl
decide_first ((number when false) ∷ rules) more a h = decide_first rules more a h

-- no refusal has the number 0
abbrev pub Numbers : List Rule → Type 0
Numbers [] = Unit {0}
Numbers ((number when test) ∷ rules) = (number ≡ 0 → ⊥) × Numbers rules

-- where none of the first part is given, the second part decides
pub decide_rest : {A : Type 0} (rules more : List Rule) (a : A) → Numbers rules → first rules ≡ 0 → decide (rules ++ more) a ≡ decide more a
decide_rest [] more a n h = refl
decide_rest ((number when true) ∷ rules) more a n h = absurd (n.0 h)
decide_rest ((number when false) ∷ rules) more a n h = decide_rest rules more a n.1 h

-- and the number is that of the second part
pub first_rest : (rules more : List Rule) → Numbers rules → first rules ≡ 0 → first (rules ++ more) ≡ first more
first_rest [] more n h = refl
first_rest ((number when true) ∷ rules) more n h = absurd (n.0 h)
first_rest ((number when false) ∷ rules) more n h = first_rest rules more n.1 h

-- one refusal for either of two tests is that refusal for the one and then for the other
pub decide-either : {A : Type 0} (number : ℕ) (a b : Bool) (rules : List Rule) (x : A)
    → decide ((number when either a b) ∷ rules) x ≡ decide ((number when a) ∷ (number when b) ∷ rules) x
decide-either number true b rules x = refl
decide-either number false b rules x = refl

pub first_either : (number : ℕ) (a b : Bool) (rules : List Rule) → first ((number when either a b) ∷ rules) ≡ first ((number when a) ∷ (number when b) ∷ rules)
first_either number true b rules = refl
first_either number false b rules = refl

-- two lists one after the other hold a number that is no element where one of them does
pub outside-append : (n : ℕ) (xs ys : List ℕ) → outside n (xs ++ ys) ≡ either (outside n xs) (outside n ys)
outside-append n [] ys = refl
outside-append n (x ∷ xs) ys = go (leb n x) (outside-append n xs ys)
  where
    go : (b : Bool) → outside n (xs ++ ys) ≡ either (outside n xs) (outside n ys)
        → either b (outside n (xs ++ ys)) ≡ either (either b (outside n xs)) (outside n ys)
    go true e = refl
    go false e = e
