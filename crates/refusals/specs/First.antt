-- Refusals in the document's order (document 01, "When a call is turned down").
-- An entry's refusals read like the document's table: `1 when .. ∷ 2 when .. ∷ []`; the first whose test holds is given.
use Rattle.std.specs.Prelude.{Bool, true, false, List, [], ◌∷◌, ℕ, leb}

-- a refusal's number and the test that calls for it
pub data Rule : Type 0 where
  ◌when◌ : ℕ → Bool → Rule

infix 70 ◌when◌
-- what an entry answers: a refusal's number, or a value
pub data Answer (A : Type 0) : Type 0 where
  refused : ℕ → Answer A
  given : A → Answer A

-- one of two
abbrev pub choose : {A : Type 0} → Bool → A → A → A
choose true a b = a
choose false a b = b

-- one of the two holds
abbrev pub either : Bool → Bool → Bool
either a b = choose a true b

-- some number of the list is not below n: no element (document 01, "Terms")
abbrev pub outside : ℕ → List ℕ → Bool
outside n [] = false
outside n (x ∷ xs) = either (leb n x) (outside n xs)

-- the number of the first refusal whose test holds; 0 if none does
abbrev pub first : List Rule → ℕ
first [] = 0
first ((number when test) ∷ rules) = choose test number (first rules)

-- the first refusal whose test holds; where none does, the value
abbrev pub decide : {A : Type 0} → List Rule → A → Answer A
decide [] a = given a
decide ((number when test) ∷ rules) a = choose test (refused number) (decide rules a)
