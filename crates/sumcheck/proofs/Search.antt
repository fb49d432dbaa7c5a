-- The walk for refusal 5 (specs/Lent, first_outside): what a walker knows who has passed a number of places, and that a list holds a number that is no
-- element exactly where the search ends before the list does. Assumes nothing.
use mathlib.Core.Path.{◌≡◌, refl, sym, ap, ◌∙◌}
use mathlib.Core.Bool.{Bool, true, false}
use mathlib.Core.List.{List, [], ◌∷◌}
use Prim.Native.Nat.{ℕ, suc, ◌+◌}
use native.Mathlib.Omega.{arith}
use lib.Dec.{leb, ltb, leb-suc-suc}
use lib.ListN.{length, drop}
use borrow.Author.Tests.{lt-ltb}
use Rattle.refusals.specs.First.{choose, outside}
use Rattle.refusals.proofs.First.{choose-true, choose-false}
use Rattle.sumcheck.specs.Lent.{first_outside}

-- so many places are passed: what is left of the search is that of the rest
abbrev pub Passed : ℕ → List ℕ → ℕ → Type 0
Passed n xs at = first_outside n xs ≡ at + first_outside n (drop at xs)

-- a list holds a number that is no element exactly where the search ends before it
pub outside_search : (n : ℕ) (xs : List ℕ) → ltb (first_outside n xs) (length xs) ≡ outside n xs
outside_search n [] = refl
outside_search n (x ∷ xs) = go (leb n x) refl (outside_search n xs)
  where
    go : (b : Bool) → leb n x ≡ b → ltb (first_outside n xs) (length xs) ≡ outside n xs
        → ltb (choose (leb n x) 0 (suc (first_outside n xs))) (suc (length xs)) ≡ choose (leb n x) true (outside n xs)
    go true e ih =
        ap (λ (i : ℕ). ltb i (suc (length xs))) (choose-true 0 (suc (first_outside n xs)) e)
        ∙ (lt-ltb 0 (suc (length xs)) (omega arith) ∙ sym (choose-true true (outside n xs) e))
    go false e ih =
        ap (λ (i : ℕ). ltb i (suc (length xs))) (choose-false 0 (suc (first_outside n xs)) e)
        ∙ (leb-suc-suc (suc (first_outside n xs)) (length xs) ∙ (ih ∙ sym (choose-false true (outside n xs) e)))
