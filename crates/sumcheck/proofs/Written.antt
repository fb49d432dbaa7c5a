-- A list whose first places have been written one after the other: what a loop that fills the front of a lent list knows. Assumes nothing.
use mathlib.Core.Path.{◌≡◌, refl, sym, ap, ap₂, ◌∙◌}
use mathlib.Core.List.{List, [], ◌∷◌, ◌++◌, map, append_assoc, map-append}
use Prim.Native.Nat.{ℕ, suc, ◌+◌, ◌-◌, ◌≤◌, ◌<◌}
use native.Mathlib.Nat.{zero-add}
use native.Mathlib.Numerals.{add-one}
use native.Mathlib.Omega.{arith}
use lib.ListN.{length, drop, get_or, set, length-map}
use lib.Seq.{drop-cons, set_at, get_or-append-add, get_or-drop}
use Rattle.polynomial.specs.Elements.{count_from}
use Rattle.sumcheck.proofs.Corners.{count_append, count_length}

-- the first i places hold g of their place, the rest is as it was
abbrev pub written : (ℕ → ℕ) → ℕ → List ℕ → List ℕ
written g i xs = map g (count_from 0 i) ++ drop i xs

pub written_none : (g : ℕ → ℕ) (xs : List ℕ) → xs ≡ written g 0 xs
unfolding count_from
written_none g xs = refl

front_length : (g : ℕ → ℕ) (i : ℕ) → length (map g (count_from 0 i)) ≡ i
front_length g i = length-map (count_from 0 i) g ∙ count_length 0 i

front_more : (g : ℕ → ℕ) (i : ℕ) → map g (count_from 0 (i + 1)) ≡ map g (count_from 0 i) ++ g i ∷ []
unfolding count_from
front_more g i =
    ap (map g) (count_append 0 i 1) ∙ (map-append g (count_from 0 i) (count_from (0 + i) 1) ∙ ap (λ (j : ℕ). map g (count_from 0 i) ++ g j ∷ []) (zero-add i))

-- the next place is written
pub written_more : (g : ℕ → ℕ) (i : ℕ) (xs : List ℕ) → i < length xs → set (written g i xs) i (g i) ≡ written g (i + 1) xs
written_more g i xs h =
    ap (λ (r : List ℕ). set (map g (count_from 0 i) ++ r) i (g i)) (drop-cons xs i 0 h)
    ∙ (set_at (map g (count_from 0 i)) (get_or xs i 0) (drop (suc i) xs) (g i) i (front_length g i)
    ∙ (sym (append_assoc (map g (count_from 0 i)) (g i ∷ []) (drop (suc i) xs))
    ∙ ap₂ (λ (a : List ℕ) (j : ℕ). a ++ drop j xs) (sym (front_more g i)) (sym (add-one i))))

-- a place that is not yet written is as it was
pub written_at : (g : ℕ → ℕ) (i : ℕ) (xs : List ℕ) (j : ℕ) → i ≤ j → get_or (written g i xs) j 0 ≡ get_or xs j 0
written_at g i xs j h =
    ap (λ (k : ℕ). get_or (written g i xs) k 0) (place (length (map g (count_from 0 i))) (front_length g i))
    ∙ (get_or-append-add (map g (count_from 0 i)) (drop i xs) (j - i) 0 ∙ (get_or-drop i xs (j - i) 0 ∙ ap (λ (k : ℕ). get_or xs k 0) (sym (place i refl))))
  where
    place : (l : ℕ) → l ≡ i → j ≡ l + (j - i)
    place l e = omega arith

-- the same of a list that a loop holds
pub written_next : (g : ℕ → ℕ) (i : ℕ) (xs ys : List ℕ) (v : ℕ) → ys ≡ written g i xs → i < length xs → v ≡ g i → set ys i v ≡ written g (i + 1) xs
written_next g i xs ys v e h w = ap₂ (λ (zs : List ℕ) (x : ℕ). set zs i x) e w ∙ written_more g i xs h
