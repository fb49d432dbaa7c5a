-- Binding the first variable of an extension to r gives the extension of the table folded by r; and at a corner an extension is the table's
-- value. The corners whose first bit is 0 meet the lower half of the table with weight 1 - r, those whose first bit is 1 the upper half with
-- weight r, and the two add up to the point between. Assumes nothing.
use mathlib.Core.Path.{◌≡◌, sym, ap, ap₂, ◌∙◌}
use mathlib.Core.List.{List, [], ◌∷◌, map, map-append}
use Prim.Native.Nat.{ℕ, zero, suc, ◌+◌, ◌*◌, ◌^◌, ◌%◌, ◌<◌}
use native.Mathlib.Nat.{mod-mod, add-zero, zero-add, add-suc, suc-add}
use native.Mathlib.Omega.{arith}
use lib.ListN.{length, get_or}
use Rattle.arithmetic.specs.Modulo.{add, mul, sub}
use Rattle.arithmetic.proofs.Ring.{at, ◌⊕◌, ◌⊗◌, ⊖◌, same}
use Rattle.arithmetic.proofs.Modulo.{add-zero-mod}
use Rattle.polynomial.specs.Elements.{Every, sum, count_from}
use Rattle.polynomial.proofs.Lists.{every_map, map_same, map_twice, sum-append, sum-add}
use Rattle.sumcheck.specs.Corners.{corners, index}
use Rattle.sumcheck.specs.Extension.{factor, weight, extension}
use Rattle.sumcheck.specs.Folding.{between, fold}
use Rattle.sumcheck.proofs.Corners.{Corner, corner_all, index_below}

-- place i of a list made by counting
pub count_at : {A : Type 0} (g : ℕ → A) (j c i : ℕ) (d : A) → i < c → get_or (map g (count_from j c)) i d ≡ g (j + i)
unfolding count_from
count_at g j zero i d h = absurd (omega arith)
count_at g j (suc c) zero d h = ap g (sym (add-zero j))
count_at g j (suc c) (suc i) d h = count_at g (suc j) c i d (omega arith) ∙ ap g (suc-add j i ∙ sym (add-suc j i))

pub fold_at : (n r h : ℕ) (t : List ℕ) (i : ℕ) → i < h → get_or (fold n r h t) i 0 ≡ between n r (get_or t i 0) (get_or t (h + i) 0)
fold_at n r h t i l =
    count_at (λ (j : ℕ). between n r (get_or t j 0) (get_or t (h + j) 0)) 0 h i 0 l
    ∙ ap (λ (j : ℕ). between n r (get_or t j 0) (get_or t (h + j) 0)) (zero-add i)

-- the two halves' shares at one corner of the rest
halves : (m r a b w : ℕ) → add (suc m) (mul (suc m) a (mul (suc m) (factor (suc m) r 0) w)) (mul (suc m) b (mul (suc m) (factor (suc m) r 1) w))
    ≡ mul (suc m) (between (suc m) r a b) w
halves m r a b w =
    same (suc m) (at a ⊗ ((at r ⊗ at 0 ⊕ (at 1 ⊕ ⊖ at r) ⊗ (at 1 ⊕ ⊖ at 0)) ⊗ at w) ⊕ at b ⊗ ((at r ⊗ at 1 ⊕ (at 1 ⊕ ⊖ at r) ⊗ (at 1 ⊕ ⊖ at 1)) ⊗ at w))
    ((at a ⊕ at r ⊗ (at b ⊕ ⊖ at a)) ⊗ at w)
    0
    (b * (1 + m * r) * w)
    (omega arith)

pub low_index : (h i : ℕ) → i ≡ 0 * h + i
low_index h i = omega arith

pub high_index : (h i : ℕ) → h + i ≡ 1 * h + i
high_index h i = omega arith

-- what one corner adds to the sum of an extension
abbrev share : ℕ → List ℕ → List ℕ → List ℕ → ℕ
share n t r b = mul n (get_or t (index b) 0) (weight n r b)

-- the halves meet at every corner of the rest
meet : (m r : ℕ) (t rs c : List ℕ) → Corner (length rs) c
    → add (suc m) (share (suc m) t (r ∷ rs) (0 ∷ c)) (share (suc m) t (r ∷ rs) (1 ∷ c)) ≡ share (suc m) (fold (suc m) r (2 ^ length rs) t) rs c
meet m r t rs c k =
    ap₂ (λ (i j : ℕ). add (suc m) (mul (suc m) (get_or t i 0) (mul (suc m) (factor (suc m) r 0) (weight (suc m) rs c)))
    (mul (suc m) (get_or t j 0) (mul (suc m) (factor (suc m) r 1) (weight (suc m) rs c)))) low high
    ∙ (halves m r (get_or t (index c) 0) (get_or t (2 ^ length rs + index c) 0) (weight (suc m) rs c)
    ∙ ap (λ (v : ℕ). mul (suc m) v (weight (suc m) rs c)) (sym (fold_at (suc m) r (2 ^ length rs) t (index c) below)))
  where
    low : 0 * 2 ^ length c + index c ≡ index c
    low = sym (low_index (2 ^ length c) (index c))

    high : 1 * 2 ^ length c + index c ≡ 2 ^ length rs + index c
    high = ap (λ (l : ℕ). 1 * 2 ^ l + index c) k.members ∙ sym (high_index (2 ^ length rs) (index c))

    below : index c < 2 ^ length rs
    below = omega (arith, index_below c k.bits, ap (λ (l : ℕ). 2 ^ l) k.members)

-- binding the first variable to r is folding by r
pub extension-fold : (n : ℕ) → 0 < n → (r : ℕ) (t rs : List ℕ) → extension n t (r ∷ rs) ≡ extension n (fold n r (2 ^ length rs) t) rs
unfolding corners
extension-fold zero h r t rs = absurd (omega arith)
extension-fold (suc m) h r t rs =
    ap (sum (suc m)) (map-append (share (suc m) t (r ∷ rs)) (map (λ (b : List ℕ). 0 ∷ b) (corners (length rs)))
    (map (λ (b : List ℕ). 1 ∷ b) (corners (length rs))))
    ∙ (sum-append (suc m) (map (share (suc m) t (r ∷ rs)) (map (λ (b : List ℕ). 0 ∷ b) (corners (length rs))))
    (map (share (suc m) t (r ∷ rs)) (map (λ (b : List ℕ). 1 ∷ b) (corners (length rs))))
    ∙ (ap₂ (λ (xs ys : List ℕ). add (suc m) (sum (suc m) xs) (sum (suc m) ys))
    (map_twice (share (suc m) t (r ∷ rs)) (λ (b : List ℕ). 0 ∷ b) (corners (length rs)))
    (map_twice (share (suc m) t (r ∷ rs)) (λ (b : List ℕ). 1 ∷ b) (corners (length rs)))
    ∙ (sym (sum-add (suc m) (λ (c : List ℕ). share (suc m) t (r ∷ rs) (0 ∷ c)) (λ (c : List ℕ). share (suc m) t (r ∷ rs) (1 ∷ c)) (corners (length rs)))
    ∙ ap (sum (suc m)) (map_same (λ (c : List ℕ). add (suc m) (share (suc m) t (r ∷ rs) (0 ∷ c)) (share (suc m) t (r ∷ rs) (1 ∷ c)))
    (share (suc m) (fold (suc m) r (2 ^ length rs) t) rs) (corners (length rs))
    (every_map (Corner (length rs))
    (λ (c : List ℕ). add (suc m) (share (suc m) t (r ∷ rs) (0 ∷ c)) (share (suc m) t (r ∷ rs) (1 ∷ c)) ≡ share (suc m)
    (fold (suc m) r (2 ^ length rs) t) rs c)
    (meet m r t rs) (corners (length rs)) (corner_all (length rs)))))))

pub between_low : (m a b : ℕ) → between (suc m) 0 a b % suc m ≡ a % suc m
between_low m a b = mod-mod (a + mul (suc m) 0 (sub (suc m) b a)) (suc m) ∙ same (suc m) (at a ⊕ at 0 ⊗ (at b ⊕ ⊖ at a)) (at a) 0 0 (omega arith)

pub between_high : (m a b : ℕ) → between (suc m) 1 a b % suc m ≡ b % suc m
between_high m a b = mod-mod (a + mul (suc m) 1 (sub (suc m) b a)) (suc m) ∙ same (suc m) (at a ⊕ at 1 ⊗ (at b ⊕ ⊖ at a)) (at b) 0 a (omega arith)

-- at a corner an extension is the table's value there
pub extension_corner : (n : ℕ) → 0 < n → (t b : List ℕ) → Every (λ (x : ℕ). x < 2) b → extension n t b ≡ get_or t (index b) 0 % n
unfolding corners
extension_corner zero h t b u = absurd (omega arith)
extension_corner (suc m) h t [] u =
    ap (λ (z : ℕ). add (suc m) (mul (suc m) (get_or t 0 0) z) 0) (sym (add-zero-mod (suc m) 1))
    ∙ same (suc m) (at (get_or t 0 0) ⊗ (at 1 ⊕ at 0) ⊕ at 0) (at (get_or t 0 0)) 0 0 (omega arith)
extension_corner (suc m) h t (zero ∷ b) u =
    extension-fold (suc m) h 0 t b
    ∙ (extension_corner (suc m) h (fold (suc m) 0 (2 ^ length b) t) b u.1
    ∙ (ap (λ (v : ℕ). v % suc m) (fold_at (suc m) 0 (2 ^ length b) t (index b) (index_below b u.1))
    ∙ (between_low m (get_or t (index b) 0) (get_or t (2 ^ length b + index b) 0) ∙ ap (λ (i : ℕ). get_or t i 0 % suc m) (low_index (2 ^ length b) (index b)))))
extension_corner (suc m) h t (suc zero ∷ b) u =
    extension-fold (suc m) h 1 t b
    ∙ (extension_corner (suc m) h (fold (suc m) 1 (2 ^ length b) t) b u.1
    ∙ (ap (λ (v : ℕ). v % suc m) (fold_at (suc m) 1 (2 ^ length b) t (index b) (index_below b u.1))
    ∙ (between_high m (get_or t (index b) 0) (get_or t (2 ^ length b + index b) 0)
    ∙ ap (λ (i : ℕ). get_or t i 0 % suc m) (high_index (2 ^ length b) (index b)))))
extension_corner (suc m) h t (suc (suc x) ∷ b) u = absurd (omega (arith, u.0))
