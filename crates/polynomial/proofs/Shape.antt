-- How many coefficients sums and products have, and that they are elements. Assumes nothing.
use mathlib.Core.Path.{◌≡◌, refl, sym, ap, ◌∙◌}
use mathlib.Core.List.{List, [], ◌∷◌}
use Prim.Native.Nat.{ℕ, suc, ◌+◌, ◌*◌, ◌<◌, max}
use native.Mathlib.Nat.{mod-lt, zero-max, max-zero, suc-max-suc}
use native.Mathlib.Omega.{arith}
use lib.ListN.{length, length-map}
use Rattle.arithmetic.specs.Modulo.{mul}
use Rattle.polynomial.specs.Elements.{Every, Elements}
use Rattle.polynomial.specs.Polynomial.{plus, scale, times, plus_all, times_all}

pub length-plus : (n : ℕ) (p q : List ℕ) → length (plus n p q) ≡ max (length p) (length q)
length-plus n [] q = sym (zero-max (length q))
length-plus n (a ∷ p) [] = sym (max-zero (suc (length p)))
length-plus n (a ∷ p) (b ∷ q) = ap suc (length-plus n p q) ∙ sym (suc-max-suc (length p) (length q))

-- a product has as many coefficients as its factors, less one
pub length-times : (n : ℕ) (p q : List ℕ) → 0 < length p → 0 < length q → length (times n p q) + 1 ≡ length p + length q
length-times n [] q h g = absurd (omega arith)
length-times n (a ∷ []) q h g = omega (arith, length-plus n (scale n a q) (0 ∷ []), length-map q (mul n a))
length-times n (a ∷ b ∷ p) q h g =
    omega (arith, length-plus n (scale n a q) (0 ∷ times n (b ∷ p) q), length-map q (mul n a), length-times n (b ∷ p) q (omega arith) g)

-- a product of lines has one coefficient more than there are lines
pub length-times_all : (n : ℕ) (ps : List (List ℕ)) → Every (λ (p : List ℕ). length p ≡ 2) ps → length (times_all n ps) ≡ suc (length ps)
length-times_all n [] h = refl
length-times_all n (p ∷ ps) h =
    let rest : length (times_all n ps) ≡ suc (length ps) = length-times_all n ps h.1 in
    let two : length p ≡ 2 = h.0 in
    omega (arith, length-times n p (times_all n ps) (omega arith) (omega arith))

-- a sum of polynomials of one length, at least one of them, has that length
pub length-plus_all : (n k : ℕ) (ps : List (List ℕ)) → 0 < length ps → Every (λ (q : List ℕ). length q ≡ k) ps → length (plus_all n ps) ≡ k
length-plus_all n k [] h u = absurd (omega arith)
length-plus_all n k (p ∷ []) h u = omega (arith, length-plus n p [], u.0)
length-plus_all n k (p ∷ q ∷ ps) h u =
    omega (arith, length-plus n p (plus_all n (q ∷ ps)), length-plus_all n k (q ∷ ps) (omega arith) u.1, u.0)

pub elements-plus : (n : ℕ) → 0 < n → (p q : List ℕ) → Elements n p → Elements n q → Elements n (plus n p q)
elements-plus n h [] q u v = v
elements-plus n h (a ∷ p) [] u v = u
elements-plus n h (a ∷ p) (b ∷ q) u v = (mod-lt (a + b) h, elements-plus n h p q u.1 v.1)

pub elements-scale : (n : ℕ) → 0 < n → (a : ℕ) (q : List ℕ) → Elements n (scale n a q)
elements-scale n h a [] = tt
elements-scale n h a (b ∷ q) = (mod-lt (a * b) h, elements-scale n h a q)

pub elements-times : (n : ℕ) → 0 < n → (p q : List ℕ) → Elements n (times n p q)
elements-times n h [] q = tt
elements-times n h (a ∷ p) q = elements-plus n h (scale n a q) (0 ∷ times n p q) (elements-scale n h a q) (h, elements-times n h p q)

pub elements-times_all : (n : ℕ) → 0 < n → (ps : List (List ℕ)) → Elements n (times_all n ps)
elements-times_all n h [] = (mod-lt 1 h, tt)
elements-times_all n h (p ∷ ps) = elements-times n h p (times_all n ps)

pub elements-plus_all : (n : ℕ) → 0 < n → (ps : List (List ℕ)) → Every (Elements n) ps → Elements n (plus_all n ps)
elements-plus_all n h [] u = tt
elements-plus_all n h (p ∷ ps) u = elements-plus n h p (plus_all n ps) u.0 (elements-plus_all n h ps u.1)
