-- Polynomials in a list of fixed length, with zeros on top: the product with a line, and sums. Assumes nothing.
use mathlib.Core.Path.{◌≡◌, refl, sym, ap, ap₂, ◌∙◌}
use mathlib.Core.List.{List, [], ◌∷◌, ◌++◌}
use Prim.Native.Nat.{ℕ, zero, suc, ◌<◌}
use native.Mathlib.Nat.{mod-eq_of_lt, zero-mod}
use native.Mathlib.Omega.{arith}
use lib.ListN.{length, replicate, length-replicate}
use Rattle.arithmetic.specs.Modulo.{add, mul}
use Rattle.arithmetic.proofs.Ring.{at, ◌⊕◌, ◌⊗◌, same}
use Rattle.arithmetic.proofs.Modulo.{add-zero-mod, zero-add-mod, mul-zero-mod}
use Rattle.polynomial.specs.Elements.{Every, Elements}
use Rattle.polynomial.specs.Polynomial.{plus, scale, times, plus_all}
use Rattle.polynomial.specs.Array.{line_times}
use Rattle.polynomial.proofs.Shape.{length-plus}

line_times_zeros : (n a d z : ℕ) → line_times n a d 0 (replicate z 0) ≡ replicate z 0
line_times_zeros n a d zero = refl
line_times_zeros n a d (suc z) =
    ap₂ {B = List ℕ} (λ (x : ℕ) (xs : List ℕ). x ∷ xs) (same n (at a ⊗ at 0 ⊕ at d ⊗ at 0) (at 0) 0 0 (omega arith) ∙ zero-mod n) (line_times_zeros n a d z)

-- with a zero on top nothing is cut off
line_times-plus : (n a d before z : ℕ) (cs : List ℕ)
    → line_times n a d before (cs ++ replicate (suc z) 0) ≡ plus n (scale n a cs) (mul n d before ∷ scale n d cs) ++ replicate z 0
line_times-plus n a d before z [] =
    ap₂ {B = List ℕ} (λ (x : ℕ) (xs : List ℕ). x ∷ xs) (same n (at a ⊗ at 0 ⊕ at d ⊗ at before) (at d ⊗ at before) 0 0 (omega arith)) (line_times_zeros n a d z)
line_times-plus n a d before z (c ∷ cs) = ap (λ (xs : List ℕ). add n (mul n a c) (mul n d before) ∷ xs) (line_times-plus n a d c z cs)

plus_nil : (n : ℕ) (p : List ℕ) → plus n p [] ≡ p
plus_nil n [] = refl
plus_nil n (a ∷ p) = refl

pub line_times-times : (n a d z c : ℕ) (cs : List ℕ) → line_times n a d 0 ((c ∷ cs) ++ replicate (suc z) 0) ≡ times n (a ∷ d ∷ []) (c ∷ cs) ++ replicate z 0
line_times-times n a d z c cs =
    line_times-plus n a d 0 z (c ∷ cs)
    ∙ ap₂ (λ (x : ℕ) (xs : List ℕ). plus n (scale n a (c ∷ cs)) (x ∷ xs) ++ replicate z 0) (mul-zero-mod n d)
    (ap₂ {B = List ℕ} (λ (x : ℕ) (xs : List ℕ). x ∷ xs) (sym (same n (at d ⊗ at c ⊕ at 0) (at d ⊗ at c) 0 0 (omega arith))) (sym (plus_nil n (scale n d cs))))

plus_zeros : (n z : ℕ) → plus n (replicate z 0) (replicate z 0) ≡ replicate z 0
plus_zeros n zero = refl
plus_zeros n (suc z) = ap₂ {B = List ℕ} (λ (x : ℕ) (xs : List ℕ). x ∷ xs) (zero-add-mod n 0 ∙ zero-mod n) (plus_zeros n z)

-- sums keep the zeros on top
pub plus-padded : (n z : ℕ) (p q : List ℕ) → length p ≡ length q → plus n (p ++ replicate z 0) (q ++ replicate z 0) ≡ plus n p q ++ replicate z 0
plus-padded n z [] [] e = plus_zeros n z
plus-padded n z [] (b ∷ q) e = absurd (omega arith)
plus-padded n z (a ∷ p) [] e = absurd (omega arith)
plus-padded n z (a ∷ p) (b ∷ q) e = ap (λ (xs : List ℕ). add n a b ∷ xs) (plus-padded n z p q (omega arith))

-- the sum of polynomials of l coefficients, begun with l zeros
abbrev pub total : ℕ → ℕ → List (List ℕ) → List ℕ
total n l [] = replicate l 0
total n l (p ∷ ps) = plus n p (total n l ps)

plus_none : (n : ℕ) (p : List ℕ) → Elements n p → plus n p (replicate (length p) 0) ≡ p
plus_none n [] u = refl
plus_none n (a ∷ p) u = ap₂ {B = List ℕ} (λ (x : ℕ) (xs : List ℕ). x ∷ xs) (add-zero-mod n a ∙ mod-eq_of_lt u.0) (plus_none n p u.1)

pub total-plus : (n l : ℕ) (ps : List (List ℕ)) → 0 < length ps → Every (λ (q : List ℕ). length q ≡ l) ps → Every (Elements n) ps → total n l ps ≡ plus_all n ps
total-plus n l [] h u e = absurd (omega arith)
total-plus n l (p ∷ []) h u e = ap (λ (k : ℕ). plus n p (replicate k 0)) (sym u.0) ∙ (plus_none n p e.0 ∙ sym (plus_nil n p))
total-plus n l (p ∷ q ∷ ps) h u e = ap (plus n p) (total-plus n l (q ∷ ps) (omega arith) u.1 e.1)

pub length-total : (n l : ℕ) (ps : List (List ℕ)) → Every (λ (q : List ℕ). length q ≡ l) ps → length (total n l ps) ≡ l
length-total n l [] u = length-replicate l 0
length-total n l (p ∷ ps) u = omega (arith, length-plus n p (total n l ps), length-total n l ps u.1, u.0)

-- the same of a polynomial that has a coefficient
pub line_times_some : (n a d z : ℕ) (q : List ℕ) → 0 < length q → line_times n a d 0 (q ++ replicate (suc z) 0) ≡ times n (a ∷ d ∷ []) q ++ replicate z 0
line_times_some n a d z [] h = absurd (omega arith)
line_times_some n a d z (c ∷ cs) h = line_times-times n a d z c cs
