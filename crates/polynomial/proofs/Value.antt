-- The value of a polynomial: Horner's rule, and the values of a sum and of a product. Each step is an identity modulo n. Assumes nothing.
use mathlib.Core.Path.{◌≡◌, refl, sym, ap, ap₂, ◌∙◌}
use mathlib.Core.List.{List, [], ◌∷◌, map}
use Prim.Native.Nat.{ℕ, suc, ◌+◌, ◌%◌}
use native.Mathlib.Nat.{mod-mod, zero-mod}
use native.Mathlib.Omega.{arith}
use Rattle.arithmetic.specs.Modulo.{add, mul, pow}
use Rattle.arithmetic.proofs.Ring.{at, ◌⊕◌, ◌⊗◌, same}
use Rattle.arithmetic.proofs.Modulo.{add-zero-mod, zero-add-mod, mul_comm, mul-zero-mod}
use Rattle.polynomial.specs.Elements.{sum, product}
use Rattle.polynomial.specs.Polynomial.{value_from, value, plus, scale, times, plus_all, times_all}

-- a value is its own remainder
pub value_reduced : (n i : ℕ) (cs : List ℕ) (x : ℕ) → value_from n i cs x % n ≡ value_from n i cs x
value_reduced n i [] x = zero-mod n
value_reduced n i (c ∷ cs) x = mod-mod (mul n c (pow n x i) + value_from n (suc i) cs x) n

-- one power more is one factor more
value_shift : (n i : ℕ) (cs : List ℕ) (x : ℕ) → value_from n (suc i) cs x ≡ mul n x (value_from n i cs x)
unfolding pow
value_shift n i [] x = sym (mul-zero-mod n x)
value_shift n i (c ∷ cs) x =
    ap (add n (mul n c (mul n x (pow n x i)))) (value_shift n (suc i) cs x)
    ∙ same n (at c ⊗ (at x ⊗ at (pow n x i)) ⊕ at x ⊗ at (value_from n (suc i) cs x))
    (at x ⊗ (at c ⊗ at (pow n x i) ⊕ at (value_from n (suc i) cs x)))
    0
    0
    (omega arith)

-- Horner's rule
pub value-cons : (n c : ℕ) (cs : List ℕ) (x : ℕ) → value n (c ∷ cs) x ≡ add n c (mul n x (value n cs x))
unfolding pow
value-cons n c cs x =
    ap₂ (λ (u v : ℕ). add n (mul n c u) v) (sym (add-zero-mod n 1)) (value_shift n 0 cs x)
    ∙ same n (at c ⊗ (at 1 ⊕ at 0) ⊕ at x ⊗ at (value n cs x)) (at c ⊕ at x ⊗ at (value n cs x)) 0 0 (omega arith)

from_plus : (n i : ℕ) (p q : List ℕ) (x : ℕ) → value_from n i (plus n p q) x ≡ add n (value_from n i p x) (value_from n i q x)
from_plus n i [] q x = sym (zero-add-mod n (value_from n i q x) ∙ value_reduced n i q x)
from_plus n i (a ∷ p) [] x = sym (add-zero-mod n (value_from n i (a ∷ p) x) ∙ value_reduced n i (a ∷ p) x)
from_plus n i (a ∷ p) (b ∷ q) x =
    ap (add n (mul n (add n a b) (pow n x i))) (from_plus n (suc i) p q x)
    ∙ same n ((at a ⊕ at b) ⊗ at (pow n x i) ⊕ (at (value_from n (suc i) p x) ⊕ at (value_from n (suc i) q x)))
    (at a ⊗ at (pow n x i) ⊕ at (value_from n (suc i) p x) ⊕ (at b ⊗ at (pow n x i) ⊕ at (value_from n (suc i) q x)))
    0
    0
    (omega arith)

from_scale : (n a i : ℕ) (q : List ℕ) (x : ℕ) → value_from n i (scale n a q) x ≡ mul n a (value_from n i q x)
from_scale n a i [] x = sym (mul-zero-mod n a)
from_scale n a i (b ∷ q) x =
    ap (add n (mul n (mul n a b) (pow n x i))) (from_scale n a (suc i) q x)
    ∙ same n (at a ⊗ at b ⊗ at (pow n x i) ⊕ at a ⊗ at (value_from n (suc i) q x))
    (at a ⊗ (at b ⊗ at (pow n x i) ⊕ at (value_from n (suc i) q x)))
    0
    0
    (omega arith)

pub value-plus : (n : ℕ) (p q : List ℕ) (x : ℕ) → value n (plus n p q) x ≡ add n (value n p x) (value n q x)
value-plus n p q x = from_plus n 0 p q x

pub value-scale : (n a : ℕ) (q : List ℕ) (x : ℕ) → value n (scale n a q) x ≡ mul n a (value n q x)
value-scale n a q x = from_scale n a 0 q x

pub value-times : (n : ℕ) (p q : List ℕ) (x : ℕ) → value n (times n p q) x ≡ mul n (value n p x) (value n q x)
value-times n [] q x = sym (mul_comm n 0 (value n q x) ∙ mul-zero-mod n (value n q x))
value-times n (a ∷ p) q x =
    value-plus n (scale n a q) (0 ∷ times n p q) x
    ∙ (ap₂ (add n) (value-scale n a q x) (value-cons n 0 (times n p q) x ∙ ap (λ (v : ℕ). add n 0 (mul n x v)) (value-times n p q x))
    ∙ (same n (at a ⊗ at (value n q x) ⊕ (at 0 ⊕ at x ⊗ (at (value n p x) ⊗ at (value n q x))))
    ((at a ⊕ at x ⊗ at (value n p x)) ⊗ at (value n q x))
    0
    0
    (omega arith)
    ∙ ap (λ (v : ℕ). mul n v (value n q x)) (sym (value-cons n a p x))))

-- the value of a sum of polynomials is the sum of their values
pub value-plus_all : (n : ℕ) (ps : List (List ℕ)) (x : ℕ) → value n (plus_all n ps) x ≡ sum n (map (λ (p : List ℕ). value n p x) ps)
value-plus_all n [] x = refl
value-plus_all n (p ∷ ps) x = value-plus n p (plus_all n ps) x ∙ ap (add n (value n p x)) (value-plus_all n ps x)

-- the value of a product of polynomials is the product of their values
pub value-times_all : (n : ℕ) (ps : List (List ℕ)) (x : ℕ) → value n (times_all n ps) x ≡ product n (map (λ (p : List ℕ). value n p x) ps)
value-times_all n [] x =
    value-cons n (1 % n) [] x
    ∙ (ap₂ (add n) (sym (add-zero-mod n 1)) (mul-zero-mod n x) ∙ same n (at 1 ⊕ at 0 ⊕ at 0) (at 1) 0 0 (omega arith))
value-times_all n (p ∷ ps) x = value-times n p (times_all n ps) x ∙ ap (mul n (value n p x)) (value-times_all n ps x)
