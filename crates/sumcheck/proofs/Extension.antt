-- An extension has degree at most 1 in each variable: its value at x is the point at x on the line through its values at 0 and 1
-- (document 002, "Multilinear Polynomials"). A weight has it, a multiple of what has it, and a sum. Assumes nothing.
use mathlib.Core.Path.{◌≡◌, sym, ap, ap₂, ◌∙◌}
use mathlib.Core.List.{List, [], ◌∷◌, ◌++◌, map}
use Prim.Native.Nat.{ℕ, zero, suc, ◌+◌, ◌*◌, ◌%◌, ◌<◌}
use native.Mathlib.Nat.{zero-mod, mod-mod}
use native.Mathlib.Omega.{arith}
use lib.ListN.{length, length-append, get_or}
use Rattle.arithmetic.specs.Modulo.{add, mul, sub}
use Rattle.arithmetic.proofs.Ring.{at, ◌⊕◌, ◌⊗◌, ⊖◌, same}
use Rattle.arithmetic.proofs.Modulo.{mul_comm}
use Rattle.polynomial.specs.Elements.{Every, sum}
use Rattle.polynomial.specs.Polynomial.{value}
use Rattle.polynomial.proofs.Lists.{every}
use Rattle.polynomial.proofs.Value.{value-cons}
use Rattle.sumcheck.specs.Corners.{corners, index}
use Rattle.sumcheck.specs.Extension.{factor, weight, extension}
use Rattle.sumcheck.specs.TruePolynomial.{line}
use Rattle.sumcheck.specs.Folding.{between}

-- a value that does not change lies between itself and itself
between_same : (m x a : ℕ) → between (suc m) x a a ≡ a % suc m
between_same m x a = same (suc m) (at a ⊕ at x ⊗ (at a ⊕ ⊖ at a)) (at a) 0 (x * a) (omega arith)

-- a multiple of the point between is the point between the multiples
between-mul : (n x c a b : ℕ) → mul n c (between n x a b) ≡ between n x (mul n c a) (mul n c b)
between-mul n x c a b = same n (at c ⊗ (at a ⊕ at x ⊗ (at b ⊕ ⊖ at a))) (at c ⊗ at a ⊕ at x ⊗ (at c ⊗ at b ⊕ ⊖ (at c ⊗ at a))) 0 0 (omega arith)

-- the sum of two points between is the point between the sums
between-add : (n x a b c d : ℕ) → add n (between n x a b) (between n x c d) ≡ between n x (add n a c) (add n b d)
between-add n x a b c d =
    same n (at a ⊕ at x ⊗ (at b ⊕ ⊖ at a) ⊕ (at c ⊕ at x ⊗ (at d ⊕ ⊖ at c))) (at a ⊕ at c ⊕ at x ⊗ (at b ⊕ at d ⊕ ⊖ (at a ⊕ at c))) 0 0 (omega arith)

-- one factor of a weight
factor-between : (m x c : ℕ) → factor (suc m) x c ≡ between (suc m) x (factor (suc m) 0 c) (factor (suc m) 1 c)
factor-between m x c =
    same (suc m) (at x ⊗ at c ⊕ (at 1 ⊕ ⊖ at x) ⊗ (at 1 ⊕ ⊖ at c))
    (at 0 ⊗ at c ⊕ (at 1 ⊕ ⊖ at 0) ⊗ (at 1 ⊕ ⊖ at c)
    ⊕ at x ⊗ (at 1 ⊗ at c ⊕ (at 1 ⊕ ⊖ at 1) ⊗ (at 1 ⊕ ⊖ at c) ⊕ ⊖ (at 0 ⊗ at c ⊕ (at 1 ⊕ ⊖ at 0) ⊗ (at 1 ⊕ ⊖ at c)))) (x * (1 + m * c)) 0 (omega arith)

-- a weight has degree 1 in each variable
weight-between : (m x : ℕ) (r b c : List ℕ)
    → weight (suc m) (r ++ x ∷ b) c ≡ between (suc m) x (weight (suc m) (r ++ 0 ∷ b) c) (weight (suc m) (r ++ 1 ∷ b) c)
weight-between m x [] b [] = sym (between_same m x (1 % suc m) ∙ mod-mod 1 (suc m))
weight-between m x [] b (c ∷ cs) =
    ap (λ (z : ℕ). mul (suc m) z (weight (suc m) b cs)) (factor-between m x c)
    ∙ (mul_comm (suc m) (between (suc m) x (factor (suc m) 0 c) (factor (suc m) 1 c)) (weight (suc m) b cs)
    ∙ (between-mul (suc m) x (weight (suc m) b cs) (factor (suc m) 0 c) (factor (suc m) 1 c)
    ∙ ap₂ (between (suc m) x) (mul_comm (suc m) (weight (suc m) b cs) (factor (suc m) 0 c)) (mul_comm (suc m) (weight (suc m) b cs) (factor (suc m) 1 c))))
weight-between m x (r ∷ rs) b [] = sym (between_same m x (1 % suc m) ∙ mod-mod 1 (suc m))
weight-between m x (r ∷ rs) b (c ∷ cs) =
    ap (mul (suc m) (factor (suc m) r c)) (weight-between m x rs b cs)
    ∙ between-mul (suc m) x (factor (suc m) r c) (weight (suc m) (rs ++ 0 ∷ b) cs) (weight (suc m) (rs ++ 1 ∷ b) cs)

-- a sum of multiples of what has degree 1 has degree 1
sum-between : {A : Type 0} (m x : ℕ) (t : A → ℕ) (u v w : A → ℕ) (cs : List A) → Every (λ (c : A). u c ≡ between (suc m) x (v c) (w c)) cs
    → sum (suc m) (map (λ (c : A). mul (suc m) (t c) (u c)) cs)
    ≡ between (suc m) x (sum (suc m) (map (λ (c : A). mul (suc m) (t c) (v c)) cs)) (sum (suc m) (map (λ (c : A). mul (suc m) (t c) (w c)) cs))
sum-between m x t u v w [] h = sym (between_same m x 0 ∙ zero-mod (suc m))
sum-between {A} m x t u v w (c ∷ cs) h =
    ap₂ (add (suc m)) (ap (mul (suc m) (t c)) h.0 ∙ between-mul (suc m) x (t c) (v c) (w c)) (sum-between m x t u v w cs h.1)
    ∙ between-add (suc m) x (mul (suc m) (t c) (v c)) (mul (suc m) (t c) (w c))
    (sum (suc m) (map (λ (d : A). mul (suc m) (t d) (v d)) cs))
    (sum (suc m) (map (λ (d : A). mul (suc m) (t d) (w d)) cs))

-- the sum of an extension, over the corners of k variables
abbrev over : ℕ → List ℕ → List ℕ → ℕ → ℕ
over n t r k = sum n (map (λ (b : List ℕ). mul n (get_or t (index b) 0) (weight n r b)) (corners k))

-- an extension has degree at most 1 in each variable
pub extension-between : (m x : ℕ) (t r b : List ℕ)
    → extension (suc m) t (r ++ x ∷ b) ≡ between (suc m) x (extension (suc m) t (r ++ 0 ∷ b)) (extension (suc m) t (r ++ 1 ∷ b))
extension-between m x t r b =
    at_length x
    ∙ (sum-between m x (λ (c : List ℕ). get_or t (index c) 0) (weight (suc m) (r ++ x ∷ b)) (weight (suc m) (r ++ 0 ∷ b)) (weight (suc m) (r ++ 1 ∷ b))
    (corners k)
    (every (λ (c : List ℕ). weight (suc m) (r ++ x ∷ b) c ≡ between (suc m) x (weight (suc m) (r ++ 0 ∷ b) c) (weight (suc m) (r ++ 1 ∷ b) c))
    (weight-between m x r b) (corners k))
    ∙ ap₂ (between (suc m) x) (sym (at_length 0)) (sym (at_length 1)))
  where
    k : ℕ
    k = length r + suc (length b)

    at_length : (y : ℕ) → extension (suc m) t (r ++ y ∷ b) ≡ over (suc m) t (r ++ y ∷ b) (length r + suc (length b))
    at_length y = ap (over (suc m) t (r ++ y ∷ b)) (length-append r (y ∷ b))

-- the line of a round has the extension's values
pub line-value : (n : ℕ) → 0 < n → (x : ℕ) (t r b : List ℕ) → value n (line n r b t) x ≡ extension n t (r ++ x ∷ b)
line-value zero h x t r b = absurd (omega arith)
line-value (suc m) h x t r b =
    value-cons (suc m) low (slope ∷ []) x
    ∙ (ap (λ (v : ℕ). add (suc m) low (mul (suc m) x v)) (value-cons (suc m) slope [] x)
    ∙ (same (suc m) (at low ⊕ at x ⊗ (at slope ⊕ at x ⊗ at 0)) (at low ⊕ at x ⊗ at slope) 0 0 (omega arith) ∙ sym (extension-between m x t r b)))
  where
    low : ℕ
    low = extension (suc m) t (r ++ 0 ∷ b)

    slope : ℕ
    slope = sub (suc m) (extension (suc m) t (r ++ 1 ∷ b)) low
