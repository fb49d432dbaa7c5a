-- Two different polynomials of k + 1 coefficients agree at no more than k elements of a prime field (document 003, "Soundness analysis").
-- A polynomial with the root x is X - x times a quotient with one coefficient less; another root is a root of the quotient, by Euclid's lemma.
-- So a list with as many distinct roots as it has coefficients has no coefficient but 0, and that of the difference of two lists makes them
-- equal. Assumes nothing.
use mathlib.Core.Path.{◌≡◌, refl, sym, ap, ap₂, ◌∙◌}
use mathlib.Core.List.{List, [], ◌∷◌}
use Prim.Native.Nat.{ℕ, zero, suc, ◌+◌, ◌*◌, ◌%◌, ◌≤◌, ◌<◌}
use native.Mathlib.Nat.{mod-eq_of_lt, mod-mod, zero-mod, lt_of_not-le}
use native.Mathlib.Omega.{arith}
use lib.ListN.{length, length-map}
use Rattle.arithmetic.specs.Modulo.{add, mul, neg, sub}
use Rattle.arithmetic.specs.Prime.{Prime}
use Rattle.arithmetic.proofs.Ring.{at, ◌⊕◌, ◌⊗◌, ⊖◌, same}
use Rattle.arithmetic.proofs.Modulo.{zero-add-mod, sub-add}
use Rattle.arithmetic.proofs.Field.{product-zero}
use Rattle.polynomial.specs.Elements.{Every, Elements, Distinct}
use Rattle.polynomial.specs.Polynomial.{value, plus, scale}
use Rattle.polynomial.proofs.Value.{value-cons, value-plus, value-scale, value_reduced}
use Rattle.polynomial.proofs.Shape.{length-plus}

-- the quotient of c ∷ cs by X - x: the values at x of what stands behind each coefficient
abbrev quotient : ℕ → ℕ → List ℕ → List ℕ
quotient n x [] = []
quotient n x (d ∷ cs) = value n (d ∷ cs) x ∷ quotient n x cs

length-quotient : (n x : ℕ) (cs : List ℕ) → length (quotient n x cs) ≡ length cs
length-quotient n x [] = refl
length-quotient n x (d ∷ cs) = ap suc (length-quotient n x cs)

-- one coefficient more in front: u and v are the values at y and x of the others, w that of their quotient at y
divided-step : (n x y c u v w : ℕ) → add n u (mul n x w) ≡ add n (mul n y w) v
    → add n (add n c (mul n y u)) (mul n x (add n v (mul n y w))) ≡ add n (mul n y (add n v (mul n y w))) (add n c (mul n x v))
divided-step n x y c u v w e =
    same n (at c ⊕ at y ⊗ at u ⊕ at x ⊗ (at v ⊕ at y ⊗ at w)) (at c ⊕ at x ⊗ at v ⊕ at y ⊗ (at u ⊕ at x ⊗ at w)) 0 0 (omega arith)
    ∙ (ap (λ (z : ℕ). add n (add n c (mul n x v)) (mul n y z)) e
    ∙ same n (at c ⊕ at x ⊗ at v ⊕ at y ⊗ (at y ⊗ at w ⊕ at v)) (at y ⊗ (at v ⊕ at y ⊗ at w) ⊕ (at c ⊕ at x ⊗ at v)) 0 0 (omega arith))

-- p(y) + x · q(y) = y · q(y) + p(x)
divided : (n x c : ℕ) (cs : List ℕ) (y : ℕ)
    → add n (value n (c ∷ cs) y) (mul n x (value n (quotient n x cs) y)) ≡ add n (mul n y (value n (quotient n x cs) y)) (value n (c ∷ cs) x)
divided n x c [] y =
    ap (λ (z : ℕ). add n z (mul n x 0)) (value-cons n c [] y)
    ∙ (same n (at c ⊕ at y ⊗ at 0 ⊕ at x ⊗ at 0) (at y ⊗ at 0 ⊕ (at c ⊕ at x ⊗ at 0)) 0 0 (omega arith)
    ∙ ap (add n (mul n y 0)) (sym (value-cons n c [] x)))
divided n x c (d ∷ cs) y =
    ap₂ (λ (z t : ℕ). add n z (mul n x t)) (value-cons n c (d ∷ cs) y) (value-cons n (value n (d ∷ cs) x) (quotient n x cs) y)
    ∙ (divided-step n x y c (value n (d ∷ cs) y) (value n (d ∷ cs) x) (value n (quotient n x cs) y) (divided n x d cs y)
    ∙ ap₂ (λ (z t : ℕ). add n (mul n y t) z) (sym (value-cons n c (d ∷ cs) x)) (sym (value-cons n (value n (d ∷ cs) x) (quotient n x cs) y)))

-- two elements with difference 0 are equal
sub-zero : (n a b : ℕ) → 0 < n → a < n → b < n → sub n a b ≡ 0 → a ≡ b
sub-zero n a b h ha hb e =
    sym (mod-eq_of_lt ha) ∙ (sym (sub-add n a b h) ∙ (ap (λ (z : ℕ). add n z b) e ∙ (zero-add-mod n b ∙ mod-eq_of_lt hb)))

-- another root is a root of the quotient
other_root : (n : ℕ) → Prime n → (x y w : ℕ) → x < n → y < n → (x ≡ y → ⊥) → add n 0 (mul n x w) ≡ add n (mul n y w) 0 → w % n ≡ 0
other_root zero h x y w hx hy ne e = absurd (omega arith)
other_root (suc m) h x y w hx hy ne e =
    product-zero (suc m) h (sub (suc m) y x) w gone
    (λ (z : sub (suc m) y x % suc m ≡ 0). ne (sym (sub-zero (suc m) y x (omega arith) hy hx (sym (mod-mod (y + neg (suc m) x) (suc m)) ∙ z))))
  where
    gone : mul (suc m) (sub (suc m) y x) w ≡ 0
    gone =
        same (suc m) ((at y ⊕ ⊖ at x) ⊗ at w) (at y ⊗ at w ⊕ at 0 ⊕ ⊖ (at x ⊗ at w)) 0 0 (omega arith)
        ∙ (ap (λ (z : ℕ). add (suc m) z (neg (suc m) (mul (suc m) x w))) (sym e)
        ∙ (same (suc m) (at 0 ⊕ at x ⊗ at w ⊕ ⊖ (at x ⊗ at w)) (at 0) 0 (x * w) (omega arith) ∙ zero-mod (suc m)))

-- a coefficient in front of a value 0 is 0 where the whole is
front : (n x c v : ℕ) → v ≡ 0 → add n c (mul n x v) ≡ 0 → c % n ≡ 0
front n x c v e f = sym (sym f ∙ (ap (λ (z : ℕ). add n c (mul n x z)) e ∙ same n (at c ⊕ at x ⊗ at 0) (at c) 0 0 (omega arith)))

-- where the value at x and the quotient by X - x are 0, so is every coefficient
coefficients : (n x c : ℕ) (cs : List ℕ) → value n (c ∷ cs) x ≡ 0 → Every (λ (q : ℕ). q % n ≡ 0) (quotient n x cs)
    → Every (λ (a : ℕ). a % n ≡ 0) (c ∷ cs)
coefficients n x c [] e z = (front n x c 0 refl (sym (value-cons n c [] x) ∙ e), tt)
coefficients n x c (d ∷ cs) e z =
    let rest : value n (d ∷ cs) x ≡ 0 = sym (value_reduced n 0 (d ∷ cs) x) ∙ z.0 in
    (front n x c (value n (d ∷ cs) x) rest (sym (value-cons n c (d ∷ cs) x) ∙ e), coefficients n x d cs rest z.1)

-- the other roots are roots of the quotient
passed_on : (n : ℕ) → Prime n → (x c : ℕ) (cs ys : List ℕ) → x < n → value n (c ∷ cs) x ≡ 0 → Elements n ys → Every (λ (y : ℕ). x ≡ y → ⊥) ys
    → Every (λ (y : ℕ). value n (c ∷ cs) y ≡ 0) ys → Every (λ (y : ℕ). value n (quotient n x cs) y ≡ 0) ys
passed_on n h x c cs [] hx e u ne r = tt
passed_on n h x c cs (y ∷ ys) hx e u ne r = (
  sym (value_reduced n 0 (quotient n x cs) y)
      ∙ other_root n h x y (value n (quotient n x cs) y) hx u.0 ne.0
      (ap (λ (z : ℕ). add n z (mul n x (value n (quotient n x cs) y))) (sym r.0)
      ∙ (divided n x c cs y ∙ ap (add n (mul n y (value n (quotient n x cs) y))) e)),
  passed_on n h x c cs ys hx e u.1 ne.1 r.1,
)

-- as many distinct roots as coefficients: every coefficient is 0
pub roots_zero : (n : ℕ) → Prime n → (xs cs : List ℕ) → Elements n xs → Distinct xs → Every (λ (x : ℕ). value n cs x ≡ 0) xs → length cs ≤ length xs
    → Every (λ (a : ℕ). a % n ≡ 0) cs
roots_zero n h [] [] u d r l = tt
roots_zero n h [] (c ∷ cs) u d r l = absurd (omega arith)
roots_zero n h (x ∷ xs) [] u d r l = tt
roots_zero n h (x ∷ xs) (c ∷ cs) u d r l =
    coefficients n x c cs r.0
    (roots_zero n h xs (quotient n x cs) u.1 d.1 (passed_on n h x c cs xs u.0 r.0 u.1 d.0 r.1) (omega (arith, length-quotient n x cs)))

-- the difference of two polynomials
abbrev minus : ℕ → List ℕ → List ℕ → List ℕ
minus n p q = plus n p (scale n (neg n 1) q)

minus-value : (n : ℕ) → 0 < n → (p q : List ℕ) (x : ℕ) → value n p x ≡ value n q x → value n (minus n p q) x ≡ 0
minus-value zero h p q x e = absurd (omega arith)
minus-value (suc m) h p q x e =
    value-plus (suc m) p (scale (suc m) (neg (suc m) 1) q) x
    ∙ (ap₂ (add (suc m)) e (value-scale (suc m) (neg (suc m) 1) q x)
    ∙ (same (suc m) (at (value (suc m) q x) ⊕ ⊖ at 1 ⊗ at (value (suc m) q x)) (at 0) 0 (value (suc m) q x) (omega arith) ∙ zero-mod (suc m)))

minus_values : (n : ℕ) → 0 < n → (p q xs : List ℕ) → Every (λ (x : ℕ). value n p x ≡ value n q x) xs → Every (λ (x : ℕ). value n (minus n p q) x ≡ 0) xs
minus_values n h p q [] r = tt
minus_values n h p q (x ∷ xs) r = (minus-value n h p q x r.0, minus_values n h p q xs r.1)

minus-length : (n : ℕ) (p q : List ℕ) → length p ≡ length q → length (minus n p q) ≡ length p
minus-length n p q e = omega (arith, length-plus n p (scale n (neg n 1) q), length-map q (mul n (neg n 1)))

minus-zero : (n : ℕ) → 0 < n → (p q : List ℕ) → length p ≡ length q → Elements n p → Elements n q → Every (λ (a : ℕ). a % n ≡ 0) (minus n p q) → p ≡ q
minus-zero n h [] [] e u v z = refl
minus-zero n h [] (b ∷ q) e u v z = absurd (omega arith)
minus-zero n h (a ∷ p) [] e u v z = absurd (omega arith)
minus-zero zero h (a ∷ p) (b ∷ q) e u v z = absurd (omega arith)
minus-zero (suc m) h (a ∷ p) (b ∷ q) e u v z =
    ap₂ {B = List ℕ} (λ (x : ℕ) (xs : List ℕ). x ∷ xs)
    (sub-zero (suc m) a b h u.0 v.0
    (same (suc m) (at a ⊕ ⊖ at b) (at a ⊕ ⊖ at 1 ⊗ at b) 0 0 (omega arith) ∙ (sym (mod-mod (a + mul (suc m) (neg (suc m) 1) b) (suc m)) ∙ z.0)))
    (minus-zero (suc m) h p q (omega arith) u.1 v.1 z.1)

-- as many distinct points of agreement as coefficients: the two are equal
pub agree_equal : (n : ℕ) → Prime n → (p q xs : List ℕ) → length p ≡ length q → Elements n p → Elements n q → Elements n xs → Distinct xs
    → Every (λ (x : ℕ). value n p x ≡ value n q x) xs → length p ≤ length xs → p ≡ q
agree_equal n h p q xs e u v w d r l =
    minus-zero n (omega (arith, h.above)) p q e u v
    (roots_zero n h xs (minus n p q) w d (minus_values n (omega (arith, h.above)) p q xs r) (omega (arith, minus-length n p q e)))

-- two different ones agree at fewer points than they have coefficients
pub agree_few : (n : ℕ) → Prime n → (p q xs : List ℕ) → length p ≡ length q → Elements n p → Elements n q → (p ≡ q → ⊥) → Elements n xs → Distinct xs
    → Every (λ (x : ℕ). value n p x ≡ value n q x) xs → length xs < length p
agree_few n h p q xs e u v ne w d r = lt_of_not-le (λ (l : length p ≤ length xs). ne (agree_equal n h p q xs e u v w d r l))
