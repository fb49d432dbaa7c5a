-- One law decides identities modulo n.
--   Term       an expression of numbers, sums, products and negatives
--   top        its value with the operations of specs/Modulo
--   exact      its value in the natural numbers, -a being (n - 1) · a
--   same       two terms whose exact values are equal up to multiples of n have the same value modulo n
-- Assumes nothing.
use mathlib.Core.Path.{◌≡◌, refl, sym, ap, ap₂, ◌∙◌}
use Prim.Native.Nat.{ℕ, zero, suc, pred, ◌+◌, ◌-◌, ◌*◌, ◌%◌, ◌/◌, ◌<◌}
use native.Mathlib.Nat.{mod-mod, add-mod, add-mul-mod_self_right, div-add-mod', mod-lt, zero-sub, zero-mul}
use native.Mathlib.Omega.{arith}
use Rattle.arithmetic.specs.Modulo.{add, mul, neg}

-- equal up to multiples of n: equal remainders
pub cong : (n a b k l : ℕ) → a + k * n ≡ b + l * n → a % n ≡ b % n
cong n a b k l e = sym (add-mul-mod_self_right a k n) ∙ (ap (λ (x : ℕ). x % n) e ∙ add-mul-mod_self_right b l n)

-- the remainder of a product is that of the remainders' product
pub mul-mod : (a b n : ℕ) → (a * b) % n ≡ (a % n * (b % n)) % n
mul-mod a b n =
    cong n (a * b) (a % n * (b % n)) 0 (a / n * (b / n) * n + a / n * (b % n) + a % n * (b / n))
    (go (a / n) (a % n) (b / n) (b % n) a b (sym (div-add-mod' a n)) (sym (div-add-mod' b n)))
  where
    go : (q r s t x y : ℕ) → x ≡ q * n + r → y ≡ s * n + t → x * y + 0 * n ≡ r * t + (q * s * n + q * t + r * s) * n
    go q r s t x y e f = ap (λ (z : ℕ). z * y + 0 * n) e ∙ (ap (λ (z : ℕ). (q * n + r) * z + 0 * n) f ∙ omega arith)

-- the negative is the product with n - 1
pub neg-product : (n a : ℕ) → neg n a ≡ (pred n * a) % n
neg-product zero a = ap (λ (x : ℕ). x % 0) (zero-sub (a % 0) ∙ sym (zero-mul a))
neg-product (suc m) a =
    cong (suc m) (suc m - a % suc m) (m * a) a (suc (a / suc m))
    (go (a / suc m) (a % suc m) (div-add-mod' a (suc m)) (mod-lt a (omega arith)))
  where
    go : (q r : ℕ) → q * suc m + r ≡ a → r < suc m → suc m - r + a * suc m ≡ m * a + suc q * suc m
    go q r e h = omega arith

pub data Term : Type 0 where
  at : ℕ → Term
  ◌⊕◌ ◌⊗◌ : Term → Term → Term
  ⊖◌ : Term → Term

infixl 60 ◌⊕◌
infixl 70 ◌⊗◌
infix 80 ⊖◌
abbrev pub meaning : ℕ → Term → ℕ
meaning n (at x) = x
meaning n (s ⊕ t) = add n (meaning n s) (meaning n t)
meaning n (s ⊗ t) = mul n (meaning n s) (meaning n t)
meaning n (⊖ t) = neg n (meaning n t)

abbrev pub top : ℕ → Term → ℕ
top n (at x) = x % n
top n (s ⊕ t) = add n (meaning n s) (meaning n t)
top n (s ⊗ t) = mul n (meaning n s) (meaning n t)
top n (⊖ t) = neg n (meaning n t)

abbrev pub exact : ℕ → Term → ℕ
exact m (at x) = x
exact m (s ⊕ t) = exact m s + exact m t
exact m (s ⊗ t) = exact m s * exact m t
exact m (⊖ t) = m * exact m t

top-meaning : (n : ℕ) (t : Term) → top n t ≡ meaning n t % n
top-meaning n (at x) = refl
top-meaning n (s ⊕ t) = sym (mod-mod (meaning n s + meaning n t) n)
top-meaning n (s ⊗ t) = sym (mod-mod (meaning n s * meaning n t) n)
top-meaning n (⊖ t) = sym (mod-mod (n - meaning n t % n) n)

meaning-exact : (n : ℕ) (t : Term) → meaning n t % n ≡ exact (pred n) t % n
meaning-exact n (at x) = refl
meaning-exact n (s ⊕ t) =
    mod-mod (meaning n s + meaning n t) n
    ∙ (add-mod (meaning n s) (meaning n t) n
    ∙ (ap₂ (λ (x y : ℕ). (x + y) % n) (meaning-exact n s) (meaning-exact n t)
    ∙ sym (add-mod (exact (pred n) s) (exact (pred n) t) n)))
meaning-exact n (s ⊗ t) =
    mod-mod (meaning n s * meaning n t) n
    ∙ (mul-mod (meaning n s) (meaning n t) n
    ∙ (ap₂ (λ (x y : ℕ). (x * y) % n) (meaning-exact n s) (meaning-exact n t)
    ∙ sym (mul-mod (exact (pred n) s) (exact (pred n) t) n)))
meaning-exact n (⊖ t) =
    ap (λ (x : ℕ). x % n) (neg-product n (meaning n t))
    ∙ (mod-mod (pred n * meaning n t) n
    ∙ (mul-mod (pred n) (meaning n t) n
    ∙ (ap (λ (x : ℕ). (pred n % n * x) % n) (meaning-exact n t)
    ∙ sym (mul-mod (pred n) (exact (pred n) t) n))))

pub same : (n : ℕ) (s t : Term) (k l : ℕ) → exact (pred n) s + k * n ≡ exact (pred n) t + l * n → top n s ≡ top n t
same n s t k l e =
    top-meaning n s
    ∙ (meaning-exact n s
    ∙ (cong n (exact (pred n) s) (exact (pred n) t) k l e
    ∙ sym (top-meaning n t ∙ meaning-exact n t)))
