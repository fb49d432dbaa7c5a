-- Modulo a prime every element but 0 has an inverse, and one only; a product is 0 only where a factor is (Euclid's lemma).
-- The inverse of a is found from that of n % a, which is smaller: with n = q·a + r, a · (-q · c) = r · c modulo n. Assumes nothing.
use mathlib.Core.Path.{◌≡◌, refl, sym, ap, ◌∙◌}
use mathlib.Core.Bool.{Bool, true, false}
use Prim.Native.Nat.{ℕ, zero, suc, ◌+◌, ◌*◌, ◌%◌, ◌/◌, ◌≤◌, ◌<◌}
use native.Mathlib.Nat.{mod-lt, mod-eq_of_lt, div-add-mod'}
use native.Mathlib.Omega.{arith}
use lib.Dec.{eqb}
use borrow.Author.Tests.{eqb-true, eqb-false}
use Rattle.arithmetic.specs.Modulo.{mul, neg}
use Rattle.arithmetic.specs.Prime.{Prime, inverse, inverse_from, TimesInverse, OnlyInverse, NoInverse}
use Rattle.arithmetic.proofs.Ring.{at, ◌⊗◌, ⊖◌, same}
use Rattle.arithmetic.proofs.Modulo.{mul_one_mod, mul-zero-mod, mul_mod_left, mul_mod_right}

step : (m a q r c : ℕ) → q * a + r ≡ suc m → mul (suc m) r c ≡ 1 → mul (suc m) a (neg (suc m) (mul (suc m) q c)) ≡ 1
step m a q r c e ih =
    same (suc m) (at a ⊗ ⊖ (at q ⊗ at c)) (at r ⊗ at c) (r * c) (m * c) (omega (arith, ap (λ (x : ℕ). x * (m * c)) e)) ∙ ih

-- an inverse of each element but 0, by fuel
within : (n : ℕ) → Prime n → (fuel a : ℕ) → a ≤ fuel → 0 < a → a < n → (b : ℕ) × (mul n a b ≡ 1)
within zero h fuel a f z s = absurd (omega arith)
within (suc m) h zero a f z s = absurd (omega arith)
within (suc m) h (suc fuel) a f z s = go (eqb a 1) refl (within (suc m) h fuel)
  where
    go : (t : Bool) → eqb a 1 ≡ t → ((c : ℕ) → c ≤ fuel → 0 < c → c < suc m → (b : ℕ) × (mul (suc m) c b ≡ 1)) → (b : ℕ) × (mul (suc m) a b ≡ 1)
    go true e ih = (1, mul_one_mod (suc m) a ∙ (mod-eq_of_lt s ∙ eqb-true a 1 e))
    go false e ih =
        let less : suc m % a < a = mod-lt (suc m) z in
        let ne : a ≡ 1 → ⊥ = eqb-false a 1 e in
        let some : suc m % a ≡ 0 → ⊥ = h.undivided a (omega arith) s in
        let r : (b : ℕ) × (mul (suc m) (suc m % a) b ≡ 1) = ih (suc m % a) (omega arith) (omega arith) (omega arith) in
        (neg (suc m) (mul (suc m) (suc m / a) r.0), step m a (suc m / a) (suc m % a) r.0 (div-add-mod' (suc m) a) r.1)

-- every number that n does not divide has an inverse
pub inverse_exists : (n : ℕ) → Prime n → (a : ℕ) → (a % n ≡ 0 → ⊥) → (b : ℕ) × (mul n a b ≡ 1)
inverse_exists n h a z =
    let r : (b : ℕ) × (mul n (a % n) b ≡ 1) = within n h (a % n) (a % n) (omega arith) (omega arith) (mod-lt a (omega (arith, h.above))) in
    (r.0, sym (mul_mod_left n a r.0) ∙ r.1)

-- two elements that times a give 1 are one element
pub inverse_unique : (n a b c : ℕ) → b < n → c < n → mul n a b ≡ 1 → mul n a c ≡ 1 → b ≡ c
inverse_unique n a b c hb hc eb ec =
    sym (mod-eq_of_lt hb)
    ∙ (sym (mul_one_mod n b)
    ∙ (ap (mul n b) (sym ec)
    ∙ (same n (at b ⊗ (at a ⊗ at c)) (at c ⊗ (at a ⊗ at b)) 0 0 (omega arith)
    ∙ (ap (mul n c) eb ∙ (mul_one_mod n c ∙ mod-eq_of_lt hc)))))

-- the search of specs/Prime passes by what is no inverse, and stops at the inverse
found : (n a b i c : ℕ) → b < n → mul n a b ≡ 1 → i ≤ b → b < i + c → inverse_from n a i c ≡ b
unfolding inverse_from
found n a b i zero hb e l u = absurd (omega arith)
found n a b i (suc c) hb e l u = go (eqb (mul n a i) 1) refl (found n a b (suc i) c hb e)
  where
    go : (t : Bool) → eqb (mul n a i) 1 ≡ t → (suc i ≤ b → b < suc i + c → inverse_from n a (suc i) c ≡ b)
        → elim t as (λ _. ℕ) [ true ↦ i | false ↦ inverse_from n a (suc i) c ] ≡ b
    go true t ih = inverse_unique n a i b (omega arith) hb (eqb-true (mul n a i) 1 t) e
    go false t ih =
        let other : i ≡ b → ⊥ = λ (s : i ≡ b). eqb-false (mul n a i) 1 t (ap (mul n a) s ∙ e) in
        ih (omega arith) (omega arith)

-- an element that times a gives 1 is the inverse of a
pub inverse_is : (n a b : ℕ) → b < n → mul n a b ≡ 1 → inverse n a ≡ b
unfolding inverse
inverse_is n a b hb e = found n a b 0 n hb e (omega arith) (omega arith)

-- a times its inverse is 1, and the inverse is an element
pub inverse-product : (n : ℕ) → Prime n → (a : ℕ) → (a % n ≡ 0 → ⊥) → mul n a (inverse n a) ≡ 1
inverse-product n h a z =
    let r : (b : ℕ) × (mul n a b ≡ 1) = inverse_exists n h a z in
    let e : mul n a (r.0 % n) ≡ 1 = mul_mod_right n a r.0 ∙ r.1 in
    ap (mul n a) (inverse_is n a (r.0 % n) (mod-lt r.0 (omega (arith, h.above))) e) ∙ e

-- where the search finds nothing it ends with 0
none : (n a i c : ℕ) → i + c ≤ n → ((b : ℕ) → b < n → mul n a b ≡ 1 → ⊥) → inverse_from n a i c ≡ 0
unfolding inverse_from
none n a i zero l never = refl
none n a i (suc c) l never = go (eqb (mul n a i) 1) refl (none n a (suc i) c (omega arith) never)
  where
    go : (t : Bool) → eqb (mul n a i) 1 ≡ t → inverse_from n a (suc i) c ≡ 0
        → ◌≡◌ {A = ℕ} (elim t as (λ _. ℕ) [ true ↦ i | false ↦ inverse_from n a (suc i) c ]) 0
    go true t ih = absurd (never i (omega arith) (eqb-true (mul n a i) 1 t))
    go false t ih = ih

pub times-inverse : TimesInverse
unfolding TimesInverse
times-inverse = inverse-product

pub only-inverse : OnlyInverse
unfolding OnlyInverse
only-inverse = inverse_is

pub no_inverse : NoInverse
unfolding NoInverse inverse
no_inverse n a never = none n a 0 n (omega arith) never

-- Euclid's lemma: a product is 0 only where a factor is
pub product-zero : (n : ℕ) → Prime n → (a b : ℕ) → mul n a b ≡ 0 → (a % n ≡ 0 → ⊥) → b % n ≡ 0
product-zero n h a b e z =
    let r : (c : ℕ) × (mul n a c ≡ 1) = inverse_exists n h a z in
    sym (mul_one_mod n b)
    ∙ (ap (mul n b) (sym r.1)
    ∙ (same n (at b ⊗ (at a ⊗ at r.0)) (at r.0 ⊗ (at a ⊗ at b)) 0 0 (omega arith)
    ∙ (ap (mul n r.0) e ∙ mul-zero-mod n r.0)))
