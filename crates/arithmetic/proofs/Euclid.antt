-- Euclid's algorithm for the inverse of a modulo a prime n: two remainders and for each the multiple of a that it is, modulo n. A step takes the
-- remainder of the first by the second. No step meets 0, since what divides both remainders divides n. Assumes nothing.
use mathlib.Core.Path.{◌≡◌, sym, ap₂, ◌∙◌}
use Prim.Native.Nat.{ℕ, zero, suc, ◌+◌, ◌*◌, ◌/◌, ◌%◌, ◌<◌}
use native.Mathlib.Nat.{mod-lt, mod_self, mod-eq_of_lt, div-add-mod', dvd-mod_iff, dvd_of_mod-eq-zero, mod-eq-zero_of_dvd}
use native.Mathlib.Omega.{arith}
use Rattle.arithmetic.specs.Modulo.{add, mul, neg, sub}
use Rattle.arithmetic.specs.Prime.{Prime, inverse}
use Rattle.arithmetic.proofs.Ring.{at, ◌⊕◌, ◌⊗◌, ⊖◌, same}
use Rattle.arithmetic.proofs.Modulo.{mul-zero-mod, mul_one_mod, add-zero-mod}
use Rattle.arithmetic.proofs.Field.{inverse_is}

pub record Euclid (n a r₀ r₁ s₀ s₁ : ℕ) : Type 0 where
  pub some : 0 < r₁
  pub small : r₁ < n
  pub element : s₁ < n
  pub first : mul n a s₀ ≡ r₀ % n
  pub second : mul n a s₁ ≡ r₁ % n
  pub divides : (d : ℕ) → r₀ % d ≡ 0 → r₁ % d ≡ 0 → n % d ≡ 0

pub euclid_start : (n a : ℕ) → 1 < n → 0 < a → a < n → Euclid n a n a 0 1
euclid_start n a h l u =
    record {
      some = l;
      small = u;
      element = h;
      first = mul-zero-mod n a ∙ sym (mod_self n);
      second = mul_one_mod n a;
      divides = λ (d : ℕ) (x : n % d ≡ 0) (y : a % d ≡ 0). x;
    }

-- the remainder as a multiple of a
remainder : (m a r₀ r₁ s₀ s₁ : ℕ) → mul (suc m) a s₀ ≡ r₀ % suc m → mul (suc m) a s₁ ≡ r₁ % suc m
    → mul (suc m) a (sub (suc m) s₀ (mul (suc m) (r₀ / r₁) s₁)) ≡ (r₀ % r₁) % suc m
remainder m a r₀ r₁ s₀ s₁ e f =
    same (suc m) (at a ⊗ (at s₀ ⊕ ⊖ (at q ⊗ at s₁))) (at a ⊗ at s₀ ⊕ ⊖ (at q ⊗ (at a ⊗ at s₁))) 0 0 (omega arith)
    ∙ (ap₂ (λ (x y : ℕ). add (suc m) x (neg (suc m) (mul (suc m) q y))) (e ∙ sym (add-zero-mod (suc m) r₀)) (f ∙ sym (add-zero-mod (suc m) r₁))
    ∙ same (suc m) (at r₀ ⊕ at 0 ⊕ ⊖ (at q ⊗ (at r₁ ⊕ at 0))) (at (r₀ % r₁)) 0 (q * r₁) (omega (arith, div-add-mod' r₀ r₁)))
  where
    q : ℕ
    q = r₀ / r₁

pub euclid_step : (n a r₀ r₁ s₀ s₁ : ℕ) → Prime n → Euclid n a r₀ r₁ s₀ s₁ → (r₁ ≡ 1 → ⊥) → Euclid n a r₁ (r₀ % r₁) s₁ (sub n s₀ (mul n (r₀ / r₁) s₁))
euclid_step zero a r₀ r₁ s₀ s₁ h k ne = absurd (omega (arith, k.small))
euclid_step (suc m) a r₀ r₁ s₀ s₁ h k ne =
    record {
      some = omega (arith, met);
      small = omega (arith, mod-lt r₀ k.some, k.small);
      element = mod-lt (s₀ + neg (suc m) (mul (suc m) (r₀ / r₁) s₁)) (omega arith);
      first = k.second;
      second = remainder m a r₀ r₁ s₀ s₁ k.first k.second;
      divides = λ (d : ℕ) (x : r₁ % d ≡ 0) (y : (r₀ % r₁) % d ≡ 0). k.divides d
          (mod-eq-zero_of_dvd d ((dvd-mod_iff d (dvd_of_mod-eq-zero d x)).0 (dvd_of_mod-eq-zero d y))) x;
    }
  where
    met : r₀ % r₁ ≡ 0 → ⊥
    met z = h.undivided r₁ (omega (arith, k.some)) k.small (k.divides r₁ z (mod_self r₁))

pub euclid_end : (n a r₀ s₀ s₁ : ℕ) → 1 < n → Euclid n a r₀ 1 s₀ s₁ → inverse n a ≡ s₁
euclid_end n a r₀ s₀ s₁ h k = inverse_is n a s₁ k.element (k.second ∙ mod-eq_of_lt h)
