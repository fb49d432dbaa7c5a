-- The laws of powers modulo n, and the power by squaring: what is done times base^left stays the same where a digit of the exponent is taken.
-- Assumes nothing.
use mathlib.Core.Path.{◌≡◌, refl, sym, ap, ◌∙◌}
use Prim.Native.Nat.{ℕ, zero, suc, ◌+◌, ◌*◌, ◌/◌, ◌%◌, ◌<◌}
use native.Mathlib.Nat.{mod-mod, mod-lt, suc-add, zero-add}
use native.Mathlib.Omega.{arith}
use Rattle.arithmetic.specs.Modulo.{mul, pow}
use Rattle.arithmetic.proofs.Ring.{at, ◌⊕◌, ◌⊗◌, same}
use Rattle.arithmetic.proofs.Modulo.{add-zero-mod, mul-below}

pub pow_below : (n a e : ℕ) → 0 < n → pow n a e < n
unfolding pow
pow_below n a zero h = mod-lt 1 h
pow_below n a (suc e) h = mul-below n a (pow n a e) h

-- a power is its own remainder
pow_reduced : (n a e : ℕ) → pow n a e % n ≡ pow n a e
unfolding pow
pow_reduced n a zero = mod-mod 1 n
pow_reduced n a (suc e) = mod-mod (a * pow n a e) n

pub pow-add : (n a d e : ℕ) → pow n a (d + e) ≡ mul n (pow n a d) (pow n a e)
unfolding pow
pow-add n a zero e =
    ap (pow n a) (zero-add e) ∙ (sym (pow_reduced n a e) ∙ same n (at (pow n a e)) ((at 1 ⊕ at 0) ⊗ at (pow n a e)) 0 0 (omega arith)
    ∙ ap (λ (x : ℕ). mul n x (pow n a e)) (add-zero-mod n 1))
pow-add n a (suc d) e =
    ap (pow n a) (suc-add d e)
    ∙ (ap (mul n a) (pow-add n a d e)
    ∙ same n (at a ⊗ (at (pow n a d) ⊗ at (pow n a e))) (at a ⊗ at (pow n a d) ⊗ at (pow n a e)) 0 0 (omega arith))

suc-suc : (e : ℕ) → suc (suc (e + e)) ≡ suc e + suc e
suc-suc e = omega arith

-- a power of a square is a power with the exponent doubled
pub pow_square : (n a e : ℕ) → pow n (mul n a a) e ≡ pow n a (e + e)
unfolding pow
pow_square n a zero = refl
pow_square n a (suc e) =
    ap (mul n (mul n a a)) (pow_square n a e)
    ∙ (same n (at a ⊗ at a ⊗ at (pow n a (e + e))) (at a ⊗ (at a ⊗ at (pow n a (e + e)))) 0 0 (omega arith)
    ∙ ap (pow n a) (suc-suc e))

-- at the start, with 1 done
pub power_start : (n a e : ℕ) → mul n 1 (pow n a e) ≡ pow n a e
power_start n a e = same n (at 1 ⊗ at (pow n a e)) (at (pow n a e)) 0 0 (omega arith) ∙ pow_reduced n a e

-- a digit 0 of the exponent
pub power_even : (n d b e : ℕ) → (e % 2 ≡ 1 → ⊥) → mul n d (pow n (mul n b b) (e / 2)) ≡ mul n d (pow n b e)
power_even n d b e h = ap (mul n d) (pow_square n b (e / 2) ∙ ap (pow n b) (halves e h))
  where
    halves : (e : ℕ) → (e % 2 ≡ 1 → ⊥) → e / 2 + e / 2 ≡ e
    halves e h = omega arith

-- a digit 1 of the exponent
pub power_odd : (n d b e : ℕ) → e % 2 ≡ 1 → mul n (mul n d b) (pow n (mul n b b) (e / 2)) ≡ mul n d (pow n b e)
unfolding pow
power_odd n d b e h =
    ap (mul n (mul n d b)) (pow_square n b (e / 2))
    ∙ (same n (at d ⊗ at b ⊗ at (pow n b (e / 2 + e / 2))) (at d ⊗ (at b ⊗ at (pow n b (e / 2 + e / 2)))) 0 0 (omega arith)
    ∙ ap (λ (x : ℕ). mul n d (pow n b x)) (halves e h))
  where
    halves : (e : ℕ) → e % 2 ≡ 1 → suc (e / 2 + e / 2) ≡ e
    halves e h = omega arith

-- at the end, with nothing left
pub power_end : (n d b : ℕ) → mul n d (pow n b 0) ≡ d % n
unfolding pow
power_end n d b = ap (mul n d) (sym (add-zero-mod n 1)) ∙ same n (at d ⊗ (at 1 ⊕ at 0)) (at d) 0 0 (omega arith)
