-- Primes, and the inverse of an element. What the inverse is, as statements; their proofs are in proofs/Field.
--   TimesInverse   modulo a prime a number that is not 0 times its inverse is 1
--   OnlyInverse    an element that times a gives 1 is the inverse of a
--   NoInverse      where no element times a gives 1, the inverse is 0
use Rattle.std.specs.Prelude.{◌≡◌, true, false, ℕ, zero, suc, ◌%◌, ◌<◌, eqb}
use Rattle.arithmetic.specs.Modulo.{mul}

-- n is above 1, and no number between 1 and n divides it
pub record Prime (n : ℕ) : Type 0 where
  pub above : 1 < n
  pub undivided : (d : ℕ) → 1 < d → d < n → n % d ≡ 0 → ⊥

-- the first number from i on, among the next c, that times a gives 1 modulo n; 0 where there is none
unfoldable pub inverse_from : ℕ → ℕ → ℕ → ℕ → ℕ
inverse_from n a i zero = 0
inverse_from n a i (suc c) = elim (eqb (mul n a i) 1) [ true ↦ i | false ↦ inverse_from n a (suc i) c ]

-- the inverse of a modulo n: the element that times a gives 1, the first among all; 0 where there is none
unfoldable pub inverse : ℕ → ℕ → ℕ
inverse n a = inverse_from n a 0 n

unfoldable pub TimesInverse : Type 0
TimesInverse = (n : ℕ) → Prime n → (a : ℕ) → (a % n ≡ 0 → ⊥) → mul n a (inverse n a) ≡ 1

unfoldable pub OnlyInverse : Type 0
OnlyInverse = (n a b : ℕ) → b < n → mul n a b ≡ 1 → inverse n a ≡ b

unfoldable pub NoInverse : Type 0
NoInverse = (n a : ℕ) → ((b : ℕ) → b < n → mul n a b ≡ 1 → ⊥) → inverse n a ≡ 0
