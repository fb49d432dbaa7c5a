-- Trial division: a number that no number from 2 up to its root divides is prime. Where d divides n, so does n / d, and the smaller of the
-- two is at most the root. Assumes nothing.
use mathlib.Core.Path.{◌≡◌, refl, sym, ap, ◌∙◌}
use mathlib.Core.Bool.{Bool, true, false}
use Prim.Native.Nat.{ℕ, zero, suc, ◌+◌, ◌*◌, ◌%◌, ◌/◌, ◌≤◌, ◌<◌}
use native.Mathlib.Nat.{div-add-mod', mul-le-mul, mul-mod_right, lt_of_not-le, not-le_of_lt}
use native.Mathlib.Omega.{arith}
use lib.Dec.{T, eqb, ltb}
use borrow.Author.Tests.{eqb-false, ltb-true, ltb-false}
use Rattle.arithmetic.specs.Prime.{Prime}

-- none of the c numbers from d on divides n
unfoldable pub undivided_from : ℕ → ℕ → ℕ → Bool
undivided_from n d zero = true
undivided_from n d (suc c) = elim (eqb (n % d) 0) [ true ↦ false | false ↦ undivided_from n (suc d) c ]

passed : (n d c e : ℕ) → T (undivided_from n d c) → d ≤ e → e < d + c → n % e ≡ 0 → ⊥
unfolding undivided_from
passed n d zero e t l u z = absurd (omega arith)
passed n d (suc c) e t l u z =
    go (eqb (n % d) 0) refl t (λ (s : T (undivided_from n (suc d) c)) (l' : suc d ≤ e) (u' : e < suc d + c). passed n (suc d) c e s l' u' z)
  where
    go : (b : Bool) → eqb (n % d) 0 ≡ b → T (elim b as (λ _. Bool) [ true ↦ false | false ↦ undivided_from n (suc d) c ])
        → (T (undivided_from n (suc d) c) → suc d ≤ e → e < suc d + c → ⊥) → ⊥
    go true b s ih = absurd s
    go false b s ih =
        let other : d ≡ e → ⊥ = λ (w : d ≡ e). eqb-false (n % d) 0 b (ap (λ (x : ℕ). n % x) w ∙ z) in
        ih s (omega arith) (omega arith)

-- a divisor past the root has a partner below it
partner : (n s d : ℕ) → n < (2 + s) * (2 + s) → T (undivided_from n 2 s) → 1 < d → d < n → n % d ≡ 0 → 2 + s ≤ d → ⊥
partner n s d r t l u z past = passed n 2 s (n / d) t above below (ap (λ (x : ℕ). x % (n / d)) (sym whole) ∙ mul-mod_right (n / d) d)
  where
    whole : n / d * d ≡ n
    whole = omega (arith, div-add-mod' n d)

    above : 2 ≤ n / d
    above = go (n / d) whole
      where
        go : (q : ℕ) → q * d ≡ n → 2 ≤ q
        go zero e = absurd (omega arith)
        go (suc zero) e = absurd (omega arith)
        go (suc (suc q)) e = omega arith

    below : n / d < 2 + s
    below = lt_of_not-le (λ (w : 2 + s ≤ n / d). not-le_of_lt r (omega (arith, whole, mul-le-mul {n₁ = 2 + s} {m₁ = 2 + s} {n₂ = n / d} {m₂ = d} w past)))

pub prime_by_trial : (n s : ℕ) → 1 < n → n < (2 + s) * (2 + s) → T (undivided_from n 2 s) → Prime n
prime_by_trial n s h r t = record { above = h; undivided = none }
  where
    none : (d : ℕ) → 1 < d → d < n → n % d ≡ 0 → ⊥
    none d l u z = go (ltb d (2 + s)) refl
      where
        go : (b : Bool) → ltb d (2 + s) ≡ b → ⊥
        go true b = passed n 2 s d t (omega arith) (ltb-true d (2 + s) b) z
        go false b = partner n s d r t l u z (ltb-false d (2 + s) b)
