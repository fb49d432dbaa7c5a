-- The class of a byte and what it stands for: a byte of a class is one of its bytes, and the other way round. Assumes nothing.
use mathlib.Core.Path.{◌≡◌, refl, sym, subst}
use mathlib.Core.Bool.{Bool, true, false}
use Prim.Native.Nat.{ℕ, ◌≤◌, ◌<◌}
use native.Mathlib.Omega.{arith}
use lib.Dec.{eqb}
use borrow.Author.Tests.{ne_eqb, eqb-true, eqb-false}
use Rattle.layout.specs.Bytes.{Class, digit, comma, equals, line_end, letter, other, is_digit, is_letter, class_of}
use Rattle.layout.proofs.Tests.{between_in, between_high, between_holds}

pub class_digit : (b : ℕ) → 48 ≤ b → b < 58 → class_of b ≡ digit
unfolding class_of
class_digit b l h = rw (between_in 48 57 b l (omega arith))

pub class_comma : (b : ℕ) → b ≡ 44 → class_of b ≡ comma
unfolding class_of
class_comma b e = rw e

pub class_equals : (b : ℕ) → b ≡ 61 → class_of b ≡ equals
unfolding class_of
class_equals b e = rw e

pub class_line_end : (b : ℕ) → b ≡ 10 → class_of b ≡ line_end
unfolding class_of
class_line_end b e = rw e

pub class_letter : (b : ℕ) → 97 ≤ b → b < 123 → class_of b ≡ letter
unfolding class_of
class_letter b l h =
    rw (
      between_high 48 57 b (omega arith),
      ne_eqb b 44 (λ e. omega arith),
      ne_eqb b 61 (λ e. omega arith),
      ne_eqb b 10 (λ e. omega arith),
      between_in 97 122 b l (omega arith),
    )

-- no byte of a class with one byte, no digit, no letter
pub class_other : (b : ℕ) → (b ≡ 44 → ⊥) → (b ≡ 61 → ⊥) → (b ≡ 10 → ⊥) → is_digit b ≡ false → is_letter b ≡ false → class_of b ≡ other
unfolding class_of
class_other b c q l d t = rw (d, ne_eqb b 44 c, ne_eqb b 61 q, ne_eqb b 10 l, t)

-- what is known of a byte by its class
abbrev pub Means : Class → ℕ → Type 0
Means digit b = (48 ≤ b) × (b ≤ 57)
Means comma b = b ≡ 44
Means equals b = b ≡ 61
Means line_end b = b ≡ 10
Means letter b = (97 ≤ b) × (b ≤ 122)
Means other b = (is_digit b ≡ false) × (b ≡ 44 → ⊥) × (b ≡ 61 → ⊥) × (b ≡ 10 → ⊥)

pub means : (b : ℕ) → Means (class_of b) b
means b = digits (is_digit b) refl
  where
    letters : (t : Bool) → is_letter b ≡ t → is_digit b ≡ false → (b ≡ 44 → ⊥) → (b ≡ 61 → ⊥) → (b ≡ 10 → ⊥) → Means (class_of b) b
    letters true e d c q l =
        let h = between_holds 97 122 b e in
        subst (λ (k : Class). Means k b) (sym (class_letter b h.0 (omega arith))) h
    letters false e d c q l = subst (λ (k : Class). Means k b) (sym (class_other b c q l d e)) (d, c, q, l)

    line_ends : (t : Bool) → eqb b 10 ≡ t → is_digit b ≡ false → (b ≡ 44 → ⊥) → (b ≡ 61 → ⊥) → Means (class_of b) b
    line_ends true e d c q = let h = eqb-true b 10 e in subst (λ (k : Class). Means k b) (sym (class_line_end b h)) h
    line_ends false e d c q = letters (is_letter b) refl d c q (eqb-false b 10 e)

    signs : (t : Bool) → eqb b 61 ≡ t → is_digit b ≡ false → (b ≡ 44 → ⊥) → Means (class_of b) b
    signs true e d c = let h = eqb-true b 61 e in subst (λ (k : Class). Means k b) (sym (class_equals b h)) h
    signs false e d c = line_ends (eqb b 10) refl d c (eqb-false b 61 e)

    commas : (t : Bool) → eqb b 44 ≡ t → is_digit b ≡ false → Means (class_of b) b
    commas true e d = let h = eqb-true b 44 e in subst (λ (k : Class). Means k b) (sym (class_comma b h)) h
    commas false e d = signs (eqb b 61) refl d (eqb-false b 44 e)

    digits : (t : Bool) → is_digit b ≡ t → Means (class_of b) b
    digits true e =
        let h = between_holds 48 57 b e in
        subst (λ (k : Class). Means k b) (sym (class_digit b h.0 (omega arith))) h
    digits false e = commas (eqb b 44) refl e
