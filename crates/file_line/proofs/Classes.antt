-- The class of a byte, by the tests that the code makes: on one byte, or on the bytes from one to another. A byte that no arm of the match
-- takes is of the last class: it stands below the digits, between them and the letters, or above the letters. Assumes nothing.
use mathlib.Core.Path.{◌≡◌}
use Prim.Native.Nat.{ℕ, ◌≤◌, ◌<◌}
use native.Mathlib.Omega.{arith}
use Rattle.layout.specs.Bytes.{other, class_of}
use Rattle.layout.proofs.Tests.{between_low, between_high}
use Rattle.layout.proofs.Classes.{class_digit, class_comma, class_equals, class_line_end, class_letter, class_other}

pub other_low : (b : ℕ) → (b ≡ 44 → ⊥) → (b ≡ 10 → ⊥) → b < 48 → class_of b ≡ other
other_low b c l h = class_other b c (λ e. omega arith) l (between_low 48 57 b h) (between_low 97 122 b (omega arith))

pub other_middle : (b : ℕ) → (b ≡ 61 → ⊥) → 58 ≤ b → b < 97 → class_of b ≡ other
other_middle b q h l = class_other b (λ e. omega arith) q (λ e. omega arith) (between_high 48 57 b (omega arith)) (between_low 97 122 b l)

pub other_high : (b : ℕ) → 123 ≤ b → class_of b ≡ other
other_high b h =
    class_other b (λ e. omega arith) (λ e. omega arith) (λ e. omega arith) (between_high 48 57 b (omega arith)) (between_high 97 122 b (omega arith))

pub ruleset class_by_tests = (class_digit, class_comma, class_equals, class_line_end, class_letter, other_low, other_middle, other_high)
