-- The laws of a commutative ring for the operations of specs/Modulo, each an instance of proofs/Ring's one law; the laws of powers;
-- and that answers are elements. Assumes nothing.
use mathlib.Core.Path.{◌≡◌, sym, ap, ◌∙◌}
use Prim.Native.Nat.{ℕ, zero, suc, ◌+◌, ◌-◌, ◌*◌, ◌%◌, ◌<◌}
use native.Mathlib.Nat.{mod-lt, zero-mod}
use native.Mathlib.Omega.{arith}
use Rattle.arithmetic.specs.Modulo.{add, mul, neg, sub}
use Rattle.arithmetic.proofs.Ring.{at, ◌⊕◌, ◌⊗◌, ⊖◌, same}

pub add-below : (n a b : ℕ) → 0 < n → add n a b < n
add-below n a b h = mod-lt (a + b) h

pub mul-below : (n a b : ℕ) → 0 < n → mul n a b < n
mul-below n a b h = mod-lt (a * b) h

pub neg-below : (n a : ℕ) → 0 < n → neg n a < n
neg-below n a h = mod-lt (n - a % n) h

pub add_comm : (n a b : ℕ) → add n a b ≡ add n b a
add_comm n a b = same n (at a ⊕ at b) (at b ⊕ at a) 0 0 (omega arith)

pub add_assoc : (n a b c : ℕ) → add n (add n a b) c ≡ add n a (add n b c)
add_assoc n a b c = same n (at a ⊕ at b ⊕ at c) (at a ⊕ (at b ⊕ at c)) 0 0 (omega arith)

pub add-zero-mod : (n a : ℕ) → add n a 0 ≡ a % n
add-zero-mod n a = same n (at a ⊕ at 0) (at a) 0 0 (omega arith)

pub zero-add-mod : (n a : ℕ) → add n 0 a ≡ a % n
zero-add-mod n a = same n (at 0 ⊕ at a) (at a) 0 0 (omega arith)

pub add-neg : (n a : ℕ) → 0 < n → add n a (neg n a) ≡ 0
add-neg zero a h = absurd (omega arith)
add-neg (suc m) a h = same (suc m) (at a ⊕ ⊖ at a) (at 0) 0 a (omega arith) ∙ zero-mod (suc m)

pub mul_comm : (n a b : ℕ) → mul n a b ≡ mul n b a
mul_comm n a b = same n (at a ⊗ at b) (at b ⊗ at a) 0 0 (omega arith)

pub mul_assoc : (n a b c : ℕ) → mul n (mul n a b) c ≡ mul n a (mul n b c)
mul_assoc n a b c = same n (at a ⊗ at b ⊗ at c) (at a ⊗ (at b ⊗ at c)) 0 0 (omega arith)

pub mul_one_mod : (n a : ℕ) → mul n a 1 ≡ a % n
mul_one_mod n a = same n (at a ⊗ at 1) (at a) 0 0 (omega arith)

pub mul-zero-mod : (n a : ℕ) → mul n a 0 ≡ 0
mul-zero-mod n a = same n (at a ⊗ at 0) (at 0) 0 0 (omega arith) ∙ zero-mod n

pub mul-add : (n a b c : ℕ) → mul n a (add n b c) ≡ add n (mul n a b) (mul n a c)
mul-add n a b c = same n (at a ⊗ (at b ⊕ at c)) (at a ⊗ at b ⊕ at a ⊗ at c) 0 0 (omega arith)

-- the difference is what, added to b, gives a
pub sub-add : (n a b : ℕ) → 0 < n → add n (sub n a b) b ≡ a % n
sub-add zero a b h = absurd (omega arith)
sub-add (suc m) a b h = same (suc m) (at a ⊕ ⊖ at b ⊕ at b) (at a) 0 b (omega arith)

-- an operand may be reduced first
pub mul_mod_right : (n a b : ℕ) → mul n a (b % n) ≡ mul n a b
mul_mod_right n a b =
    ap (mul n a) (sym (add-zero-mod n b)) ∙ same n (at a ⊗ (at b ⊕ at 0)) (at a ⊗ at b) 0 0 (omega arith)

pub mul_mod_left : (n a b : ℕ) → mul n (a % n) b ≡ mul n a b
mul_mod_left n a b = mul_comm n (a % n) b ∙ (mul_mod_right n b a ∙ mul_comm n b a)
