-- Arithmetic modulo n (document 01, "The protocol": definitions take the modulus as a parameter).
-- An element is a number below n. Each operation answers an element for all numbers whatever, if n is not 0.
use Rattle.std.specs.Prelude.{ℕ, zero, suc, ◌+◌, ◌-◌, ◌*◌, ◌%◌}

-- a + b modulo n
abbrev pub add : ℕ → ℕ → ℕ → ℕ
add n a b = (a + b) % n

-- a · b modulo n
abbrev pub mul : ℕ → ℕ → ℕ → ℕ
mul n a b = (a * b) % n

-- -a modulo n
abbrev pub neg : ℕ → ℕ → ℕ
neg n a = (n - a % n) % n

-- a - b modulo n
abbrev pub sub : ℕ → ℕ → ℕ → ℕ
sub n a b = add n a (neg n b)

-- a to the power e modulo n; 0 to the power 0 is 1 (document 01, "When a call is turned down")
unfoldable pub pow : ℕ → ℕ → ℕ → ℕ
pow n a zero = 1 % n
pow n a (suc e) = mul n a (pow n a e)
