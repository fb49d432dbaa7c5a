-- Numbers in decimal digits (document 01, "Proof file"): "A number is 1 to 10 decimal digits with no leading 0 unless it is 0 alone."
use Rattle.std.specs.Prelude.{Bool, true, false, ◌&&◌, not, List, [], ◌∷◌, ◌++◌, ℕ, zero, suc, ◌+◌, ◌-◌, ◌*◌, ◌/◌, ◌%◌, length, ltb, eqb}
use Rattle.layout.specs.Bytes.{is_digit, within}

-- a test that holds of each
abbrev pub all : {A : Type 0} → (A → Bool) → List A → Bool
all test [] = true
all test (a ∷ more) = test a && all test more

-- no leading 0 (48 in ASCII), unless it is 0 alone
abbrev pub plain : List ℕ → Bool
plain [] = true
plain (b ∷ []) = true
plain (b ∷ next ∷ more) = not (eqb b 48)

-- 1 to `most` decimal digits with no leading 0 unless it is 0 alone
abbrev pub is_number : ℕ → List ℕ → Bool
is_number most text = all is_digit text && (within 1 most (length text) && plain text)

-- the value of digits that follow digits of the value v
abbrev pub number_from : ℕ → List ℕ → ℕ
number_from v [] = v
number_from v (b ∷ more) = number_from (v * 10 + (b - 48)) more

-- the value of decimal digits
abbrev pub number_of : List ℕ → ℕ
number_of text = number_from 0 text

-- the last digits of n, as many as there are and at most `most`
unfoldable pub digits : ℕ → ℕ → List ℕ
digits zero n = []
digits (suc most) n = elim (ltb n 10) [ true ↦ (48 + n) ∷ [] | false ↦ digits most (n / 10) ++ (48 + n % 10) ∷ [] ]

-- n in decimal digits, with no leading 0 (n has at most n + 1 digits)
unfoldable pub decimal : ℕ → List ℕ
decimal n = digits (suc n) n
