-- A polynomial in an array of so many places: its coefficients, and zeros on top; and its product with a line.
use Rattle.std.specs.Prelude.{List, [], ◌∷◌, ◌++◌, ℕ, ◌-◌, length, take, replicate}
use Rattle.arithmetic.specs.Modulo.{add, mul}

abbrev pub padded : ℕ → List ℕ → List ℕ
padded places cs = take places cs ++ replicate (places - length cs) 0

-- the line a + d·X times a polynomial, cut off at the polynomial's length; before is the coefficient in front of the first
abbrev pub line_times : ℕ → ℕ → ℕ → ℕ → List ℕ → List ℕ
line_times n a d before [] = []
line_times n a d before (c ∷ cs) = add n (mul n a c) (mul n d before) ∷ line_times n a d c cs
