-- A polynomial is a list of coefficients, lowest power first; high ones may be 0 (document 01, "Terms"). Its value at x is the sum of
-- coefficient times power of x.
use Rattle.std.specs.Prelude.{List, [], ◌∷◌, map, ℕ, suc, ◌%◌}
use Rattle.arithmetic.specs.Modulo.{add, mul, pow}

-- the sum of c·x^i, c·x^(i+1), .. for the coefficients from the power i on
abbrev pub value_from : ℕ → ℕ → List ℕ → ℕ → ℕ
value_from n i [] x = 0
value_from n i (c ∷ cs) x = add n (mul n c (pow n x i)) (value_from n (suc i) cs x)

-- the value of a polynomial at x
abbrev pub value : ℕ → List ℕ → ℕ → ℕ
value n cs x = value_from n 0 cs x

-- the sum of two polynomials, power by power
abbrev pub plus : ℕ → List ℕ → List ℕ → List ℕ
plus n [] q = q
plus n (a ∷ s) [] = a ∷ s
plus n (a ∷ s) (b ∷ q) = add n a b ∷ plus n s q

-- a polynomial times a number
abbrev pub scale : ℕ → ℕ → List ℕ → List ℕ
scale n a q = map (mul n a) q

-- the product of two polynomials: (a + X·s)·q = a·q + X·(s·q)
abbrev pub times : ℕ → List ℕ → List ℕ → List ℕ
times n [] q = []
times n (a ∷ s) q = plus n (scale n a q) (0 ∷ times n s q)

-- the sum of polynomials
abbrev pub plus_all : ℕ → List (List ℕ) → List ℕ
plus_all n [] = []
plus_all n (s ∷ ss) = plus n s (plus_all n ss)

-- the product of polynomials
abbrev pub times_all : ℕ → List (List ℕ) → List ℕ
times_all n [] = 1 % n ∷ []
times_all n (s ∷ ss) = times n s (times_all n ss)
