-- The extension of a table (document 002, "Lagrange Interpolation of multilinear polynomials"; document 01, "Terms").
use Rattle.std.specs.Prelude.{List, [], ◌∷◌, map, ℕ, ◌%◌, length, get_or}
use Rattle.arithmetic.specs.Modulo.{add, mul, sub}
use Rattle.polynomial.specs.Elements.{sum}
use Rattle.sumcheck.specs.Corners.{corners, index}

-- ri·bi + (1-ri)(1-bi)
abbrev pub factor : ℕ → ℕ → ℕ → ℕ
factor n r b = add n (mul n r b) (mul n (sub n 1 r) (sub n 1 b))

-- the product over i of ri·bi + (1-ri)(1-bi); r and b have one length wherever it is used
abbrev pub weight : ℕ → List ℕ → List ℕ → ℕ
weight n [] b = 1 % n
weight n (r ∷ rs) [] = 1 % n
weight n (r ∷ rs) (b ∷ bs) = mul n (factor n r b) (weight n rs bs)

-- the extension of a table at r1..rm: the sum over all corners b of value(b) times the weight of b
abbrev pub extension : ℕ → List ℕ → List ℕ → ℕ
extension n table r = sum n (map (λ (b : List ℕ). mul n (get_or table (index b) 0) (weight n r b)) (corners (length r)))
