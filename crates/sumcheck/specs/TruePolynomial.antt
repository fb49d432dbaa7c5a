-- The true polynomials (document 01, "Terms"; document 003, "Sumcheck protocol").
use Rattle.std.specs.Prelude.{List, [], ◌∷◌, ◌++◌, map, ℕ, length}
use Rattle.arithmetic.specs.Modulo.{sub}
use Rattle.polynomial.specs.Polynomial.{plus_all, times_all}
use Rattle.sumcheck.specs.Corners.{corners}
use Rattle.sumcheck.specs.Extension.{extension}

-- a table's extension with r put for the first variables, X kept, and the corner b for the rest. It has degree 1 in X, so it is the line
-- through its values at 0 and 1 (document 002, "Multilinear Polynomials")
abbrev pub line : ℕ → List ℕ → List ℕ → List ℕ → List ℕ
line n r b table = extension n table (r ++ 0 ∷ b) ∷ sub n (extension n table (r ++ 1 ∷ b)) (extension n table (r ++ 0 ∷ b)) ∷ []

-- the true polynomial of the round after the challenges r, with so many variables behind its own: it puts r for the first variables, keeps X,
-- and sums f over all corners of the rest
abbrev pub true_polynomial : ℕ → List (List ℕ) → List ℕ → ℕ → List ℕ
true_polynomial n tables r rest = plus_all n (map (λ (b : List ℕ). times_all n (map (line n r b) tables)) (corners rest))

-- the true polynomials of the rounds after the challenges r, given the challenges that follow
abbrev pub polynomials_after : ℕ → List (List ℕ) → List ℕ → List ℕ → List (List ℕ)
polynomials_after n tables r [] = []
polynomials_after n tables r (c ∷ cs) = true_polynomial n tables r (length cs) ∷ polynomials_after n tables (r ++ c ∷ []) cs

-- the true polynomials of all rounds
abbrev pub true_polynomials : ℕ → List (List ℕ) → List ℕ → List (List ℕ)
true_polynomials n tables challenges = polynomials_after n tables [] challenges
