-- The corners of {0,1}^m (document 002, "Boolean Hypercube") and the index of a corner (document 01, "Terms").
use Rattle.std.specs.Prelude.{List, [], ◌∷◌, ◌++◌, map, ℕ, zero, suc, ◌+◌, ◌*◌, ◌^◌, length}

-- the 2^m corners of m variables
unfoldable pub corners : ℕ → List (List ℕ)
corners zero = [] ∷ []
corners (suc m) = map (λ (b : List ℕ). 0 ∷ b) (corners m) ++ map (λ (b : List ℕ). 1 ∷ b) (corners m)

-- the index of (x1, .., xm): x1·2^(m-1) + .. + xm, so x1 is the top bit
abbrev pub index : List ℕ → ℕ
index [] = 0
index (x ∷ xs) = x * 2 ^ length xs + index xs
