-- f and its true sum (document 01, "Terms"). The tables are k lists; the table's value at a corner stands at the corner's index.
use Rattle.std.specs.Prelude.{List, ◌++◌, map, ℕ}
use Rattle.polynomial.specs.Elements.{sum, product}
use Rattle.sumcheck.specs.Corners.{corners}
use Rattle.sumcheck.specs.Extension.{extension}

-- f is the product of the k extensions
abbrev pub f : ℕ → List (List ℕ) → List ℕ → ℕ
f n tables r = product n (map (λ (table : List ℕ). extension n table r) tables)

-- the true sum is f summed over all 2^m corners
abbrev pub true_sum : ℕ → List (List ℕ) → ℕ → ℕ
true_sum n tables m = sum n (map (f n tables) (corners m))

-- what is left to be summed once r1, .. are put for the first variables: f at r1, .. and all corners of the rest
abbrev pub true_claim : ℕ → List (List ℕ) → List ℕ → ℕ → ℕ
true_claim n tables r rest = sum n (map (λ (b : List ℕ). f n tables (r ++ b)) (corners rest))
