-- Halving a table by a challenge: how the prover works, and no part of what the documents say. That the folded table has the extension of the
-- table with its first variable bound is a law (proofs/Folding).
use Rattle.std.specs.Prelude.{List, map, ℕ, ◌+◌, get_or}
use Rattle.arithmetic.specs.Modulo.{add, mul, sub}
use Rattle.polynomial.specs.Elements.{count_from}

-- the point at r on the line from a (at 0) to b (at 1)
abbrev pub between : ℕ → ℕ → ℕ → ℕ → ℕ
between n r a b = add n a (mul n r (sub n b a))

-- a table of 2·half places folded by r: place i is the point at r between the lower half's place i and the upper half's
abbrev pub fold : ℕ → ℕ → ℕ → List ℕ → List ℕ
fold n r half table = map (λ (i : ℕ). between n r (get_or table i 0) (get_or table (half + i) 0)) (count_from 0 half)
