-- What a caller lends, and when it is turned down (document 01, "Terms" and "When a call is turned down"), over the modulus n.
-- vars is m and degree is k; tables are k·2^m numbers, table after table; messages m(k+1) numbers, round after round; challenges m numbers.
use Rattle.std.specs.Prelude.{Bool, not, List, [], ◌∷◌, ◌++◌, ℕ, zero, suc, ◌*◌, ◌^◌, eqb, ltb, leb, length, take, drop}
use Rattle.refusals.specs.Limits.{max_vars, max_degree}
use Rattle.refusals.specs.First.{choose, either}

-- a list as so many parts of one size, one after the other
unfoldable pub parts : ℕ → ℕ → List ℕ → List (List ℕ)
parts zero size xs = []
parts (suc count) size xs = take size xs ∷ parts count size (drop size xs)

-- lists one after the other
abbrev pub join : List (List ℕ) → List ℕ
join [] = []
join (x ∷ xs) = x ++ join xs

-- how many numbers the tables and the messages have
abbrev pub tables_length : ℕ → ℕ → ℕ
tables_length vars degree = degree * 2 ^ vars

abbrev pub messages_length : ℕ → ℕ → ℕ
messages_length vars degree = vars * suc degree

-- the tables that a lent list holds, and the messages
abbrev pub tables_of : ℕ → ℕ → List ℕ → List (List ℕ)
tables_of vars degree tables = parts degree (2 ^ vars) tables

abbrev pub messages_of : ℕ → ℕ → List ℕ → List (List ℕ)
messages_of vars degree messages = parts vars (suc degree) messages

-- refusals 1 and 2: vars over the limit; degree 0 or over the limit
abbrev pub bad_vars : ℕ → Bool
bad_vars vars = ltb max_vars vars

abbrev pub bad_degree : ℕ → Bool
bad_degree degree = either (eqb degree 0) (ltb max_degree degree)

-- a list is not of the exact length
abbrev pub not_long : ℕ → List ℕ → Bool
not_long n xs = not (eqb (length xs) n)

-- a lent list is too short
abbrev pub too_short : ℕ → List ℕ → Bool
too_short n xs = ltb (length xs) n

-- the search for refusal 5: the place of the first number that is not below n; the list's length where there is none
abbrev pub first_outside : ℕ → List ℕ → ℕ
first_outside n [] = 0
first_outside n (x ∷ xs) = choose (leb n x) 0 (suc (first_outside n xs))
