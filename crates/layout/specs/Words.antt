-- The words that lines begin with (document 01, "Proof file"), in ASCII.
use Rattle.std.specs.Prelude.{List, [], ◌∷◌, ℕ}

-- `sumproof`
abbrev pub sumproof : List ℕ
sumproof = 115 ∷ 117 ∷ 109 ∷ 112 ∷ 114 ∷ 111 ∷ 111 ∷ 102 ∷ []

-- `field`
abbrev pub field : List ℕ
field = 102 ∷ 105 ∷ 101 ∷ 108 ∷ 100 ∷ []

-- `vars`
abbrev pub vars : List ℕ
vars = 118 ∷ 97 ∷ 114 ∷ 115 ∷ []

-- `degree`
abbrev pub degree : List ℕ
degree = 100 ∷ 101 ∷ 103 ∷ 114 ∷ 101 ∷ 101 ∷ []

-- `claim`
abbrev pub claim : List ℕ
claim = 99 ∷ 108 ∷ 97 ∷ 105 ∷ 109 ∷ []

-- `round`
abbrev pub round : List ℕ
round = 114 ∷ 111 ∷ 117 ∷ 110 ∷ 100 ∷ []

-- `end`
abbrev pub end : List ℕ
end = 101 ∷ 110 ∷ 100 ∷ []
