-- The limits of document 01, "Terms" and "When a call is turned down", once for all specifications.
use Rattle.std.specs.Prelude.{ℕ}

-- vars is 0 to 16
abbrev pub max_vars : ℕ
max_vars = 16

-- degree, the number of tables, is 1 to 3
abbrev pub max_degree : ℕ
max_degree = 3

-- a proof file has at most so many bytes
abbrev pub max_file : ℕ
max_file = 4096
