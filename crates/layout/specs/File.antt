-- The bytes of a proof file, built from its parts, and the statement that exactly these lists of bytes are answered as files.
use Rattle.std.specs.Prelude.{◌≡◌, List, [], ◌∷◌, ◌++◌, ◌↔◌, ℕ, zero, suc, ◌*◌, ◌≤◌, ◌<◌, length, take, drop}
use Rattle.layout.specs.Number.{decimal}
use Rattle.layout.specs.Line.{Line}
use Rattle.layout.specs.Reading.{Layout, file, reading, edition_line, field_line, vars_line, degree_line, claim_line, round_line, end_line}

-- numbers in decimal digits, parted by commas
abbrev pub list : List ℕ → List ℕ
list [] = []
list (n ∷ []) = decimal n
list (n ∷ next ∷ more) = decimal n ++ 44 ∷ list (next ∷ more)

-- a line: its word, `=`, its numbers, byte 10
abbrev pub line_of : Line → List ℕ → List ℕ
line_of line ns = line.word ++ 61 ∷ (list ns ++ 10 ∷ [])

-- so many lines, each with the next numbers of a list
abbrev pub lines_of : ℕ → Line → List ℕ → List ℕ
lines_of zero line ns = []
lines_of (suc more) line ns = line_of line (take line.count ns) ++ lines_of more line (drop line.count ns)

-- the whole file, line by line
unfoldable pub file_of : Layout → ℕ → ℕ → ℕ → List ℕ → List ℕ
file_of layout vars degree claim coefficients =
    line_of (edition_line layout) (layout.edition ∷ [])
    ++ (line_of (field_line layout) (layout.modulus ∷ [])
    ++ (line_of (vars_line layout) (vars ∷ [])
    ++ (line_of (degree_line layout) (degree ∷ [])
    ++ (line_of (claim_line layout) (claim ∷ [])
    ++ (lines_of vars (round_line layout degree) coefficients
    ++ line_of (end_line layout vars) (vars ∷ []))))))

-- every number of a list is below the modulus and has at most so many digits
abbrev pub Writable : ℕ → ℕ → List ℕ → Type 0
Writable modulus most [] = Unit {0}
Writable modulus most (n ∷ more) = (n < modulus) × (length (decimal n) ≤ most) × Writable modulus most more

-- parts that a file may have: within the limits, elements of the field, of the right number, and no number or file too long
pub record FileParts (layout : Layout) (vars degree claim : ℕ) (coefficients : List ℕ) : Type 0 where
  pub vars_allowed : vars ≤ layout.most_vars
  pub degree_not_none : 1 ≤ degree
  pub degree_allowed : degree ≤ layout.most_degree
  pub claim_element : Writable layout.modulus layout.later_digits (claim ∷ [])
  pub elements : Writable layout.modulus layout.later_digits coefficients
  pub as_many : length coefficients ≡ vars * layout.per_round degree
  pub edition_fits : length (decimal layout.edition) ≤ layout.edition_digits
  pub field_fits : length (decimal layout.modulus) ≤ layout.field_digits
  pub vars_fit : length (decimal vars) ≤ layout.later_digits
  pub degree_fits : length (decimal degree) ≤ layout.later_digits
  pub file_fits : length (file_of layout vars degree claim coefficients) ≤ layout.most_bytes

-- a list of bytes is answered as a file exactly if it is the file of these parts, and they are well formed
-- (a round has at least one number: its line could not be written otherwise)
abbrev pub Exactly : Type 0
Exactly =
    (layout : Layout) (vars degree claim : ℕ) (coefficients bytes : List ℕ)
    → ((k : ℕ) → 1 ≤ k → 1 ≤ layout.per_round k)
    → (reading layout bytes ≡ file vars degree claim coefficients)
    ↔ ((bytes ≡ file_of layout vars degree claim coefficients) × FileParts layout vars degree claim coefficients)

-- so a list of bytes is the file of one set of well_formed parts only: no two different contents share a file
abbrev pub OneContent : Type 0
OneContent =
    (layout : Layout) (v w d e c b : ℕ) (ms ns : List ℕ)
    → ((k : ℕ) → 1 ≤ k → 1 ≤ layout.per_round k)
    → FileParts layout v d c ms
    → FileParts layout w e b ns
    → file_of layout v d c ms ≡ file_of layout w e b ns
    → file v d c ms ≡ file w e b ns
