-- Bytes (document 01, "Proof file"): the class of a byte, the first line of a list of bytes, and the parts between commas.
use Rattle.std.specs.Prelude.{Bool, ◌&&◌, List, [], ◌∷◌, ℕ, leb, eqb}
use Rattle.refusals.specs.First.{choose}

-- "Every byte falls in one class: digit, comma, equals, line end, small letter, other."
pub data Class : Type 0 where
  digit comma equals line_end letter other : Class

-- low, high or a number between them
abbrev pub within : ℕ → ℕ → ℕ → Bool
within low high n = leb low n && leb n high

-- 0 to 9 in ASCII
abbrev pub is_digit : ℕ → Bool
is_digit b = within 48 57 b

-- a to z in ASCII
abbrev pub is_letter : ℕ → Bool
is_letter b = within 97 122 b

-- the class of a byte; comma is 44, equals 61, line end 10
unfoldable pub class_of : ℕ → Class
class_of b =
    choose (is_digit b) digit
    (choose (eqb b 44) comma (choose (eqb b 61) equals (choose (eqb b 10) line_end (choose (is_letter b) letter other))))

-- a first line and the bytes after its line end; or bytes with no line end
pub data Cut : Type 0 where
  ended : List ℕ → List ℕ → Cut
  unended : List ℕ → Cut

-- one byte more in front
abbrev pub longer : ℕ → Cut → Cut
longer b (ended text rest) = ended (b ∷ text) rest
longer b (unended text) = unended (b ∷ text)

-- "each ended by one byte 10": the bytes before the first line end, and those after it
abbrev pub first_line : List ℕ → Cut
first_line [] = unended []
first_line (b ∷ bytes) = choose (eqb b 10) (ended [] bytes) (longer b (first_line bytes))

-- one byte more in front of the first part
abbrev pub widen : ℕ → List (List ℕ) → List (List ℕ)
widen b [] = (b ∷ []) ∷ []
widen b (part ∷ more) = (b ∷ part) ∷ more

-- "parted by commas": one part more than there are commas
abbrev pub pieces : List ℕ → List (List ℕ)
pieces [] = [] ∷ []
pieces (b ∷ text) = choose (eqb b 44) ([] ∷ pieces text) (widen b (pieces text))
