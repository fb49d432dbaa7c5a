-- One line of a proof file (document 01, "Proof file"): what it must be, and what is found where it is expected, "in each line 11, 10, 12".
use Rattle.std.specs.Prelude.{Bool, ◌&&◌, List, [], ◌∷◌, ◌++◌, map, ℕ, length, eqb}
use Rattle.refusals.specs.First.{choose}
use Rattle.layout.specs.Bytes.{Cut, ended, unended, first_line, pieces}
use Rattle.layout.specs.Number.{all, is_number, number_of}

-- what a line must be: its word, how many numbers follow, of how many digits at most, and which of them are allowed
pub record Line : Type 0 where
  pub word : List ℕ
  pub count : ℕ
  pub most : ℕ
  pub allowed : ℕ → Bool

-- the numbers of a text, if it has the right form
pub data Form : Type 0 where
  formless : Form
  numbers : List ℕ → Form

-- right form after the `=`: so many numbers, parted by commas
unfoldable pub numbers_of : Line → List ℕ → Form
numbers_of line text =
    choose (eqb (length (pieces text)) line.count && all (is_number line.most) (pieces text))
    (numbers (map number_of (pieces text)))
    formless

-- right form where the bytes of a beginning are still to come
abbrev pub form_after : Line → List ℕ → List ℕ → Form
form_after line [] text = numbers_of line text
form_after line (b ∷ beginning) [] = formless
form_after line (b ∷ beginning) (c ∷ text) = choose (eqb c b) (form_after line beginning text) formless

-- right form of a line: its word, `=` (61), its numbers
unfoldable pub form : Line → List ℕ → Form
form line text = form_after line (line.word ++ 61 ∷ []) text

-- where a line is expected: a refusal and the line's number; or the line's numbers and the bytes after it
pub data Outcome : Type 0 where
  fault : ℕ → ℕ → Outcome
  found : List ℕ → List ℕ → Outcome

-- 10 for a line not of its form, 12 for a number of right form but not allowed
abbrev pub judged_line : ℕ → Line → List ℕ → Form → Outcome
judged_line at line rest formless = fault 10 at
judged_line at line rest (numbers ns) = choose (all line.allowed ns) (found ns rest) (fault 12 at)

-- 11 where nothing is left; "Bytes after the last line end count as a line; where a line is expected there they are refusal 10"
abbrev pub outcome : ℕ → Line → Cut → Outcome
outcome at line (ended text rest) = judged_line at line rest (form line text)
outcome at line (unended []) = fault 11 at
outcome at line (unended (b ∷ text)) = fault 10 at

-- what is found at the head of bytes where line number `at` is expected
unfoldable pub line_at : ℕ → Line → List ℕ → Outcome
line_at at line bytes = outcome at line (first_line bytes)

-- numbers found before others
abbrev pub before : List ℕ → Outcome → Outcome
before ns (fault number at) = fault number at
before ns (found more rest) = found (ns ++ more) rest

-- what comes after a line is looked at only if the line is good
abbrev pub and_then : Outcome → (List ℕ → Outcome) → Outcome
and_then (fault number at) next = fault number at
and_then (found ns rest) next = before ns (next rest)
