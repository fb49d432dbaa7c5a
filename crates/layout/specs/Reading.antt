-- The answer for every list of bytes (document 01, "Proof file"): "The reader checks 9 first, then lines in order, in each line 11, 10, 12;
-- after `end` 13". Refusal 4 is about the list that a caller lends, and stands with the reader.
use Rattle.std.specs.Prelude.{List, [], ◌∷◌, ℕ, zero, suc, ◌+◌, length, leb, ltb, eqb}
use Rattle.refusals.specs.First.{choose}
use Rattle.layout.specs.Bytes.{within}
use Rattle.layout.specs.Words as words
use Rattle.layout.specs.Line.{Line, Outcome, fault, found, line_at, and_then}

-- what may differ between editions and fields
pub record Layout : Type 0 where
  -- the number after `sumproof=`, and the modulus
  pub edition : ℕ
  pub modulus : ℕ
  -- the most digits of a number: in line 1, in the field line, and in later lines
  pub edition_digits : ℕ
  pub field_digits : ℕ
  pub later_digits : ℕ
  -- the most variables, the greatest degree, and the most bytes of a file
  pub most_vars : ℕ
  pub most_degree : ℕ
  pub most_bytes : ℕ
  -- how many numbers a round has, by the degree
  pub per_round : ℕ → ℕ

-- a file's vars, degree, claim and coefficients; or a refusal's number and its line, 0 where it has none
pub data Reading : Type 0 where
  file : ℕ → ℕ → ℕ → List ℕ → Reading
  refused_at : ℕ → ℕ → Reading

-- `sumproof=1`
abbrev pub edition_line : Layout → Line
edition_line layout =
    record {
      word = words.sumproof;
      count = 1;
      most = layout.edition_digits;
      allowed = λ n. eqb n layout.edition;
    }

-- `field=2147483647`
abbrev pub field_line : Layout → Line
field_line layout =
    record {
      word = words.field;
      count = 1;
      most = layout.field_digits;
      allowed = λ n. eqb n layout.modulus;
    }

-- `vars=M`
abbrev pub vars_line : Layout → Line
vars_line layout =
    record {
      word = words.vars;
      count = 1;
      most = layout.later_digits;
      allowed = λ n. leb n layout.most_vars;
    }

-- `degree=K`
abbrev pub degree_line : Layout → Line
degree_line layout =
    record {
      word = words.degree;
      count = 1;
      most = layout.later_digits;
      allowed = λ n. within 1 layout.most_degree n;
    }

-- `claim=C`
abbrev pub claim_line : Layout → Line
claim_line layout =
    record {
      word = words.claim;
      count = 1;
      most = layout.later_digits;
      allowed = λ n. ltb n layout.modulus;
    }

-- `round=` with K+1 numbers
abbrev pub round_line : Layout → ℕ → Line
round_line layout degree =
    record {
      word = words.round;
      count = layout.per_round degree;
      most = layout.later_digits;
      allowed = λ n. ltb n layout.modulus;
    }

-- `end=M`
abbrev pub end_line : Layout → ℕ → Line
end_line layout vars =
    record { word = words.end; count = 1; most = layout.later_digits; allowed = λ n. eqb n vars }

-- so many lines of one kind, the first of them numbered `at`: their numbers one after another
unfoldable pub lines_at : ℕ → ℕ → Line → List ℕ → Outcome
lines_at at zero line bytes = found [] bytes
lines_at at (suc more) line bytes = and_then (line_at at line bytes) (λ rest. lines_at (suc at) more line rest)

-- an answer that goes on from what was found, and stops at a refusal
abbrev pub reading_then : Outcome → (List ℕ → List ℕ → Reading) → Reading
reading_then (fault number at) next = refused_at number at
reading_then (found ns rest) next = next ns rest

-- the number of a line that has one
abbrev pub only : List ℕ → ℕ
only [] = 0
only (n ∷ []) = n
only (n ∷ next ∷ more) = only (next ∷ more)

-- The answer from some line on, for the bytes from there on and the numbers read before. The last line stands first.
-- after `end`: 13, line M+7, for anything
abbrev pub from_after : ℕ → ℕ → ℕ → List ℕ → List ℕ → Reading
from_after vars degree claim coefficients [] = file vars degree claim coefficients
from_after vars degree claim coefficients (b ∷ rest) = refused_at 13 (vars + 7)

-- line M+6: `end`
unfoldable pub from_end : Layout → ℕ → ℕ → ℕ → List ℕ → List ℕ → Reading
from_end layout vars degree claim coefficients bytes =
    reading_then (line_at (vars + 6) (end_line layout vars) bytes) (λ ns rest. from_after vars degree claim coefficients rest)

-- lines 6 to M+5: the rounds
unfoldable pub from_rounds : Layout → ℕ → ℕ → ℕ → List ℕ → Reading
from_rounds layout vars degree claim bytes =
    reading_then (lines_at 6 vars (round_line layout degree) bytes)
    (λ coefficients rest. from_end layout vars degree claim coefficients rest)

-- line 5: the claim
unfoldable pub from_claim : Layout → ℕ → ℕ → List ℕ → Reading
from_claim layout vars degree bytes =
    reading_then (line_at 5 (claim_line layout) bytes) (λ ns rest. from_rounds layout vars degree (only ns) rest)

-- line 4: the degree
unfoldable pub from_degree : Layout → ℕ → List ℕ → Reading
from_degree layout vars bytes =
    reading_then (line_at 4 (degree_line layout) bytes) (λ ns rest. from_claim layout vars (only ns) rest)

-- line 3: vars
unfoldable pub from_vars : Layout → List ℕ → Reading
from_vars layout bytes = reading_then (line_at 3 (vars_line layout) bytes) (λ ns rest. from_degree layout (only ns) rest)

-- line 2: the field
unfoldable pub from_field : Layout → List ℕ → Reading
from_field layout bytes = reading_then (line_at 2 (field_line layout) bytes) (λ ns rest. from_vars layout rest)

-- line 1: the edition
unfoldable pub from_edition : Layout → List ℕ → Reading
from_edition layout bytes = reading_then (line_at 1 (edition_line layout) bytes) (λ ns rest. from_field layout rest)

-- the answer for a list of bytes: "9 first, then lines in order"
unfoldable pub reading : Layout → List ℕ → Reading
reading layout bytes = choose (ltb layout.most_bytes (length bytes)) (refused_at 9 0) (from_edition layout bytes)
