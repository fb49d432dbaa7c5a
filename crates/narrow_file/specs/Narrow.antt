-- The reader of narrow files (document 01, "Proof file"): the layout with its numbers put in, the reader's answer for every list of bytes
-- and every lent list, and what the lent list holds after the call.
use Rattle.std.specs.Prelude.{List, ◌++◌, ℕ, ◌+◌, ◌*◌, drop, ltb, Result, Ok, Err}
use Rattle.refusals.specs.First.{choose}
use Rattle.refusals.specs.Said.{number_of}
use Rattle.refusals.specs.Limits.{max_vars, max_degree, max_file}
use Rattle.narrow_field.specs.Narrow.{p}
use Rattle.layout.specs.Reading.{Layout, Reading, file, refused_at, reading}
use Rattle.file_line.specs.declared.line.Fault.{Fault}
use Rattle.narrow_file.specs.declared.Head.{Head}

-- edition 1 over the narrow field: numbers of 1 to 10 digits, K+1 in a round
abbrev pub narrow : Layout
narrow =
    record {
      edition = 1;
      modulus = p;
      edition_digits = 10;
      field_digits = 10;
      later_digits = 10;
      most_vars = max_vars;
      most_degree = max_degree;
      most_bytes = max_file;
      per_round = λ degree. degree + 1;
    }

-- "last, refusal 4 for the lent message list": it has fewer than M(K+1) places
abbrev pub with_room : ℕ → Reading → Reading
with_room places (refused_at number line) = refused_at number line
with_room places (file vars degree claim coefficients) =
    choose (ltb places (vars * (degree + 1))) (refused_at 4 0) (file vars degree claim coefficients)

-- the answer for a list of bytes and a lent list of so many places
unfoldable pub read_answer : List ℕ → ℕ → Reading
read_answer bytes places = with_room places (reading narrow bytes)

-- "Success gives vars, degree, claim, and the coefficients in the first M(K+1) places; the rest is unchanged"; a refusal changes nothing
abbrev pub after : Reading → List ℕ → List ℕ
after (refused_at number line) list = list
after (file vars degree claim coefficients) list = coefficients ++ drop (vars * (degree + 1)) list

-- what the reader returns: a file's head, or a refusal's number and line
pub data Reply : Type 0 where
  head : ℕ → ℕ → ℕ → Reply
  refusal : ℕ → ℕ → Reply

abbrev pub told : Reading → Reply
told (file vars degree claim coefficients) = head vars degree claim
told (refused_at number line) = refusal number line

abbrev pub said : Result Head Fault → Reply
said (Ok h) = head h.vars h.degree h.claim
said (Err refused) = refusal (number_of refused.refusal) refused.line
