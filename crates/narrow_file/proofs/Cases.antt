-- The document's file cases hold of the definitions: they compute to what the document says. Assumes nothing.
use mathlib.Core.Path.{refl}
use Rattle.layout.specs.Number.{decimal, digits}
use Rattle.layout.specs.Line.{line_at, form, numbers_of}
use Rattle.layout.specs.Reading.{reading, from_edition, from_field, from_vars, from_degree, from_claim, from_rounds, from_end, lines_at}
use Rattle.layout.specs.File.{file_of}
use Rattle.narrow_file.specs.Example.{Cases}

pub cases : Cases
unfolding reading from_edition from_field from_vars from_degree from_claim from_rounds from_end lines_at line_at form numbers_of file_of decimal digits
cases =
    record {
      written = refl;
      is_read = refl;
      empty = refl;
      second_round = refl;
      cut = refl;
      last_byte = refl;
      leading_zero = refl;
      modulus = refl;
    }
