-- The tables that a lent list holds, as document 01 speaks of them: each a list of its own. Only inner functions speak of them: nothing that a caller is
-- promised rests on this file.
use Rattle.std.specs.Prelude.{List, ℕ}
use Rattle.sumcheck.specs.Lent.{parts}
use Rattle.narrow_lent.specs.declared.tables.Tables.{Tables}

abbrev pub lists : Tables → List (List ℕ)
lists t = parts t.count t.places t.numbers.now
