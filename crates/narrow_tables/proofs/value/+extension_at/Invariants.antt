-- `narrow_tables::value::extension_at`: the measure is the point's length.
use Rattle.std.proofs.Common.{length}
use Rattle.narrow_tables.proofs.value.+extension_at.Given as goal

abbrev pub decreases-extension_at : goal.decreases-extension_at
decreases-extension_at l = length l.point.now
