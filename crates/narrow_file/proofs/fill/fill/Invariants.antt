-- `narrow_file::fill::fill`: the loop's invariant is that the lent list as it will be is the same from here on as from the start. Assumes
-- nothing.
use Rattle.std.proofs.Common.{◌≡◌, length, drop, take}
use Rattle.narrow_file.specs.Passes.{collect, put}
use Rattle.narrow_file.proofs.Pour.{pour}
use Rattle.narrow_file.proofs.fill.fill.Given as goal

abbrev pub invariant-loop-b : goal.invariant-loop-b
invariant-loop-b l =
    pour (length l.messages) l.filled l.value (drop l.b-index l.rounds) l.messages
    ≡ put (take (length l.initial.messages) (collect 0 l.rounds)) l.initial.messages
