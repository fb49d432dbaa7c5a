-- `narrow_prover::memory::copy`: the first i places are those of the list that is copied, the others are as they were.
use Rattle.std.proofs.Common.{◌≡◌, ◌++◌, take, drop}
use Rattle.narrow_prover.proofs.memory.copy.Given as goal

abbrev pub invariant-loop-i : goal.invariant-loop-i
invariant-loop-i l = l.into ≡ take l.i l.from ++ drop l.i l.fn.into
