-- One list after another. Assumes nothing.
use Rattle.refusals.proofs.First.{outside-append}

-- a search over one list after another is a search over the one and then over the other
pub ruleset lists = outside-append
