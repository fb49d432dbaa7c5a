-- `narrow_checker::sent::Sent::walk`: so many rounds are taken, and the running claim is theirs.
use Rattle.sumcheck.proofs.Walk.{Walked}
use Rattle.narrow_field.specs.Narrow.{p}
use Rattle.narrow_checker.proofs.sent.Sent.walk.Given as goal

abbrev pub invariant-loop-taken : goal.invariant-loop-taken
invariant-loop-taken l = Walked p l.self.claim l.self.challenges.now l.width l.self.messages.now l.taken l.running
