-- `narrow_prover::prove::run`: the progress, a round at a time.
use Rattle.sumcheck.proofs.Progress.{Progress}
use Rattle.narrow_field.specs.Narrow.{p}
use Rattle.narrow_prover.proofs.prove.run.Given as goal

abbrev pub invariant-loop-j : goal.invariant-loop-j
invariant-loop-j l =
    Progress p l.lent.count l.lent.places l.lent.numbers.now l.challenges l.fn.messages l.fn.scratch l.messages l.scratch l.size l.j
