-- `narrow_lent::prover::prover_refusal` meets its contract: the refusals by their tests, in order. Assumes nothing.
use Rattle.std.proofs.Common.{refl, rules}
use native.Mathlib.Omega.{arith}
use Rattle.refusals.proofs.First.{either_left, either-right, either-none}
use Rattle.sumcheck.proofs.Prover.{prover_element, prover_none}
use Rattle.narrow_field.specs.Narrow.{p}
use Rattle.narrow_lent.proofs.prover.prover_refusal.Goals as goal
use Rattle.narrow_lent.proofs.prover.prover_refusal.Goals.{then-is_outside-via-then-is_outside, then-is_outside-via-else-is_outside+then-is_outside-2}

pub returns-then-is_outside : goal.returns-then-is_outside
returns-then-is_outside c =
    let a = c.args in
    prover_element p a.vars a.degree a.tables.now a.challenges.now a.messages.now a.scratch.now c.in_ok-lent.ensures.refusal refl
    (omega arith) (omega (arith, c.if-messages-messages_length.false, c.messages_length.ensures)) (omega arith)
    (elim c.then-is_outside.branch [
      | then-is_outside-via-then-is_outside w ↦ search (rules, either_left)
      | then-is_outside-via-else-is_outside+then-is_outside-2 w ↦ search (rules, either-right)
    ])

pub returns : goal.returns
returns c =
    let a = c.args in
    prover_none p a.vars a.degree a.tables.now a.challenges.now a.messages.now a.scratch.now c.in_ok-lent.ensures.refusal refl
    (omega arith) (omega (arith, c.if-messages-messages_length.false, c.messages_length.ensures)) (omega arith)
    (search (rules, either-none))
