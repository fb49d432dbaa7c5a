-- `narrow_prover::prove::run` meets its contract: the progress, a round at a time. Assumes nothing.
use Rattle.std.proofs.Common.{◌≡◌, ℕ, ◌+◌, ◌-◌, ◌*◌, ◌≤◌, List, ◌++◌, length, take, drop, replicate, rules, ap, ap₂, ◌∙◌}
use lib.ListN.{length-take, length-drop}
use native.Mathlib.Omega.{arith}
use Rattle.sumcheck.proofs.Progress.{progress_start, progress_turn, progress_end, half_some, double_places, place-room}
use Rattle.narrow_prover.proofs.prove.run.Goals as goal

pub loop-j-init : goal.loop-j-init
loop-j-init c = progress_start c.requires.1 c.copy.ensures

pub invariant_of-folding-clause-both_halves : goal.invariant_of-folding-clause-both_halves
invariant_of-folding-clause-both_halves c = double_places c.requires.1 c.loop-j.invariant c.loop-j-test.true

pub write_round-requires : goal.write_round-requires
write_round-requires c =
    let at = c.loop-j in
    let start = c.loop-j.j * (c.args.lent.count + 1) in
    let room : c.loop-j.j * (c.args.lent.count + 1) + (c.args.lent.count + 1) ≤ length c.loop-j.messages =
    place-room c.requires.1 at.invariant c.loop-j-test.true in (
      half_some c.requires.1 at.invariant c.loop-j-test.true,
      omega (arith, at.invariant.long, c.requires.1.scratch_room),
      omega (arith, room, length-take (length at.messages - start) (drop start at.messages), length-drop start at.messages),
    )

pub loop-j-preserved : goal.loop-j-preserved
loop-j-preserved c =
    let at = c.loop-j in
    let start = c.loop-j.j * (c.args.lent.count + 1) in
    let rest = length c.loop-j.messages - start in
    progress_turn c.requires.1 at.invariant c.loop-j-test.true
    (ap (λ (u : List ℕ). take start at.messages ++ (u ++ drop rest (drop start at.messages))) c.write_round.ensures.0) c.write_round.ensures.1

pub returns : goal.returns
returns c =
    let s = c.requires.1 in
    let at = c.loop-j in
    let whole : length (take (length c.args.lent.numbers.now) c.loop-j.scratch) ≡ c.args.lent.count * c.args.lent.places =
    omega (arith, length-take (length c.args.lent.numbers.now) at.scratch, at.invariant.long, s.scratch_room, s.tables_are) in (
      progress_end s at.invariant c.loop-j-test.false,
      ap₂ (λ (r : List ℕ) (k : ℕ). r ++ drop k at.scratch) (c.fill.ensures.after (λ x h. search rules) ∙ ap (λ (k : ℕ). replicate k 0) whole) s.tables_are
          ∙ ap (λ (r : List ℕ). replicate (c.args.lent.count * c.args.lent.places) 0 ++ r) at.invariant.behind,
    )
