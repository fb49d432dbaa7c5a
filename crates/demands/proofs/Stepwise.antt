-- The checker in steps at p (specs/Stepwise): the laws over any modulus, with p put in. Assumes nothing.
use Rattle.sumcheck.specs.Sequences.{StepsFollow, ClosingFollows, StepsAgree, RoundsAgree, RefusedKeeps, DoubtedAlike}
use Rattle.sumcheck.proofs.Sequences.{steps_follow, closing_follows, refused_keeps, doubted-alike}
use Rattle.sumcheck.proofs.Agreement.{steps_agree, rounds_agree}
use Rattle.narrow_field.specs.Narrow.{p}
use Rattle.demands.specs.Stepwise.{StepKeepsAtP, DoubtedAlikeAtP, StepsFollowAtP, ClosingFollowsAtP, StepsAgreeAtP, RoundsAgreeAtP}

pub step_keeps_at_p : StepKeepsAtP
unfolding StepKeepsAtP RefusedKeeps
step_keeps_at_p = refused_keeps p

pub doubted_alike_at_p : DoubtedAlikeAtP
unfolding DoubtedAlikeAtP DoubtedAlike
doubted_alike_at_p = doubted-alike p

pub steps_follow_at_p : StepsFollowAtP
unfolding StepsFollowAtP StepsFollow
steps_follow_at_p = steps_follow p

pub closing_follows_at_p : ClosingFollowsAtP
unfolding ClosingFollowsAtP ClosingFollows
closing_follows_at_p = closing_follows p

pub steps_agree_at_p : StepsAgreeAtP
unfolding StepsAgreeAtP StepsAgree
steps_agree_at_p = steps_agree p

pub rounds_agree_at_p : RoundsAgreeAtP
unfolding RoundsAgreeAtP RoundsAgree
rounds_agree_at_p = rounds_agree p
