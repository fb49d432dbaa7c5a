-- The checker in steps, with p put in (docs/SPECIFICATION.md, "What is offered"; over any modulus: sumcheck/specs/Sequences). Proofs: proofs/Stepwise.
--   StepKeepsAtP        a refused step leaves the state
--   DoubtedAlikeAtP     the state of a refused opening is refused at every use, by the same number
--   StepsFollowAtP      any sequence of steps, refused ones among it, ends and answers as the protocol does on the steps that were not refused
--   ClosingFollowsAtP   so does a closing after it that is not refused
--   StepsAgreeAtP       steps and closing answer as the checker does where the checker refuses nothing
--   RoundsAgreeAtP      and as the checker without tables does
use Rattle.std.specs.Prelude.{◌≡◌, List, ℕ, length}
use Rattle.refusals.specs.First.{refused, given, first}
use Rattle.sumcheck.specs.Function.{f}
use Rattle.sumcheck.specs.Protocol.{rounds, Verdict, final}
use Rattle.sumcheck.specs.Lent.{tables_of, messages_of}
use Rattle.sumcheck.specs.Entries.{checker_rules, checker_answer, rounds_rules, rounds_answer}
use Rattle.sumcheck.specs.Steps.{State, fresh, opening, step, closing}
use Rattle.sumcheck.specs.Sequences.{Input, end_of, outcomes_of, givens, challenges_of, messages_in, answers_by, standing, kept_of, inputs_of, rounds_by}
use Rattle.narrow_field.specs.Narrow.{p}

unfoldable pub StepKeepsAtP : Type 0
StepKeepsAtP = (s : State) (message : List ℕ) (challenge number : ℕ) → (step p s message challenge).outcome ≡ refused number
    → (step p s message challenge).state ≡ s

unfoldable pub DoubtedAlikeAtP : Type 0
DoubtedAlikeAtP = (vars degree claim number : ℕ) → (opening p vars degree claim).outcome ≡ refused number
    → ((message : List ℕ) (challenge : ℕ) → (step p (opening p vars degree claim).state message challenge).outcome ≡ refused number)
    × ((v : ℕ) → (closing p (opening p vars degree claim).state v).outcome ≡ refused number)

unfoldable pub StepsFollowAtP : Type 0
StepsFollowAtP = (vars degree claim : ℕ) (inputs : List Input) →
    let k = kept_of p vars degree claim inputs in
    (end_of p (fresh vars degree claim) inputs ≡ standing p vars degree claim (challenges_of k) (messages_in k))
    × (givens (outcomes_of p (fresh vars degree claim) inputs) ≡ answers_by (length k) (rounds p claim (challenges_of k) (messages_in k)))

unfoldable pub ClosingFollowsAtP : Type 0
ClosingFollowsAtP = (vars degree claim : ℕ) (inputs : List Input) (v : ℕ) (a : Verdict) →
    let k = kept_of p vars degree claim inputs in
    (closing p (end_of p (fresh vars degree claim) inputs) v).outcome ≡ given a → a ≡ final vars v (rounds p claim (challenges_of k) (messages_in k))

unfoldable pub StepsAgreeAtP : Type 0
StepsAgreeAtP = (vars degree : ℕ) (tables : List ℕ) (claim : ℕ) (challenges messages : List ℕ)
    → first (checker_rules p vars degree tables claim challenges messages) ≡ 0
    → (closing p (end_of p (fresh vars degree claim) (inputs_of challenges (messages_of vars degree messages)))
    (f p (tables_of vars degree tables) challenges)).outcome
    ≡ checker_answer p vars degree tables claim challenges messages

unfoldable pub RoundsAgreeAtP : Type 0
RoundsAgreeAtP = (vars degree claim : ℕ) (challenges messages : List ℕ)
    → first (rounds_rules p vars degree claim challenges messages) ≡ 0
    → given (rounds_by (end_of p (fresh vars degree claim) (inputs_of challenges (messages_of vars degree messages))))
    ≡ rounds_answer p vars degree claim challenges messages
