-- Sequences of steps (document 01, "What is offered"): any sequence of steps, refused ones among it, answers as the protocol does on the steps that
-- were not refused; and steps and closing agree with the checker. Statements; their proofs are in proofs/Sequences and proofs/Agreement.
--   StepsFollow     the state at the end and the outcomes are the protocol's on the steps that were not refused
--   ClosingFollows  so is what closing then answers, where it is not refused
--   StepsAgree      steps and closing answer as the checker does where all inputs are well formed
--   RoundsAgree     and as the checker without tables does
--   RefusedKeeps    a refused step changes nothing
--   DoubtedAlike    the state of a refused opening is refused at every use, by the same number
use Rattle.std.specs.Prelude.{◌≡◌, Bool, true, false, List, [], ◌∷◌, ◌++◌, map, ℕ, suc, ◌-◌, length, replicate}
use Rattle.refusals.specs.First.{Answer, refused, given, first, choose}
use Rattle.sumcheck.specs.Function.{f}
use Rattle.sumcheck.specs.Protocol.{Rounds, reached, failed, rounds, Verdict, final}
use Rattle.sumcheck.specs.Lent.{tables_of, messages_of}
use Rattle.sumcheck.specs.Entries.{checker_rules, checker_answer, rounds_rules, rounds_answer}
use Rattle.sumcheck.specs.Checker.{claim_after}
use Rattle.sumcheck.specs.Steps.{State, fresh, opening, Judged, fitted, rejects, step, closing}

-- what is given to a step
pub record Input : Type 0 where
  pub message : List ℕ
  pub challenge : ℕ

-- the state after a sequence of steps, and the outcome of each
abbrev pub end_of : ℕ → State → List Input → State
end_of n s [] = s
end_of n s (i ∷ inputs) = end_of n (step n s i.message i.challenge).state inputs

abbrev pub outcomes_of : ℕ → State → List Input → List (Answer Judged)
outcomes_of n s [] = []
outcomes_of n s (i ∷ inputs) = (step n s i.message i.challenge).outcome ∷ outcomes_of n (step n s i.message i.challenge).state inputs

-- the inputs of the steps that were not refused, and their outcomes
abbrev pub kept : List Input → List (Answer Judged) → List Input
kept [] outcomes = []
kept (i ∷ inputs) [] = []
kept (i ∷ inputs) (refused number ∷ outcomes) = kept inputs outcomes
kept (i ∷ inputs) (given a ∷ outcomes) = i ∷ kept inputs outcomes

abbrev pub givens : List (Answer Judged) → List Judged
givens [] = []
givens (refused number ∷ outcomes) = givens outcomes
givens (given a ∷ outcomes) = a ∷ givens outcomes

-- the rounds that inputs make
abbrev pub challenges_of : List Input → List ℕ
challenges_of inputs = map (λ (i : Input). i.challenge) inputs

abbrev pub messages_in : List Input → List (List ℕ)
messages_in inputs = map (λ (i : Input). i.message) inputs

-- what the protocol says of so many rounds: how many are taken, whether one rejected, and what each answers
abbrev pub taken_by : ℕ → Rounds → ℕ
taken_by count (reached c) = count
taken_by count (failed round) = round - 1

abbrev pub rejected_by : Rounds → Bool
rejected_by (reached c) = false
rejected_by (failed round) = true

abbrev pub answers_by : ℕ → Rounds → List Judged
answers_by count (reached c) = replicate count fitted
answers_by count (failed round) = replicate (round - 1) fitted ++ rejects round ∷ []

-- where the protocol stands after rounds: the running claim is that of the rounds taken
abbrev pub standing : ℕ → ℕ → ℕ → ℕ → List ℕ → List (List ℕ) → State
standing n vars degree claim challenges messages =
    record {
      vars = vars;
      degree = degree;
      taken = taken_by (length challenges) (rounds n claim challenges messages);
      claim = claim_after n claim challenges messages (taken_by (length challenges) (rounds n claim challenges messages));
      mark = rejected_by (rounds n claim challenges messages);
    }

-- the inputs that were not refused in a sequence of steps from an opened state
abbrev pub kept_of : ℕ → ℕ → ℕ → ℕ → List Input → List Input
kept_of n vars degree claim inputs = kept inputs (outcomes_of n (fresh vars degree claim) inputs)

unfoldable pub StepsFollow : Type 0
StepsFollow = (n vars degree claim : ℕ) (inputs : List Input) →
    let k = kept_of n vars degree claim inputs in
    (end_of n (fresh vars degree claim) inputs ≡ standing n vars degree claim (challenges_of k) (messages_in k))
    × (givens (outcomes_of n (fresh vars degree claim) inputs) ≡ answers_by (length k) (rounds n claim (challenges_of k) (messages_in k)))

unfoldable pub ClosingFollows : Type 0
ClosingFollows = (n vars degree claim : ℕ) (inputs : List Input) (v : ℕ) (a : Verdict) →
    let k = kept_of n vars degree claim inputs in
    (closing n (end_of n (fresh vars degree claim) inputs) v).outcome ≡ given a → a ≡ final vars v (rounds n claim (challenges_of k) (messages_in k))

-- messages and challenges as inputs of steps
abbrev pub inputs_of : List ℕ → List (List ℕ) → List Input
inputs_of [] messages = []
inputs_of (r ∷ challenges) [] = []
inputs_of (r ∷ challenges) (s ∷ messages) = record { message = s; challenge = r } ∷ inputs_of challenges messages

unfoldable pub StepsAgree : Type 0
StepsAgree = (n vars degree : ℕ) (tables : List ℕ) (claim : ℕ) (challenges messages : List ℕ)
    → first (checker_rules n vars degree tables claim challenges messages) ≡ 0
    → (closing n (end_of n (fresh vars degree claim) (inputs_of challenges (messages_of vars degree messages)))
    (f n (tables_of vars degree tables) challenges)).outcome
    ≡ checker_answer n vars degree tables claim challenges messages

-- what a state says of the rounds behind it: the running claim, or the rejecting round
abbrev pub rounds_by : State → Rounds
rounds_by s = choose s.mark (failed (suc s.taken)) (reached s.claim)

unfoldable pub RoundsAgree : Type 0
RoundsAgree = (n vars degree claim : ℕ) (challenges messages : List ℕ)
    → first (rounds_rules n vars degree claim challenges messages) ≡ 0
    → given (rounds_by (end_of n (fresh vars degree claim) (inputs_of challenges (messages_of vars degree messages)))) ≡ rounds_answer n vars degree
    claim challenges messages

unfoldable pub RefusedKeeps : Type 0
RefusedKeeps = (n : ℕ) (s : State) (message : List ℕ) (challenge number : ℕ) → (step n s message challenge).outcome ≡ refused number
    → (step n s message challenge).state ≡ s

unfoldable pub DoubtedAlike : Type 0
DoubtedAlike = (n vars degree claim number : ℕ) → (opening n vars degree claim).outcome ≡ refused number
    → ((message : List ℕ) (challenge : ℕ) → (step n (opening n vars degree claim).state message challenge).outcome ≡ refused number)
    × ((v : ℕ) → (closing n (opening n vars degree claim).state v).outcome ≡ refused number)
