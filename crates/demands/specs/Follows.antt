-- What follows from the demands for a caller, with p put in. Proofs: proofs/Follows. Each is proved from the demands as they stand, for every input: a
-- demand with one premise more, or one conclusion less, would not prove it.
--   EveryAnswerAtP    the checker gives an answer exactly when that answer's reason holds
--   SettledAtP        for every input there is one answer whose reason holds, and no second
--   BelievedAtP       an accepted claim is the true sum, unless a message that differs from the true polynomial agrees with it at its challenge
--   NeverMoreAtP      of degree + 1 different challenges not all could have made a round lucky
--   LedgerAtP         of one table: an accepted claim, where no round was lucky, is the plain total modulo p, and the total itself where that is below p
--   HonestExactlyAtP  with the true polynomials the true sum is accepted, and no other claim
--   EndToEndAtP       what the true sum's entry gives is accepted with what the prover's entry leaves
--   RoundsAlikeAtP    a round's message does not depend on its own challenge or later ones; what else the prover leaves depends on none
--   AskedAgainAtP     a prover, a reader or a step that was refused is refused by the same number if it is asked again with what it left
--   ToldValueAtP      who checks without tables and is told the value of f believes as much, and is never told that a true claim is false
--   StepsBelievedAtP  so does who checks in steps, where the checker would refuse nothing
--   NoneExactlyAtP    with no variables the true claim is accepted, and no other
--   ReadBackAtP       what is read is the file of its parts, and a file of parts that may be filed is read into any list with room
--   OneContentAtP     no two contents share a file
--   ReadIntoAtP       a file that is read into a list of the exact length leaves its coefficients there, and nothing else
use Rattle.std.specs.Prelude.{◌≡◌, ◌↔◌, List, [], ℕ, suc, ◌+◌, ◌*◌, ◌%◌, ◌≤◌, ◌<◌, length, take, drop, get_or}
use Rattle.refusals.specs.First.{Answer, refused, given, first}
use Rattle.polynomial.specs.Elements.{Every, Elements, Distinct}
use Rattle.polynomial.specs.Polynomial.{value}
use Rattle.sumcheck.specs.Function.{f, true_sum}
use Rattle.sumcheck.specs.TruePolynomial.{true_polynomials}
use Rattle.sumcheck.specs.Meaning.{total}
use Rattle.sumcheck.specs.Protocol.{reached, Verdict, accepted, rejected}
use Rattle.sumcheck.specs.Lent.{join, messages_length, tables_of, messages_of}
use Rattle.sumcheck.specs.Entries.{sum_answer, value_rules, prover_answer, messages_after, scratch_after, checker_rules, checker_answer, rounds_answer}
use Rattle.sumcheck.specs.Checker.{claim_after, SumsAgree, Fails}
use Rattle.sumcheck.specs.Steps.{State, fresh, step, closing}
use Rattle.sumcheck.specs.Sequences.{end_of, inputs_of}
use Rattle.layout.specs.Reading.{file, refused_at}
use Rattle.layout.specs.File.{file_of, FileParts}
use Rattle.narrow_field.specs.Narrow.{p}
use Rattle.narrow_file.specs.Narrow.{narrow, read_answer, after}
use Rattle.demands.specs.Demands.{message_at, polynomial_at, LuckyAtP}

-- the reason for each answer of the checker
abbrev pub Reason : (vars degree : ℕ) (tables : List ℕ) (claim : ℕ) (challenges messages : List ℕ) → Answer Verdict → Type 0
Reason vars degree tables claim challenges messages (refused number) =
    (first (checker_rules p vars degree tables claim challenges messages) ≡ number) × (number ≡ 0 → ⊥)
Reason vars degree tables claim challenges messages (given accepted) =
    (first (checker_rules p vars degree tables claim challenges messages) ≡ 0)
    × (SumsAgree p claim challenges (messages_of vars degree messages) vars
    × (claim_after p claim challenges (messages_of vars degree messages) vars ≡ f p (tables_of vars degree tables) challenges))
Reason vars degree tables claim challenges messages (given (rejected round)) =
    (first (checker_rules p vars degree tables claim challenges messages) ≡ 0)
    × Fails p vars (f p (tables_of vars degree tables) challenges) claim challenges (messages_of vars degree messages) round

unfoldable pub EveryAnswerAtP : Type 0
EveryAnswerAtP = (vars degree : ℕ) (tables : List ℕ) (claim : ℕ) (challenges messages : List ℕ) (a : Answer Verdict)
    → (checker_answer p vars degree tables claim challenges messages ≡ a) ↔ Reason vars degree tables claim challenges messages a

unfoldable pub SettledAtP : Type 0
SettledAtP = (vars degree : ℕ) (tables : List ℕ) (claim : ℕ) (challenges messages : List ℕ)
    → (a : Answer Verdict) × Reason vars degree tables claim challenges messages a
    × ((b : Answer Verdict) → Reason vars degree tables claim challenges messages b → b ≡ a)

-- no message that differs from its round's true polynomial agrees with it at the round's challenge
abbrev pub Unlucky : ℕ → ℕ → List ℕ → List ℕ → List ℕ → Type 0
Unlucky vars degree tables challenges messages = (j : ℕ) → j < vars → (message_at vars degree messages j ≡ polynomial_at vars degree tables challenges j → ⊥)
    → value p (message_at vars degree messages j) (get_or challenges j 0) ≡ value p (polynomial_at vars degree tables challenges j) (get_or challenges j 0) → ⊥

unfoldable pub BelievedAtP : Type 0
BelievedAtP = (vars degree : ℕ) (tables : List ℕ) (claim : ℕ) (challenges messages : List ℕ)
    → checker_answer p vars degree tables claim challenges messages ≡ given accepted → Unlucky vars degree tables challenges messages
    → claim ≡ true_sum p (tables_of vars degree tables) vars

unfoldable pub NeverMoreAtP : Type 0
NeverMoreAtP = (vars degree : ℕ) (tables challenges messages : List ℕ) (j : ℕ) → LuckyAtP vars degree tables challenges messages j
    → (xs : List ℕ) → length xs ≡ suc degree → Elements p xs → Distinct xs
    → Every (λ (x : ℕ). value p (message_at vars degree messages j) x ≡ value p (polynomial_at vars degree tables challenges j) x) xs → ⊥

unfoldable pub LedgerAtP : Type 0
LedgerAtP = (vars : ℕ) (table : List ℕ) (claim : ℕ) (challenges messages : List ℕ)
    → checker_answer p vars 1 table claim challenges messages ≡ given accepted → Unlucky vars 1 table challenges messages
    → (claim ≡ total table % p) × (total table < p → claim ≡ total table)

unfoldable pub HonestExactlyAtP : Type 0
HonestExactlyAtP = (vars degree : ℕ) (tables : List ℕ) (claim : ℕ) (challenges : List ℕ) → first (value_rules p vars degree tables challenges) ≡ 0
    → (checker_answer p vars degree tables claim challenges (join (true_polynomials p (tables_of vars degree tables) challenges)) ≡ given accepted)
    ↔ (claim ≡ true_sum p (tables_of vars degree tables) vars)

unfoldable pub EndToEndAtP : Type 0
EndToEndAtP = (vars degree : ℕ) (tables challenges messages scratch : List ℕ) (c : ℕ)
    → sum_answer p vars degree tables ≡ given c → prover_answer p vars degree tables challenges messages scratch ≡ given tt
    → length messages ≡ messages_length vars degree
    → checker_answer p vars degree tables c challenges (messages_after p vars degree tables challenges messages scratch) ≡ given accepted

unfoldable pub RoundsAlikeAtP : Type 0
RoundsAlikeAtP = (vars degree : ℕ) (tables challenges others messages scratch : List ℕ)
    → prover_answer p vars degree tables challenges messages scratch ≡ given tt → prover_answer p vars degree tables others messages scratch ≡ given tt →
    let left = messages_after p vars degree tables challenges messages scratch in
    let right = messages_after p vars degree tables others messages scratch in
    ((j : ℕ) → j < vars → take j challenges ≡ take j others → message_at vars degree left j ≡ message_at vars degree right j)
    × (drop (messages_length vars degree) left ≡ drop (messages_length vars degree) right)
    × (scratch_after p vars degree tables challenges messages scratch ≡ scratch_after p vars degree tables others messages scratch)

pub record AskedAgainAtP : Type 0 where
  pub prover : (vars degree : ℕ) (tables challenges messages scratch : List ℕ) (number : ℕ)
      → prover_answer p vars degree tables challenges messages scratch ≡ refused number
      → prover_answer p vars degree tables challenges (messages_after p vars degree tables challenges messages scratch)
      (scratch_after p vars degree tables challenges messages scratch)
      ≡ refused number
  pub reader : (bytes list : List ℕ) (number line : ℕ) → read_answer bytes (length list) ≡ refused_at number line
      → read_answer bytes (length (after (read_answer bytes (length list)) list)) ≡ refused_at number line
  pub stepper : (s : State) (message : List ℕ) (challenge number : ℕ) → (step p s message challenge).outcome ≡ refused number
      → (step p (step p s message challenge).state message challenge).outcome ≡ refused number

pub record ToldValueAtP : Type 0 where
  pub believed : (vars degree : ℕ) (tables : List ℕ) (claim : ℕ) (challenges messages : List ℕ) (v : ℕ)
      → first (value_rules p vars degree tables challenges) ≡ 0
      → rounds_answer p vars degree claim challenges messages ≡ given (reached v) → v ≡ f p (tables_of vars degree tables) challenges
      → Unlucky vars degree tables challenges messages → claim ≡ true_sum p (tables_of vars degree tables) vars
  pub honest : (vars degree : ℕ) (tables challenges : List ℕ) → first (value_rules p vars degree tables challenges) ≡ 0 →
      let ts = tables_of vars degree tables in
      rounds_answer p vars degree (true_sum p ts vars) challenges (join (true_polynomials p ts challenges)) ≡ given (reached (f p ts challenges))

unfoldable pub StepsBelievedAtP : Type 0
StepsBelievedAtP = (vars degree : ℕ) (tables : List ℕ) (claim : ℕ) (challenges messages : List ℕ)
    → first (checker_rules p vars degree tables claim challenges messages) ≡ 0
    → (closing p (end_of p (fresh vars degree claim) (inputs_of challenges (messages_of vars degree messages)))
    (f p (tables_of vars degree tables) challenges)).outcome
    ≡ given accepted
    → Unlucky vars degree tables challenges messages → claim ≡ true_sum p (tables_of vars degree tables) vars

unfoldable pub NoneExactlyAtP : Type 0
NoneExactlyAtP = (degree : ℕ) (tables : List ℕ) (claim : ℕ)
    → (checker_answer p 0 degree tables claim [] [] ≡ given accepted)
    ↔ ((first (checker_rules p 0 degree tables claim [] []) ≡ 0) × (claim ≡ true_sum p (tables_of 0 degree tables) 0))

unfoldable pub ReadBackAtP : Type 0
ReadBackAtP = (vars degree claim : ℕ) (messages : List ℕ)
    → ((bytes : List ℕ) (places : ℕ) → read_answer bytes places ≡ file vars degree claim messages → file_of narrow vars degree claim messages ≡ bytes)
    × (FileParts narrow vars degree claim messages → (places : ℕ) → vars * (degree + 1) ≤ places
    → read_answer (file_of narrow vars degree claim messages) places ≡ file vars degree claim messages)

unfoldable pub OneContentAtP : Type 0
OneContentAtP = (v w d e c b : ℕ) (ms ns : List ℕ) → FileParts narrow v d c ms → FileParts narrow w e b ns
    → file_of narrow v d c ms ≡ file_of narrow w e b ns → file v d c ms ≡ file w e b ns

unfoldable pub ReadIntoAtP : Type 0
ReadIntoAtP = (vars degree claim : ℕ) (messages bytes list : List ℕ) → read_answer bytes (length list) ≡ file vars degree claim messages
    → length list ≡ vars * (degree + 1) → after (read_answer bytes (length list)) list ≡ messages
