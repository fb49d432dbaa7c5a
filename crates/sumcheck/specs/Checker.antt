-- What is demanded of the checker's own answer, refusals among it, as statements. Their proofs are in proofs/Checker.
--   AcceptsExactly   it accepts exactly when nothing is refused, every sum agrees and the final value agrees
--   RejectsFirst     it rejects with a round exactly when that is the first that fails
--   RefusesFirst     it refuses with a number exactly when that is the first refusal of document 01's order whose test holds
--   AnswerSound      a false claim that it accepts had a lucky round (demand 3)
--   AnswerComplete   a true claim is accepted with the true polynomials (demand 3)
--   ProverAccepted   the messages that the prover leaves in a list of the exact length are accepted
--   AnswerCertain    with no variables it accepts true claims only
--   WithoutTables    the checker without tables gives the value of f exactly when the checker with tables accepts
use Rattle.std.specs.Prelude.{◌≡◌, ◌↔◌, List, [], ℕ, zero, suc, ◌<◌, length, get_or}
use Rattle.arithmetic.specs.Modulo.{add}
use Rattle.arithmetic.specs.Prime.{Prime}
use Rattle.polynomial.specs.Polynomial.{value}
use Rattle.refusals.specs.First.{refused, given, first}
use Rattle.sumcheck.specs.Function.{f, true_sum}
use Rattle.sumcheck.specs.TruePolynomial.{true_polynomials}
use Rattle.sumcheck.specs.Protocol.{reached, accepted, rejected}
use Rattle.sumcheck.specs.Lent.{join, messages_length, tables_of, messages_of}
use Rattle.sumcheck.specs.Entries.{value_rules, prover_rules, messages_after, checker_rules, checker_answer, rounds_answer}
use Rattle.sumcheck.specs.Demands.{Lucky}

-- c0 is the claim, and cj is the message of round j at its challenge (document 01, "What is offered"); rounds stand at places from 0
abbrev pub claim_after : ℕ → ℕ → List ℕ → List (List ℕ) → ℕ → ℕ
claim_after n claim challenges messages zero = claim
claim_after n claim challenges messages (suc j) = value n (get_or messages j []) (get_or challenges j 0)

-- the sum of the round at place j agrees: s(0) + s(1) is the running claim
abbrev pub SumAgrees : ℕ → ℕ → List ℕ → List (List ℕ) → ℕ → Type 0
SumAgrees n claim challenges messages j =
    add n (value n (get_or messages j []) 0) (value n (get_or messages j []) 1) ≡ claim_after n claim challenges messages j

-- the sums of the first so many rounds agree
abbrev pub SumsAgree : ℕ → ℕ → List ℕ → List (List ℕ) → ℕ → Type 0
SumsAgree n claim challenges messages count = (j : ℕ) → j < count → SumAgrees n claim challenges messages j

-- round is the first that fails, of m rounds with v for the value of f: a sum, after sums that agree; or the final check, reported as round m
pub data Fails (n : ℕ) (m v claim : ℕ) (challenges : List ℕ) (messages : List (List ℕ)) : ℕ → Type 0 where
  at_sum : (j : ℕ) → j < m → SumsAgree n claim challenges messages j → (SumAgrees n claim challenges messages j → ⊥)
      → Fails n m v claim challenges messages (suc j)
  at_final : SumsAgree n claim challenges messages m → (claim_after n claim challenges messages m ≡ v → ⊥) → Fails n m v claim challenges messages m

unfoldable pub AcceptsExactly : Type 0
AcceptsExactly = (n vars degree : ℕ) (tables : List ℕ) (claim : ℕ) (challenges messages : List ℕ)
    → (checker_answer n vars degree tables claim challenges messages ≡ given accepted)
    ↔ ((first (checker_rules n vars degree tables claim challenges messages) ≡ 0)
    × (SumsAgree n claim challenges (messages_of vars degree messages) vars
    × (claim_after n claim challenges (messages_of vars degree messages) vars ≡ f n (tables_of vars degree tables) challenges)))

unfoldable pub RejectsFirst : Type 0
RejectsFirst = (n vars degree : ℕ) (tables : List ℕ) (claim : ℕ) (challenges messages : List ℕ) (round : ℕ)
    → (checker_answer n vars degree tables claim challenges messages ≡ given (rejected round))
    ↔ ((first (checker_rules n vars degree tables claim challenges messages) ≡ 0)
    × Fails n vars (f n (tables_of vars degree tables) challenges) claim challenges (messages_of vars degree messages) round)

unfoldable pub RefusesFirst : Type 0
RefusesFirst = (n vars degree : ℕ) (tables : List ℕ) (claim : ℕ) (challenges messages : List ℕ) (number : ℕ)
    → (checker_answer n vars degree tables claim challenges messages ≡ refused number)
    ↔ ((first (checker_rules n vars degree tables claim challenges messages) ≡ number) × (number ≡ 0 → ⊥))

unfoldable pub AnswerSound : Type 0
AnswerSound = (n : ℕ) → Prime n → (vars degree : ℕ) (tables : List ℕ) (claim : ℕ) (challenges messages : List ℕ)
    → checker_answer n vars degree tables claim challenges messages ≡ given accepted → (claim ≡ true_sum n (tables_of vars degree tables) vars → ⊥)
    → (j : ℕ) × Lucky n (tables_of vars degree tables) challenges (messages_of vars degree messages) j

-- tables and challenges that are not refused, as for the value of f there
abbrev pub WellLent : ℕ → ℕ → ℕ → List ℕ → List ℕ → Type 0
WellLent n vars degree tables challenges = first (value_rules n vars degree tables challenges) ≡ 0

unfoldable pub AnswerComplete : Type 0
AnswerComplete = (n : ℕ) → 0 < n → (vars degree : ℕ) (tables challenges : List ℕ) → WellLent n vars degree tables challenges
    → checker_answer n vars degree tables (true_sum n (tables_of vars degree tables) vars) challenges
    (join (true_polynomials n (tables_of vars degree tables) challenges))
    ≡ given accepted

unfoldable pub ProverAccepted : Type 0
ProverAccepted = (n : ℕ) → 0 < n → (vars degree : ℕ) (tables challenges messages scratch : List ℕ)
    → first (prover_rules n vars degree tables challenges messages scratch) ≡ 0 → length messages ≡ messages_length vars degree
    → checker_answer n vars degree tables (true_sum n (tables_of vars degree tables) vars) challenges
    (messages_after n vars degree tables challenges messages scratch)
    ≡ given accepted

unfoldable pub AnswerCertain : Type 0
AnswerCertain = (n degree : ℕ) (tables : List ℕ) (claim : ℕ) (challenges messages : List ℕ)
    → checker_answer n 0 degree tables claim challenges messages ≡ given accepted → claim ≡ true_sum n (tables_of 0 degree tables) 0

-- so whoever is told the value of f by a source that they trust has demands 2 and 3 too
unfoldable pub WithoutTables : Type 0
WithoutTables = (n vars degree : ℕ) (tables : List ℕ) (claim : ℕ) (challenges messages : List ℕ) → WellLent n vars degree tables challenges
    → (rounds_answer n vars degree claim challenges messages ≡ given (reached (f n (tables_of vars degree tables) challenges)))
    ↔ (checker_answer n vars degree tables claim challenges messages ≡ given accepted)
