-- Demands 1 to 3 of the library's own answers (docs/SPECIFICATION.md, "The demands"), with the modulus put in: p = 2147483647. Proofs: proofs/Demands.
-- The promises of crates/sendurafi/src say that the library answers `checker_answer p ..`, leaves `messages_after p ..`, and so on. So what is said
-- of these here is said of the library. Tables, challenges and messages are lists of any numbers and of any length.
--   Demand 1, every input gets its answer
--     RefusesFirstAtP    the checker refuses with a number exactly when that is the first refusal, in the document's order, whose test holds
--     ProverKeepsAtP     a refused prover leaves the message list and scratch as they were
--     ReaderKeepsAtP     a refused reader leaves the message list as it was
--   Demand 2, the answers are the protocol's
--     ProverWritesAtP    a prover that is not refused leaves the true polynomials round by round and the rest of the list as it was; the first k·2^m
--                        places of scratch are 0, and its rest is as it was
--     AcceptsExactlyAtP  the checker accepts exactly when nothing is refused, every sum agrees and the final value agrees
--     RejectsFirstAtP    it rejects with a round exactly when nothing is refused and that is the first that fails
--     WithoutTablesAtP   the checker without tables gives the value of f exactly when the checker with tables accepts
--     ReadsExactlyAtP    the reader takes exactly the files of the layout, where the list has room
--     ReaderWritesAtP    a reader that takes a file leaves its coefficients, and the rest of the list as it was
--   Demand 3, soundness
--     CompleteAtP        a true claim is accepted with the true polynomials, whatever the challenges, if tables and challenges are not refused
--     ProverAcceptedAtP  and with the messages that a prover which is not refused leaves in a list of the exact length
--     SoundAtP           a false claim that is accepted had a lucky round, which at most degree challenges could make
--     CertainAtP         with no variables a false claim is never accepted
use Rattle.std.specs.Prelude.{◌≡◌, ◌↔◌, List, [], ◌++◌, ℕ, suc, ◌+◌, ◌-◌, ◌*◌, ◌≤◌, ◌<◌, length, take, drop, get_or, replicate}
use Rattle.refusals.specs.First.{refused, given, first}
use Rattle.polynomial.specs.Elements.{Every, Elements, Distinct}
use Rattle.polynomial.specs.Polynomial.{value}
use Rattle.sumcheck.specs.Function.{f, true_sum}
use Rattle.sumcheck.specs.TruePolynomial.{true_polynomial, true_polynomials}
use Rattle.sumcheck.specs.Protocol.{reached, accepted, rejected}
use Rattle.sumcheck.specs.Lent.{join, tables_length, messages_length, tables_of, messages_of}
use Rattle.sumcheck.specs.Entries.{value_rules, prover_answer, messages_after, scratch_after, checker_rules, checker_answer, rounds_answer}
use Rattle.sumcheck.specs.Checker.{claim_after, SumsAgree, Fails}
use Rattle.layout.specs.Reading.{file, refused_at}
use Rattle.layout.specs.File.{file_of, FileParts}
use Rattle.narrow_field.specs.Narrow.{p}
use Rattle.narrow_file.specs.Narrow.{narrow, read_answer, after}

-- Demand 1

unfoldable pub RefusesFirstAtP : Type 0
RefusesFirstAtP = (vars degree : ℕ) (tables : List ℕ) (claim : ℕ) (challenges messages : List ℕ) (number : ℕ)
    → (checker_answer p vars degree tables claim challenges messages ≡ refused number)
    ↔ ((first (checker_rules p vars degree tables claim challenges messages) ≡ number) × (number ≡ 0 → ⊥))

unfoldable pub ProverKeepsAtP : Type 0
ProverKeepsAtP = (vars degree : ℕ) (tables challenges messages scratch : List ℕ) (number : ℕ)
    → prover_answer p vars degree tables challenges messages scratch ≡ refused number
    → (messages_after p vars degree tables challenges messages scratch ≡ messages)
    × (scratch_after p vars degree tables challenges messages scratch ≡ scratch)

unfoldable pub ReaderKeepsAtP : Type 0
ReaderKeepsAtP = (bytes messages : List ℕ) (number line : ℕ) → read_answer bytes (length messages) ≡ refused_at number line
    → after (read_answer bytes (length messages)) messages ≡ messages

-- Demand 2

-- the message of round j, counted from 0, that a list holds, and the round's true polynomial, which challenge j and later ones have no part in
abbrev pub message_at : ℕ → ℕ → List ℕ → ℕ → List ℕ
message_at vars degree messages j = get_or (messages_of vars degree messages) j []

abbrev pub polynomial_at : ℕ → ℕ → List ℕ → List ℕ → ℕ → List ℕ
polynomial_at vars degree tables challenges j = true_polynomial p (tables_of vars degree tables) (take j challenges) (vars - suc j)

unfoldable pub ProverWritesAtP : Type 0
ProverWritesAtP = (vars degree : ℕ) (tables challenges messages scratch : List ℕ)
    → prover_answer p vars degree tables challenges messages scratch ≡ given tt →
    let left = messages_after p vars degree tables challenges messages scratch in
    ((j : ℕ) → j < vars → message_at vars degree left j ≡ polynomial_at vars degree tables challenges j)
    × (drop (messages_length vars degree) left ≡ drop (messages_length vars degree) messages)
    × (scratch_after p vars degree tables challenges messages scratch ≡ replicate (tables_length vars degree) 0 ++ drop (tables_length vars degree) scratch)

unfoldable pub AcceptsExactlyAtP : Type 0
AcceptsExactlyAtP = (vars degree : ℕ) (tables : List ℕ) (claim : ℕ) (challenges messages : List ℕ)
    → (checker_answer p vars degree tables claim challenges messages ≡ given accepted)
    ↔ ((first (checker_rules p vars degree tables claim challenges messages) ≡ 0)
    × (SumsAgree p claim challenges (messages_of vars degree messages) vars
    × (claim_after p claim challenges (messages_of vars degree messages) vars ≡ f p (tables_of vars degree tables) challenges)))

unfoldable pub RejectsFirstAtP : Type 0
RejectsFirstAtP = (vars degree : ℕ) (tables : List ℕ) (claim : ℕ) (challenges messages : List ℕ) (round : ℕ)
    → (checker_answer p vars degree tables claim challenges messages ≡ given (rejected round))
    ↔ ((first (checker_rules p vars degree tables claim challenges messages) ≡ 0)
    × Fails p vars (f p (tables_of vars degree tables) challenges) claim challenges (messages_of vars degree messages) round)

unfoldable pub WithoutTablesAtP : Type 0
WithoutTablesAtP = (vars degree : ℕ) (tables : List ℕ) (claim : ℕ) (challenges messages : List ℕ)
    → first (value_rules p vars degree tables challenges) ≡ 0
    → (rounds_answer p vars degree claim challenges messages ≡ given (reached (f p (tables_of vars degree tables) challenges)))
    ↔ (checker_answer p vars degree tables claim challenges messages ≡ given accepted)

-- for a lent list of so many places
unfoldable pub ReadsExactlyAtP : Type 0
ReadsExactlyAtP = (vars degree claim : ℕ) (messages bytes : List ℕ) (places : ℕ)
    → (read_answer bytes places ≡ file vars degree claim messages)
    ↔ ((bytes ≡ file_of narrow vars degree claim messages) × FileParts narrow vars degree claim messages × (vars * (degree + 1) ≤ places))

unfoldable pub ReaderWritesAtP : Type 0
ReaderWritesAtP = (vars degree claim : ℕ) (messages bytes list : List ℕ) → read_answer bytes (length list) ≡ file vars degree claim messages
    → after (read_answer bytes (length list)) list ≡ messages ++ drop (vars * (degree + 1)) list

-- Demand 3

unfoldable pub CompleteAtP : Type 0
CompleteAtP = (vars degree : ℕ) (tables challenges : List ℕ) → first (value_rules p vars degree tables challenges) ≡ 0
    → checker_answer p vars degree tables (true_sum p (tables_of vars degree tables) vars) challenges
    (join (true_polynomials p (tables_of vars degree tables) challenges))
    ≡ given accepted

unfoldable pub ProverAcceptedAtP : Type 0
ProverAcceptedAtP = (vars degree : ℕ) (tables challenges messages scratch : List ℕ)
    → prover_answer p vars degree tables challenges messages scratch ≡ given tt → length messages ≡ messages_length vars degree
    → checker_answer p vars degree tables (true_sum p (tables_of vars degree tables) vars) challenges
    (messages_after p vars degree tables challenges messages scratch)
    ≡ given accepted

-- round j, counted from 0, was lucky: its message differs from the round's true polynomial and agrees with it at the round's challenge; and of
-- different elements at which the two agree there are at most degree
pub record LuckyAtP (vars degree : ℕ) (tables challenges messages : List ℕ) (j : ℕ) : Type 0 where
  pub round : j < vars
  pub differs : message_at vars degree messages j ≡ polynomial_at vars degree tables challenges j → ⊥
  pub agrees : value p (message_at vars degree messages j) (get_or challenges j 0) ≡ value p (polynomial_at vars degree tables challenges j)
      (get_or challenges j 0)
  pub few : (xs : List ℕ) → Elements p xs → Distinct xs
      → Every (λ (x : ℕ). value p (message_at vars degree messages j) x ≡ value p (polynomial_at vars degree tables challenges j) x) xs
      → length xs ≤ degree

unfoldable pub SoundAtP : Type 0
SoundAtP = (vars degree : ℕ) (tables : List ℕ) (claim : ℕ) (challenges messages : List ℕ)
    → checker_answer p vars degree tables claim challenges messages ≡ given accepted → (claim ≡ true_sum p (tables_of vars degree tables) vars → ⊥)
    → (j : ℕ) × LuckyAtP vars degree tables challenges messages j

unfoldable pub CertainAtP : Type 0
CertainAtP = (degree : ℕ) (tables : List ℕ) (claim : ℕ) (challenges messages : List ℕ)
    → checker_answer p 0 degree tables claim challenges messages ≡ given accepted → claim ≡ true_sum p (tables_of 0 degree tables) 0
