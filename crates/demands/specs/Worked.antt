-- The demands and what follows from them in numbers that can be worked out by hand (docs/SPECIFICATION.md, "Sums done by hand"). Proofs: proofs/Worked.
-- Each line is proved from the statement that its comment names, so that a statement that says less breaks its line.
use Rattle.std.specs.Prelude.{◌≡◌, true, List, [], ◌∷◌, ◌++◌, ℕ, length, drop, replicate}
use Rattle.refusals.specs.First.{Answer, refused, given, first}
use Rattle.polynomial.specs.Elements.{Every, Elements, Distinct}
use Rattle.polynomial.specs.Polynomial.{value}
use Rattle.sumcheck.specs.TruePolynomial.{true_polynomial, true_polynomials}
use Rattle.sumcheck.specs.Protocol.{reached, Verdict, accepted, rejected}
use Rattle.sumcheck.specs.Lent.{join, tables_of, messages_of}
use Rattle.sumcheck.specs.Entries.{prover_answer, messages_after, scratch_after, checker_rules, checker_answer, rounds_answer}
use Rattle.sumcheck.specs.Function.{f}
use Rattle.sumcheck.specs.Steps.{State, fresh, fitted, rejects, opening, step, closing}
use Rattle.sumcheck.specs.Sequences.{Input, end_of, outcomes_of, givens, inputs_of, rounds_by}
use Rattle.layout.specs.Reading.{file}
use Rattle.layout.specs.File.{file_of, FileParts}
use Rattle.narrow_field.specs.Narrow.{p}
use Rattle.narrow_file.specs.Narrow.{narrow, read_answer, after}
use Rattle.narrow_file.specs.Example.{whole_file}
use Rattle.demands.specs.Demands.{message_at, LuckyAtP}
use Rattle.demands.specs.Follows.{Reason, Unlucky}

-- the tables 3, 4, 1, 2 and 0, 1, 2, 0, and a table of ones
abbrev pub t : List ℕ
t = 3 ∷ 4 ∷ 1 ∷ 2 ∷ []

abbrev pub u : List ℕ
u = 0 ∷ 1 ∷ 2 ∷ 0 ∷ []

abbrev pub ones : List ℕ
ones = 1 ∷ 1 ∷ 1 ∷ 1 ∷ []

-- the messages of P9, and those of P10 and P11, where the claim is 11 and the true sum 10
abbrev pub proof : List ℕ
proof = 4 ∷ 0 ∷ 2147483645 ∷ 2147483629 ∷ 30 ∷ 2147483639 ∷ []

abbrev pub lie : List ℕ
lie = 7 ∷ 2147483644 ∷ 3 ∷ 1 ∷ []

-- round 1 of tables of two variables: a message that is not the true polynomial and agrees with it at as many different elements as there are tables
pub record Meets (tables : List (List ℕ)) (message points : List ℕ) : Type 0 where
  pub many : length points ≡ length tables
  pub elements : Elements p points
  pub distinct : Distinct points
  pub differs : message ≡ true_polynomial p tables [] 1 → ⊥
  pub agree : Every (λ (x : ℕ). value p message x ≡ value p (true_polynomial p tables [] 1) x) points

-- so the count of SoundAtP could not be smaller, for any degree that is allowed
pub record CountIsMet : Type 0 where
  pub one : Meets (t ∷ []) (7 ∷ 2147483644 ∷ []) (0 ∷ [])
  pub two : Meets (u ∷ t ∷ []) (4 ∷ 2147483646 ∷ 2147483646 ∷ []) (0 ∷ 1 ∷ [])
  pub three : Meets (u ∷ t ∷ ones ∷ []) (4 ∷ 2 ∷ 2147483642 ∷ 1 ∷ []) (0 ∷ 1 ∷ 2 ∷ [])

-- the prover on P7's tables with challenges 3, 1, a message list with one place more, and so much scratch
abbrev pub left_of : List ℕ → List ℕ
left_of scratch = messages_after p 2 2 (u ++ t) (3 ∷ 1 ∷ []) (5 ∷ 5 ∷ 5 ∷ 5 ∷ 5 ∷ 5 ∷ 5 ∷ []) scratch

abbrev pub cleared_of : List ℕ → List ℕ
cleared_of scratch = scratch_after p 2 2 (u ++ t) (3 ∷ 1 ∷ []) (5 ∷ 5 ∷ 5 ∷ 5 ∷ 5 ∷ 5 ∷ 5 ∷ []) scratch

-- P11 in steps: a message that is too short is refused, round 1 fits, round 2 rejects
abbrev pub p11 : List Input
p11 =
    record { message = 7 ∷ []; challenge = 5 }
    ∷ record { message = 7 ∷ 2147483644 ∷ []; challenge = 5 }
    ∷ record { message = 3 ∷ 1 ∷ []; challenge = 9 }
    ∷ []

-- a state of two variables with three rounds taken
abbrev pub forged_state : State
forged_state = record { vars = 2; degree = 1; taken = 3; claim = 11; mark = true }

pub record Worked : Type 0 where
  -- SettledAtP: P11 has one answer with a reason, round 2; P12 with claim 36 has one, round 0
  pub p11_settled : (b : Answer Verdict) → Reason 2 1 t 11 (5 ∷ 9 ∷ []) lie b → b ≡ given (rejected 2)
  pub p12_settled : (b : Answer Verdict) → Reason 0 2 (5 ∷ 7 ∷ []) 36 [] [] b → b ≡ given (rejected 0)
  -- LedgerAtP: a claim for the ledger 3, 4, 1, 2 that is accepted is 10, or a round was lucky
  pub ledger : (claim : ℕ) (challenges messages : List ℕ) → checker_answer p 2 1 t claim challenges messages ≡ given accepted
      → Unlucky 2 1 t challenges messages → claim ≡ 10
  -- P10's round 1 was lucky, with challenge 0. NeverMoreAtP: so it would not have been with 5
  pub lucky : LuckyAtP 2 1 t (0 ∷ 9 ∷ []) lie 0
  pub not_both : value p (7 ∷ 2147483644 ∷ []) 5 ≡ value p (true_polynomial p (t ∷ []) [] 1) 5 → ⊥
  -- HonestExactlyAtP: P9's tables with the true polynomials, claims 6 and 7
  pub six : checker_answer p 2 2 (u ++ t) 6 (3 ∷ 1 ∷ []) (join (true_polynomials p (tables_of 2 2 (u ++ t)) (3 ∷ 1 ∷ []))) ≡ given accepted
  pub seven : checker_answer p 2 2 (u ++ t) 7 (3 ∷ 1 ∷ []) (join (true_polynomials p (tables_of 2 2 (u ++ t)) (3 ∷ 1 ∷ []))) ≡ given accepted → ⊥
  -- EndToEndAtP: the true sum 6 with the prover's messages
  pub proved : (a b c d e g : ℕ) →
      let left = messages_after p 2 2 (u ++ t) (3 ∷ 1 ∷ []) (a ∷ b ∷ c ∷ d ∷ e ∷ g ∷ []) (replicate 8 6) in
      checker_answer p 2 2 (u ++ t) 6 (3 ∷ 1 ∷ []) left ≡ given accepted
  -- ProverWritesAtP: P7 and P8; what is behind the proof, and scratch with one place more than needed
  pub first_round : message_at 2 2 (left_of (replicate 9 6)) 0 ≡ 4 ∷ 0 ∷ 2147483645 ∷ []
  pub second_round : message_at 2 2 (left_of (replicate 9 6)) 1 ≡ 2147483629 ∷ 30 ∷ 2147483639 ∷ []
  pub behind : drop 6 (left_of (replicate 9 6)) ≡ 5 ∷ []
  pub cleared : cleared_of (replicate 9 6) ≡ replicate 8 0 ++ 6 ∷ []
  -- ProverKeepsAtP: scratch one place too short
  pub kept_messages : left_of (replicate 7 6) ≡ replicate 7 5
  pub kept_scratch : cleared_of (replicate 7 6) ≡ replicate 7 6
  -- ReaderWritesAtP: the document's file into a list with one place more
  pub read_into : after (read_answer whole_file 7) (replicate 7 5) ≡ proof ++ 5 ∷ []
  -- ReadIntoAtP: and into one of the exact length
  pub read_exactly : after (read_answer whole_file 6) (replicate 6 5) ≡ proof
  -- ReaderKeepsAtP: the empty file, and any list
  pub kept_list : (list : List ℕ) → after (read_answer [] (length list)) list ≡ list
  -- ToldValueAtP: P9 without tables, told the value 4
  pub told : rounds_answer p 2 2 6 (3 ∷ 1 ∷ []) (join (true_polynomials p (tables_of 2 2 (u ++ t)) (3 ∷ 1 ∷ []))) ≡ given (reached 4)
  -- RoundsAlikeAtP: P7's round 1 is the same with challenges 8, 9
  pub alike : message_at 2 2 (left_of (replicate 9 6)) 0
      ≡ message_at 2 2 (messages_after p 2 2 (u ++ t) (8 ∷ 9 ∷ []) (5 ∷ 5 ∷ 5 ∷ 5 ∷ 5 ∷ 5 ∷ 5 ∷ []) (replicate 9 6)) 0
  -- AskedAgainAtP: scratch one place too short, asked again with what was left
  pub again : prover_answer p 2 2 (u ++ t) (3 ∷ 1 ∷ []) (left_of (replicate 7 6)) (cleared_of (replicate 7 6)) ≡ refused 4
  -- NoneExactlyAtP: P12
  pub thirty_five : checker_answer p 0 2 (5 ∷ 7 ∷ []) 35 [] [] ≡ given accepted
  pub thirty_six : checker_answer p 0 2 (5 ∷ 7 ∷ []) 36 [] [] ≡ given accepted → ⊥
  -- ReadBackAtP and OneContentAtP: the document's file is that of P9, and of no other content
  pub written : file_of narrow 2 2 6 proof ≡ whole_file
  pub no_other : (v d c : ℕ) (ms : List ℕ) → FileParts narrow v d c ms → file_of narrow v d c ms ≡ whole_file → file v d c ms ≡ file 2 2 6 proof

-- the same for the checker in steps
pub record WorkedSteps : Type 0 where
  -- StepsFollowAtP and ClosingFollowsAtP: P11 in steps
  pub stepped : end_of p (fresh 2 1 11) p11 ≡ record { vars = 2; degree = 1; taken = 1; claim = 2147483639; mark = true }
  pub told : givens (outcomes_of p (fresh 2 1 11) p11) ≡ fitted ∷ rejects 2 ∷ []
  pub closed : (v : ℕ) (a : Verdict) → (closing p (end_of p (fresh 2 1 11) p11) v).outcome ≡ given a → a ≡ rejected 2
  -- StepsBelievedAtP: a claim for the ledger 3, 4, 1, 2 that is accepted in steps is 10, or a round was lucky
  pub stepped_ledger : (claim a b c d r s : ℕ) → first (checker_rules p 2 1 t claim (r ∷ s ∷ []) (a ∷ b ∷ c ∷ d ∷ [])) ≡ 0
      → (closing p (end_of p (fresh 2 1 claim) (inputs_of (r ∷ s ∷ []) (messages_of 2 1 (a ∷ b ∷ c ∷ d ∷ [])))) (f p (tables_of 2 1 t) (r ∷ s ∷ []))).outcome
      ≡ given accepted
      → Unlucky 2 1 t (r ∷ s ∷ []) (a ∷ b ∷ c ∷ d ∷ []) → claim ≡ 10
  -- StepsAgreeAtP: P10; RoundsAgreeAtP: P9, last value 4
  pub tenth : (closing p (end_of p (fresh 2 1 11) (inputs_of (0 ∷ 9 ∷ []) (messages_of 2 1 lie))) (f p (tables_of 2 1 t) (0 ∷ 9 ∷ []))).outcome ≡ given accepted
  pub ninth : given (rounds_by (end_of p (fresh 2 2 6) (inputs_of (3 ∷ 1 ∷ []) (messages_of 2 2 proof)))) ≡ given (reached 4)
  -- StepKeepsAtP: a forged state, and any step
  pub kept_state : (message : List ℕ) (challenge : ℕ) → (step p forged_state message challenge).state ≡ forged_state
  -- DoubtedAlikeAtP: 17 variables, refused by 1 when opened, at every step and when closed
  pub doubted_step : (message : List ℕ) (challenge : ℕ) → (step p (opening p 17 1 11).state message challenge).outcome ≡ refused 1
  pub doubted_closing : (v : ℕ) → (closing p (opening p 17 1 11).state v).outcome ≡ refused 1
