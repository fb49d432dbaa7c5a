-- The numbers of specs/Worked: each line from the statement that it is about, what is left being computed. Assumes nothing.
use mathlib.Core.Path.{◌≡◌, refl, sym, ap, ◌∙◌}
use mathlib.Core.Logic.{◌↔◌}
use mathlib.Core.Bool.{true}
use mathlib.Core.List.{List, [], ◌∷◌, ◌++◌}
use Prim.Native.Nat.{ℕ, zero, suc, ◌<◌}
use native.Mathlib.Omega.{arith}
use lib.ListN.{length, drop, get_or, replicate}
use Rattle.arithmetic.specs.Modulo.{pow}
use Rattle.arithmetic.proofs.Mersenne.{prime_31}
use Rattle.refusals.specs.First.{Answer, refused, given, first}
use Rattle.polynomial.specs.Polynomial.{value}
use Rattle.polynomial.proofs.Roots.{agree_few}
use Rattle.sumcheck.specs.Corners.{corners}
use Rattle.sumcheck.specs.Function.{f, true_sum}
use Rattle.sumcheck.specs.TruePolynomial.{true_polynomial, true_polynomials}
use Rattle.sumcheck.specs.Protocol.{reached, Verdict, accepted, rejected}
use Rattle.sumcheck.specs.Lent.{parts, join, tables_of, messages_of}
use Rattle.sumcheck.specs.Entries.{messages_after, checker_rules, checker_answer, rounds_answer}
use Rattle.sumcheck.specs.Checker.{SumAgrees, at_sum, at_final}
use Rattle.sumcheck.specs.Steps.{fresh, fitted, rejects, opening, step, closing}
use Rattle.sumcheck.specs.Sequences.{end_of, outcomes_of, givens, inputs_of, rounds_by}
use Rattle.layout.specs.Number.{decimal, digits}
use Rattle.layout.specs.Line.{line_at, form, numbers_of}
use Rattle.layout.specs.Reading.{file, reading, from_edition, from_field, from_vars, from_degree, from_claim, from_rounds, from_end, lines_at}
use Rattle.layout.specs.File.{file_of, FileParts}
use Rattle.narrow_field.specs.Narrow.{p}
use Rattle.narrow_file.specs.Narrow.{narrow, read_answer, after}
use Rattle.narrow_file.specs.Example.{whole_file}
use Rattle.demands.specs.Demands.{message_at, polynomial_at, LuckyAtP, ProverWritesAtP, ProverKeepsAtP, ReaderKeepsAtP, ReadsExactlyAtP, ReaderWritesAtP}
use Rattle.demands.specs.Follows.{Reason, SettledAtP, Unlucky, NeverMoreAtP, LedgerAtP, HonestExactlyAtP, EndToEndAtP}
use Rattle.demands.specs.Follows.{RoundsAlikeAtP, StepsBelievedAtP, NoneExactlyAtP, ReadBackAtP, OneContentAtP, ReadIntoAtP}
use Rattle.demands.specs.Stepwise.{StepKeepsAtP, DoubtedAlikeAtP, StepsFollowAtP, ClosingFollowsAtP, StepsAgreeAtP, RoundsAgreeAtP}
use Rattle.demands.specs.Worked.{t, u, ones, proof, lie, CountIsMet, left_of, cleared_of, p11, forged_state, Worked, WorkedSteps}
use Rattle.demands.proofs.Demands.{prover_writes_at_p, prover_keeps_at_p, reader_keeps_at_p, reads_exactly_at_p, reader_writes_at_p}
use Rattle.demands.proofs.Follows.{settled_at_p, ledger_at_p, never_more_at_p, honest_exactly_at_p, end_to_end_at_p, none_exactly_at_p, read_back_at_p}
use Rattle.demands.proofs.Follows.{one_content_at_p, read_into_at_p, rounds_alike_at_p, asked_again_at_p, told_value_at_p, steps_believed_at_p}
use Rattle.demands.proofs.Stepwise.{step_keeps_at_p, doubted_alike_at_p, steps_follow_at_p, closing_follows_at_p, steps_agree_at_p, rounds_agree_at_p}

-- lists whose second members differ
apart : (a b : List ℕ) → (get_or a 1 0 ≡ get_or b 1 0 → ⊥) → a ≡ b → ⊥
apart a b h e = h (ap (λ (s : List ℕ). get_or s 1 0) e)

pub count_is_met : CountIsMet
unfolding corners pow
count_is_met =
    record {
      one =
          record {
            many = refl;
            elements = (omega arith, tt);
            distinct = (tt, tt);
            differs = apart (7 ∷ 2147483644 ∷ []) (true_polynomial p (t ∷ []) [] 1) (λ e. omega arith);
            agree = (refl, tt);
          };
      two =
          record {
            many = refl;
            elements = (omega arith, (omega arith, tt));
            distinct = ((λ e. omega arith, tt), (tt, tt));
            differs = apart (4 ∷ 2147483646 ∷ 2147483646 ∷ []) (true_polynomial p (u ∷ t ∷ []) [] 1) (λ e. omega arith);
            agree = (refl, (refl, tt));
          };
      three =
          record {
            many = refl;
            elements = (omega arith, (omega arith, (omega arith, tt)));
            distinct = ((λ e. omega arith, (λ e. omega arith, tt)), ((λ e. omega arith, tt), (tt, tt)));
            differs = apart (4 ∷ 2 ∷ 2147483642 ∷ 1 ∷ []) (true_polynomial p (u ∷ t ∷ ones ∷ []) [] 1) (λ e. omega arith);
            agree = (refl, (refl, (refl, tt)));
          };
    }

-- a claim and the true sum of P9's tables, and of P12's
six_sum : true_sum p (tables_of 2 2 (u ++ t)) 2 ≡ 6
unfolding corners pow parts
six_sum = refl

product-sum : true_sum p (tables_of 0 2 (5 ∷ 7 ∷ [])) 0 ≡ 35
unfolding corners pow parts
product-sum = refl

-- P11: round 1 fits, round 2 fails; P12: the final value is 35
p11_reason : Reason 2 1 t 11 (5 ∷ 9 ∷ []) lie (given (rejected 2))
unfolding corners pow parts
p11_reason = (refl, at_sum 1 (omega arith) fits (λ e. omega (arith, e)))
  where
    fits : (j : ℕ) → j < 1 → SumAgrees p 11 (5 ∷ 9 ∷ []) ((7 ∷ 2147483644 ∷ []) ∷ (3 ∷ 1 ∷ []) ∷ []) j
    fits zero l = refl
    fits (suc j) l = absurd (omega arith)

p12_reason : Reason 0 2 (5 ∷ 7 ∷ []) 36 [] [] (given (rejected 0))
unfolding corners pow parts
p12_reason = (refl, at_final (λ (j : ℕ) (l : j < 0). absurd (omega arith)) (λ e. omega (arith, e)))

-- the one answer whose reason holds
the_answer : (vars degree : ℕ) (tables : List ℕ) (claim : ℕ) (challenges messages : List ℕ) (a : Answer Verdict)
    → Reason vars degree tables claim challenges messages a → (b : Answer Verdict) → Reason vars degree tables claim challenges messages b → b ≡ a
unfolding SettledAtP
the_answer vars degree tables claim challenges messages a r b s =
    let only = (settled_at_p vars degree tables claim challenges messages).2 in
    only b s ∙ sym (only a r)

ledger : (claim : ℕ) (challenges messages : List ℕ) → checker_answer p 2 1 t claim challenges messages ≡ given accepted
    → Unlucky 2 1 t challenges messages → claim ≡ 10
unfolding LedgerAtP
ledger claim challenges messages a none = (ledger_at_p 2 t claim challenges messages a none).1 (omega arith)

-- the message 7 - 3X and the true polynomial 7 - 4X of P10's round 1 agree at one element only
lucky : LuckyAtP 2 1 t (0 ∷ 9 ∷ []) lie 0
unfolding corners pow parts
lucky =
    record {
      round = omega arith;
      differs = other;
      agrees = refl;
      few = λ xs u d a.
          let l = agree_few p prime_31 (7 ∷ 2147483644 ∷ []) (7 ∷ 2147483643 ∷ []) xs refl (omega arith, (omega arith, tt))
          (omega arith, (omega arith, tt)) other u d a in
          omega arith;
    }
  where
    other : ◌≡◌ {A = List ℕ} (7 ∷ 2147483644 ∷ []) (7 ∷ 2147483643 ∷ []) → ⊥
    other = apart (7 ∷ 2147483644 ∷ []) (7 ∷ 2147483643 ∷ []) (λ e. omega arith)

not_both_lem : value p (7 ∷ 2147483644 ∷ []) 5 ≡ value p (true_polynomial p (t ∷ []) [] 1) 5 → ⊥
unfolding NeverMoreAtP corners pow parts
not_both_lem e =
    never_more_at_p 2 1 t (0 ∷ 9 ∷ []) lie 0 lucky (0 ∷ 5 ∷ []) refl (omega arith, (omega arith, tt)) ((λ z. omega arith, tt), (tt, tt)) (lucky.agrees, (e, tt))

-- P9's tables with the true polynomials: a claim that is accepted is 6
honest : (claim : ℕ) → let proofs = join (true_polynomials p (tables_of 2 2 (u ++ t)) (3 ∷ 1 ∷ [])) in
    (checker_answer p 2 2 (u ++ t) claim (3 ∷ 1 ∷ []) proofs ≡ given accepted) ↔ (claim ≡ true_sum p (tables_of 2 2 (u ++ t)) 2)
unfolding HonestExactlyAtP
honest claim = honest_exactly_at_p 2 2 (u ++ t) claim (3 ∷ 1 ∷ []) refl

proved : (a b c d e g : ℕ) →
    let left = messages_after p 2 2 (u ++ t) (3 ∷ 1 ∷ []) (a ∷ b ∷ c ∷ d ∷ e ∷ g ∷ []) (replicate 8 6) in
    checker_answer p 2 2 (u ++ t) 6 (3 ∷ 1 ∷ []) left ≡ given accepted
unfolding EndToEndAtP
proved a b c d e g = end_to_end_at_p 2 2 (u ++ t) (3 ∷ 1 ∷ []) (a ∷ b ∷ c ∷ d ∷ e ∷ g ∷ []) (replicate 8 6) 6 (ap given six_sum) refl refl

-- what the prover leaves of P7's tables where scratch is long enough, and where it is one place too short
abbrev seven_fives : List ℕ
seven_fives = 5 ∷ 5 ∷ 5 ∷ 5 ∷ 5 ∷ 5 ∷ 5 ∷ []

left : (j : ℕ) → j < 2 → message_at 2 2 (left_of (replicate 9 6)) j ≡ polynomial_at 2 2 (u ++ t) (3 ∷ 1 ∷ []) j
unfolding ProverWritesAtP
left = (prover_writes_at_p 2 2 (u ++ t) (3 ∷ 1 ∷ []) seven_fives (replicate 9 6) refl).0

after-proof : (drop 6 (left_of (replicate 9 6)) ≡ 5 ∷ []) × (cleared_of (replicate 9 6) ≡ replicate 8 0 ++ 6 ∷ [])
unfolding ProverWritesAtP
after-proof = let w = prover_writes_at_p 2 2 (u ++ t) (3 ∷ 1 ∷ []) seven_fives (replicate 9 6) refl in (w.1, w.2)

kept : (left_of (replicate 7 6) ≡ replicate 7 5) × (cleared_of (replicate 7 6) ≡ replicate 7 6)
unfolding ProverKeepsAtP
kept = prover_keeps_at_p 2 2 (u ++ t) (3 ∷ 1 ∷ []) seven_fives (replicate 7 6) 4 refl

first_round_lem : polynomial_at 2 2 (u ++ t) (3 ∷ 1 ∷ []) 0 ≡ 4 ∷ 0 ∷ 2147483645 ∷ []
unfolding corners pow parts
first_round_lem = refl

second_round_lem : polynomial_at 2 2 (u ++ t) (3 ∷ 1 ∷ []) 1 ≡ 2147483629 ∷ 30 ∷ 2147483639 ∷ []
unfolding corners pow parts
second_round_lem = refl

kept_list_lem : (list : List ℕ) → after (read_answer [] (length list)) list ≡ list
unfolding ReaderKeepsAtP read_answer reading from_edition line_at
kept_list_lem list = reader_keeps_at_p [] list 11 1 refl

none : (claim : ℕ) → (checker_answer p 0 2 (5 ∷ 7 ∷ []) claim [] [] ≡ given accepted)
    ↔ ((first (checker_rules p 0 2 (5 ∷ 7 ∷ []) claim [] []) ≡ 0) × (claim ≡ true_sum p (tables_of 0 2 (5 ∷ 7 ∷ [])) 0))
unfolding NoneExactlyAtP
none = none_exactly_at_p 2 (5 ∷ 7 ∷ [])

-- the document's file is read into a list of six places, and of seven
whole-read : (read_answer whole_file 6 ≡ file 2 2 6 proof) × (read_answer whole_file 7 ≡ file 2 2 6 proof)
whole-read = unfold read_answer reading from_edition from_field from_vars from_degree from_claim from_rounds from_end lines_at line_at form numbers_of
    decimal digits in (refl, refl)

written : file_of narrow 2 2 6 proof ≡ whole_file
unfolding ReadBackAtP
written = (read_back_at_p 2 2 6 proof).0 whole_file 6 whole-read.0

read_into_lem : after (read_answer whole_file 7) (replicate 7 5) ≡ proof ++ 5 ∷ []
unfolding ReaderWritesAtP
read_into_lem = reader_writes_at_p 2 2 6 proof whole_file (replicate 7 5) whole-read.1

read_exactly_lem : after (read_answer whole_file 6) (replicate 6 5) ≡ proof
unfolding ReadIntoAtP
read_exactly_lem = read_into_at_p 2 2 6 proof whole_file (replicate 6 5) whole-read.0 refl

told : rounds_answer p 2 2 6 (3 ∷ 1 ∷ []) (join (true_polynomials p (tables_of 2 2 (u ++ t)) (3 ∷ 1 ∷ []))) ≡ given (reached 4)
told =
    ap (λ (c : ℕ). rounds_answer p 2 2 c (3 ∷ 1 ∷ []) (join (true_polynomials p (tables_of 2 2 (u ++ t)) (3 ∷ 1 ∷ [])))) (sym six_sum)
    ∙ (told_value_at_p.honest 2 2 (u ++ t) (3 ∷ 1 ∷ []) refl ∙ ap (λ (v : ℕ). given (reached v)) four)
  where
    four : f p (tables_of 2 2 (u ++ t)) (3 ∷ 1 ∷ []) ≡ 4
    four = unfold corners pow parts in refl

alike : message_at 2 2 (left_of (replicate 9 6)) 0 ≡ message_at 2 2 (messages_after p 2 2 (u ++ t) (8 ∷ 9 ∷ []) seven_fives (replicate 9 6)) 0
unfolding RoundsAlikeAtP
alike = (rounds_alike_at_p 2 2 (u ++ t) (3 ∷ 1 ∷ []) (8 ∷ 9 ∷ []) seven_fives (replicate 9 6) refl refl).0 0 (omega arith) refl

no_other_lem : (v d c : ℕ) (ms : List ℕ) → FileParts narrow v d c ms → file_of narrow v d c ms ≡ whole_file → file v d c ms ≡ file 2 2 6 proof
unfolding OneContentAtP ReadsExactlyAtP
no_other_lem v d c ms w e = one_content_at_p v 2 d 2 c 6 ms proof w ((reads_exactly_at_p 2 2 6 proof whole_file 6).0 whole-read.0).1 (e ∙ sym written)

pub worked : Worked
worked =
    record {
      p11_settled = the_answer 2 1 t 11 (5 ∷ 9 ∷ []) lie (given (rejected 2)) p11_reason;
      p12_settled = the_answer 0 2 (5 ∷ 7 ∷ []) 36 [] [] (given (rejected 0)) p12_reason;
      ledger = ledger;
      lucky = lucky;
      not_both = not_both_lem;
      six = (honest 6).1 (sym six_sum);
      seven = λ a. omega (arith, (honest 7).0 a, six_sum);
      proved = proved;
      first_round = left 0 (omega arith) ∙ first_round_lem;
      second_round = left 1 (omega arith) ∙ second_round_lem;
      behind = after-proof.0;
      cleared = after-proof.1;
      kept_messages = kept.0;
      kept_scratch = kept.1;
      read_into = read_into_lem;
      read_exactly = read_exactly_lem;
      kept_list = kept_list_lem;
      told = told;
      alike = alike;
      again = asked_again_at_p.prover 2 2 (u ++ t) (3 ∷ 1 ∷ []) seven_fives (replicate 7 6) 4 refl;
      thirty_five = (none 35).1 (refl, sym product-sum);
      thirty_six = λ a. omega (arith, ((none 36).0 a).1, product-sum);
      written = written;
      no_other = no_other_lem;
    }

-- P11 in steps
followed : (end_of p (fresh 2 1 11) p11 ≡ record { vars = 2; degree = 1; taken = 1; claim = 2147483639; mark = true })
    × (givens (outcomes_of p (fresh 2 1 11) p11) ≡ fitted ∷ rejects 2 ∷ [])
unfolding StepsFollowAtP pow
followed = steps_follow_at_p 2 1 11 p11

closed : (v : ℕ) (a : Verdict) → (closing p (end_of p (fresh 2 1 11) p11) v).outcome ≡ given a → a ≡ rejected 2
unfolding ClosingFollowsAtP pow
closed v a h = closing_follows_at_p 2 1 11 p11 v a h

-- the true sum of the ledger 3, 4, 1, 2
ten : true_sum p (tables_of 2 1 t) 2 ≡ 10
unfolding corners pow parts
ten = refl

stepped_ledger_lem : (claim a b c d r s : ℕ) → first (checker_rules p 2 1 t claim (r ∷ s ∷ []) (a ∷ b ∷ c ∷ d ∷ [])) ≡ 0
    → (closing p (end_of p (fresh 2 1 claim) (inputs_of (r ∷ s ∷ []) (messages_of 2 1 (a ∷ b ∷ c ∷ d ∷ [])))) (f p (tables_of 2 1 t) (r ∷ s ∷ []))).outcome
    ≡ given accepted
    → Unlucky 2 1 t (r ∷ s ∷ []) (a ∷ b ∷ c ∷ d ∷ []) → claim ≡ 10
unfolding StepsBelievedAtP
stepped_ledger_lem claim a b c d r s z h none = steps_believed_at_p 2 1 t claim (r ∷ s ∷ []) (a ∷ b ∷ c ∷ d ∷ []) z h none ∙ ten

tenth : (closing p (end_of p (fresh 2 1 11) (inputs_of (0 ∷ 9 ∷ []) (messages_of 2 1 lie))) (f p (tables_of 2 1 t) (0 ∷ 9 ∷ []))).outcome ≡ given accepted
unfolding StepsAgreeAtP corners pow parts
tenth = steps_agree_at_p 2 1 t 11 (0 ∷ 9 ∷ []) lie refl

ninth : given (rounds_by (end_of p (fresh 2 2 6) (inputs_of (3 ∷ 1 ∷ []) (messages_of 2 2 proof)))) ≡ given (reached 4)
unfolding RoundsAgreeAtP pow parts
ninth = rounds_agree_at_p 2 2 6 (3 ∷ 1 ∷ []) proof refl

kept_state_lem : (message : List ℕ) (challenge : ℕ) → (step p forged_state message challenge).state ≡ forged_state
unfolding StepKeepsAtP
kept_state_lem message challenge = step_keeps_at_p forged_state message challenge 7 refl

doubted : ((message : List ℕ) (challenge : ℕ) → (step p (opening p 17 1 11).state message challenge).outcome ≡ refused 1)
    × ((v : ℕ) → (closing p (opening p 17 1 11).state v).outcome ≡ refused 1)
unfolding DoubtedAlikeAtP
doubted = doubted_alike_at_p 17 1 11 1 refl

pub worked_steps : WorkedSteps
worked_steps =
    record {
      stepped = followed.0;
      told = followed.1;
      closed = closed;
      stepped_ledger = stepped_ledger_lem;
      tenth = tenth;
      ninth = ninth;
      kept_state = kept_state_lem;
      doubted_step = doubted.0;
      doubted_closing = doubted.1;
    }
