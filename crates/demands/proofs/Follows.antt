-- What follows from the demands at p (specs/Follows). Each proof cites a demand as specs/Demands states it, and not the law behind it, so that a weaker
-- demand does not prove it. Assumes nothing.
use mathlib.Core.Path.{◌≡◌, refl, sym, ap, ap₂, ◌∙◌}
use mathlib.Core.Bool.{Bool, true, false}
use mathlib.Core.List.{List, [], ◌∷◌, ◌++◌, append-nil}
use Prim.Native.Nat.{ℕ, suc, ◌+◌, ◌-◌, ◌*◌, ◌^◌, ◌%◌, ◌≤◌, ◌<◌}
use native.Mathlib.Nat.{mod-eq_of_lt}
use native.Mathlib.Omega.{arith}
use lib.Dec.{eqb}
use lib.ListN.{length, take, drop}
use lib.Seq.{take_all, drop-length}
use borrow.Author.Tests.{eqb-true, eqb-false}
use Rattle.refusals.specs.First.{Answer, refused, given, first}
use Rattle.refusals.proofs.Order.{untested, neither_left, neither_right, decided_given}
use Rattle.sumcheck.specs.Function.{f, true_sum}
use Rattle.sumcheck.specs.TruePolynomial.{true_polynomial, true_polynomials}
use Rattle.sumcheck.specs.Meaning.{total, OneTable}
use Rattle.sumcheck.specs.Protocol.{reached, Verdict, accepted, rejected}
use Rattle.sumcheck.specs.Lent.{join, tables_length, tables_of, not_long, parts}
use Rattle.sumcheck.specs.Entries.{sum_rules, value_rules, prover_answer, messages_after, scratch_after, checker_rules, checker_answer, rounds_answer}
use Rattle.sumcheck.specs.Steps.{State, step}
use Rattle.sumcheck.proofs.Meaning.{one_table}
use Rattle.sumcheck.proofs.Proving.{proof-round}
use Rattle.sumcheck.proofs.Completeness.{claim_last}
use Rattle.sumcheck.proofs.Unrefused.{is_long}
use Rattle.layout.specs.Reading.{file, refused_at}
use Rattle.layout.specs.File.{file_of, FileParts}
use Rattle.narrow_field.specs.Narrow.{p}
use Rattle.narrow_file.specs.Narrow.{narrow, read_answer, after}
use Rattle.demands.specs.Demands.{message_at, RefusesFirstAtP, ProverKeepsAtP, ReaderKeepsAtP, ProverWritesAtP, AcceptsExactlyAtP, RejectsFirstAtP}
use Rattle.demands.specs.Demands.{WithoutTablesAtP, ReadsExactlyAtP, ReaderWritesAtP, CompleteAtP, ProverAcceptedAtP, SoundAtP, CertainAtP}
use Rattle.demands.specs.Stepwise.{StepKeepsAtP, StepsAgreeAtP}
use Rattle.demands.specs.Follows.{Reason, EveryAnswerAtP, SettledAtP, Unlucky, BelievedAtP, NeverMoreAtP, LedgerAtP, HonestExactlyAtP, EndToEndAtP}
use Rattle.demands.specs.Follows.{RoundsAlikeAtP, AskedAgainAtP, ToldValueAtP, StepsBelievedAtP, NoneExactlyAtP, ReadBackAtP, OneContentAtP}
use Rattle.demands.specs.Follows.{ReadIntoAtP}
use Rattle.demands.proofs.Demands.{refuses_first_at_p, prover_keeps_at_p, reader_keeps_at_p, prover_writes_at_p, accepts_exactly_at_p, rejects_first_at_p}
use Rattle.demands.proofs.Demands.{without_tables_at_p, reads_exactly_at_p, reader_writes_at_p, complete_at_p, prover_accepted_at_p, sound_at_p, certain_at_p}
use Rattle.demands.proofs.Stepwise.{step_keeps_at_p, steps_agree_at_p}

pub every_answer_at_p : EveryAnswerAtP
unfolding EveryAnswerAtP RefusesFirstAtP AcceptsExactlyAtP RejectsFirstAtP
every_answer_at_p vars degree tables claim challenges messages (refused number) = refuses_first_at_p vars degree tables claim challenges messages number
every_answer_at_p vars degree tables claim challenges messages (given accepted) = accepts_exactly_at_p vars degree tables claim challenges messages
every_answer_at_p vars degree tables claim challenges messages (given (rejected round)) = rejects_first_at_p vars degree tables claim challenges messages round

pub settled_at_p : SettledAtP
unfolding SettledAtP EveryAnswerAtP
settled_at_p vars degree tables claim challenges messages = (
  checker_answer p vars degree tables claim challenges messages,
  (every_answer_at_p vars degree tables claim challenges messages (checker_answer p vars degree tables claim challenges messages)).0 refl,
  λ (b : Answer Verdict) (r : Reason vars degree tables claim challenges messages b).
      sym ((every_answer_at_p vars degree tables claim challenges messages b).1 r),
)

-- numbers that cannot differ are equal
cannot_differ : (x y : ℕ) → ((x ≡ y → ⊥) → ⊥) → x ≡ y
cannot_differ x y h = go (eqb x y) refl
  where
    go : (t : Bool) → eqb x y ≡ t → x ≡ y
    go true e = eqb-true x y e
    go false e = absurd (h (eqb-false x y e))

pub believed_at_p : BelievedAtP
unfolding BelievedAtP SoundAtP
believed_at_p vars degree tables claim challenges messages a none =
    cannot_differ claim (true_sum p (tables_of vars degree tables) vars)
    (λ (wrong : claim ≡ true_sum p (tables_of vars degree tables) vars → ⊥).
    let l = sound_at_p vars degree tables claim challenges messages a wrong in
    none l.0 l.1.round l.1.differs l.1.agrees)

pub never_more_at_p : NeverMoreAtP
unfolding NeverMoreAtP
never_more_at_p vars degree tables challenges messages j l xs c u d a = omega (arith, c, l.few xs u d a)

-- the one table that was lent is the whole list
only_table : (vars : ℕ) (table : List ℕ) → length table ≡ 2 ^ vars → tables_of vars 1 table ≡ table ∷ []
unfolding parts
only_table vars table e = ap (λ (t : List ℕ). t ∷ []) (take_all (2 ^ vars) table (omega (arith, e)))

-- where the checker refuses nothing, the tables have their length
tables_long : (vars degree : ℕ) (tables : List ℕ) (claim : ℕ) (challenges messages : List ℕ)
    → first (checker_rules p vars degree tables claim challenges messages) ≡ 0 → length tables ≡ degree * 2 ^ vars
tables_long vars degree tables claim challenges messages z =
    let u = untested (checker_rules p vars degree tables claim challenges messages) refl refl z in
    is_long (tables_length vars degree) tables (neither_left (not_long (tables_length vars degree) tables) _ u.1.1.0)

pub ledger_at_p : LedgerAtP
unfolding LedgerAtP BelievedAtP AcceptsExactlyAtP OneTable
ledger_at_p vars table claim challenges messages a none =
    let z = ((accepts_exactly_at_p vars 1 table claim challenges messages).0 a).0 in
    let e : length table ≡ 2 ^ vars = omega (arith, tables_long vars 1 table claim challenges messages z) in
    let whole : claim ≡ total table % p =
    believed_at_p vars 1 table claim challenges messages a none
    ∙ (ap (λ (ts : List (List ℕ)). true_sum p ts vars) (only_table vars table e) ∙ one_table p (omega arith) table vars e) in
    (whole, λ (l : total table < p). whole ∙ mod-eq_of_lt l)

-- a round's part of the true polynomials is no message that differs
honest_unlucky : (vars degree : ℕ) (tables challenges : List ℕ) → length challenges ≡ vars
    → Unlucky vars degree tables challenges (join (true_polynomials p (tables_of vars degree tables) challenges))
honest_unlucky vars degree tables challenges e j l differs agrees =
    differs
    (ap (λ (xs : List ℕ). message_at vars degree xs j) (sym (append-nil (join (true_polynomials p (tables_of vars degree tables) challenges))))
    ∙ proof-round p vars degree tables challenges e [] j l)

pub honest_exactly_at_p : HonestExactlyAtP
unfolding HonestExactlyAtP CompleteAtP BelievedAtP
honest_exactly_at_p vars degree tables claim challenges z =
    let u = untested (value_rules p vars degree tables challenges) refl refl z in
    let e = is_long vars challenges (neither_right (not_long (tables_length vars degree) tables) (not_long vars challenges) u.1.1.0) in
    let proof = join (true_polynomials p (tables_of vars degree tables) challenges) in (
      λ (a : checker_answer p vars degree tables claim challenges proof ≡ given accepted).
          believed_at_p vars degree tables claim challenges proof a (honest_unlucky vars degree tables challenges e),
      λ (t : claim ≡ true_sum p (tables_of vars degree tables) vars).
          ap (λ (c : ℕ). checker_answer p vars degree tables c challenges proof) t ∙ complete_at_p vars degree tables challenges z,
    )

pub end_to_end_at_p : EndToEndAtP
unfolding EndToEndAtP ProverAcceptedAtP
end_to_end_at_p vars degree tables challenges messages scratch c s h e =
    let t = (decided_given (sum_rules p vars degree tables) refl (true_sum p (tables_of vars degree tables) vars) c s).1 in
    ap (λ (x : ℕ). checker_answer p vars degree tables x challenges (messages_after p vars degree tables challenges messages scratch)) (sym t)
    ∙ prover_accepted_at_p vars degree tables challenges messages scratch h e

-- with no variables the true sum is f at no point
pub none_exactly_at_p : NoneExactlyAtP
unfolding NoneExactlyAtP AcceptsExactlyAtP CertainAtP
none_exactly_at_p degree tables claim = (
  λ (a : checker_answer p 0 degree tables claim [] [] ≡ given accepted).
      (((accepts_exactly_at_p 0 degree tables claim [] []).0 a).0, certain_at_p degree tables claim [] [] a),
  λ (t : (first (checker_rules p 0 degree tables claim [] []) ≡ 0) × (claim ≡ true_sum p (tables_of 0 degree tables) 0)).
      (accepts_exactly_at_p 0 degree tables claim [] []).1
      (t.0, (λ (j : ℕ) (l : j < 0). absurd (omega arith), t.1 ∙ claim_last p (tables_of 0 degree tables) [])),
)

pub read_back_at_p : ReadBackAtP
unfolding ReadBackAtP ReadsExactlyAtP
read_back_at_p vars degree claim messages = (
  λ (bytes : List ℕ) (places : ℕ) (e : read_answer bytes places ≡ file vars degree claim messages).
      sym ((reads_exactly_at_p vars degree claim messages bytes places).0 e).0,
  λ (w : FileParts narrow vars degree claim messages) (places : ℕ) (l : vars * (degree + 1) ≤ places).
      (reads_exactly_at_p vars degree claim messages (file_of narrow vars degree claim messages) places).1 (refl, w, l),
)

pub one_content_at_p : OneContentAtP
unfolding OneContentAtP ReadBackAtP
one_content_at_p v w d e c b ms ns x y same =
    let places = v * (d + 1) + w * (e + 1) in
    sym ((read_back_at_p v d c ms).1 x places (omega arith))
    ∙ (ap (λ (bytes : List ℕ). read_answer bytes places) same ∙ (read_back_at_p w e b ns).1 y places (omega arith))

pub read_into_at_p : ReadIntoAtP
unfolding ReadIntoAtP ReaderWritesAtP
read_into_at_p vars degree claim messages bytes list h e =
    reader_writes_at_p vars degree claim messages bytes list h
    ∙ (ap (λ (i : ℕ). messages ++ drop i list) (sym e) ∙ (ap (λ (l : List ℕ). messages ++ l) (drop-length list) ∙ append-nil messages))

pub rounds_alike_at_p : RoundsAlikeAtP
unfolding RoundsAlikeAtP ProverWritesAtP
rounds_alike_at_p vars degree tables challenges others messages scratch g h =
    let a = prover_writes_at_p vars degree tables challenges messages scratch g in
    let b = prover_writes_at_p vars degree tables others messages scratch h in (
      λ (j : ℕ) (l : j < vars) (e : take j challenges ≡ take j others).
          a.0 j l ∙ (ap (λ (r : List ℕ). true_polynomial p (tables_of vars degree tables) r (vars - suc j)) e ∙ sym (b.0 j l)),
      a.1 ∙ sym b.1,
      a.2 ∙ sym b.2,
    )

prover_again : (vars degree : ℕ) (tables challenges messages scratch : List ℕ) (number : ℕ)
    → prover_answer p vars degree tables challenges messages scratch ≡ refused number
    → prover_answer p vars degree tables challenges (messages_after p vars degree tables challenges messages scratch)
    (scratch_after p vars degree tables challenges messages scratch)
    ≡ refused number
unfolding ProverKeepsAtP
prover_again vars degree tables challenges messages scratch number h =
    let k = prover_keeps_at_p vars degree tables challenges messages scratch number h in
    ap₂ (λ (a b : List ℕ). prover_answer p vars degree tables challenges a b) k.0 k.1 ∙ h

reader_again : (bytes list : List ℕ) (number line : ℕ) → read_answer bytes (length list) ≡ refused_at number line
    → read_answer bytes (length (after (read_answer bytes (length list)) list)) ≡ refused_at number line
unfolding ReaderKeepsAtP
reader_again bytes list number line h = ap (λ (l : List ℕ). read_answer bytes (length l)) (reader_keeps_at_p bytes list number line h) ∙ h

step_again : (s : State) (message : List ℕ) (challenge number : ℕ) → (step p s message challenge).outcome ≡ refused number
    → (step p (step p s message challenge).state message challenge).outcome ≡ refused number
unfolding StepKeepsAtP
step_again s message challenge number h = ap (λ (x : State). (step p x message challenge).outcome) (step_keeps_at_p s message challenge number h) ∙ h

pub asked_again_at_p : AskedAgainAtP
asked_again_at_p = record { prover = prover_again; reader = reader_again; stepper = step_again }

told_believed : (vars degree : ℕ) (tables : List ℕ) (claim : ℕ) (challenges messages : List ℕ) (v : ℕ)
    → first (value_rules p vars degree tables challenges) ≡ 0
    → rounds_answer p vars degree claim challenges messages ≡ given (reached v) → v ≡ f p (tables_of vars degree tables) challenges
    → Unlucky vars degree tables challenges messages → claim ≡ true_sum p (tables_of vars degree tables) vars
unfolding BelievedAtP WithoutTablesAtP
told_believed vars degree tables claim challenges messages v z h e none =
    believed_at_p vars degree tables claim challenges messages
    ((without_tables_at_p vars degree tables claim challenges messages z).0 (h ∙ ap (λ (x : ℕ). given (reached x)) e)) none

told-honest : (vars degree : ℕ) (tables challenges : List ℕ) → first (value_rules p vars degree tables challenges) ≡ 0 →
    let ts = tables_of vars degree tables in
    rounds_answer p vars degree (true_sum p ts vars) challenges (join (true_polynomials p ts challenges)) ≡ given (reached (f p ts challenges))
unfolding CompleteAtP WithoutTablesAtP
told-honest vars degree tables challenges z =
    let ts = tables_of vars degree tables in
    (without_tables_at_p vars degree tables (true_sum p ts vars) challenges (join (true_polynomials p ts challenges)) z).1
    (complete_at_p vars degree tables challenges z)

pub told_value_at_p : ToldValueAtP
told_value_at_p = record { believed = told_believed; honest = told-honest }

pub steps_believed_at_p : StepsBelievedAtP
unfolding StepsBelievedAtP BelievedAtP StepsAgreeAtP
steps_believed_at_p vars degree tables claim challenges messages z h none =
    believed_at_p vars degree tables claim challenges messages (sym (steps_agree_at_p vars degree tables claim challenges messages z) ∙ h) none
