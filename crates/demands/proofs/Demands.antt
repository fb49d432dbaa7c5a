-- The demands at p (specs/Demands): the laws over any modulus, with p and its primality put in. What a lucky round is said of vars and degree, not of
-- the lengths of lists. Assumes nothing.
use mathlib.Core.Path.{◌≡◌, refl, sym, ap, subst, ◌∙◌}
use mathlib.Core.Logic.{◌↔◌}
use mathlib.Core.Bool.{Bool, true, false}
use mathlib.Core.List.{List}
use Prim.Native.Nat.{ℕ, suc, ◌+◌, ◌-◌, ◌*◌, ◌^◌, ◌≤◌}
use native.Mathlib.Omega.{arith}
use lib.Dec.{ltb}
use lib.ListN.{length, take, get_or}
use borrow.Author.Tests.{ltb-false, le-ltb}
use Rattle.arithmetic.proofs.Mersenne.{prime_31}
use Rattle.refusals.proofs.First.{choose-true, choose-false}
use Rattle.refusals.proofs.Order.{decided_given}
use Rattle.polynomial.specs.Elements.{Every, Elements, Distinct}
use Rattle.polynomial.specs.Polynomial.{value}
use Rattle.sumcheck.specs.TruePolynomial.{true_polynomial}
use Rattle.sumcheck.specs.Lent.{tables_of, messages_of}
use Rattle.sumcheck.specs.Entries.{prover_rules}
use Rattle.sumcheck.specs.Demands.{Lucky}
use Rattle.sumcheck.specs.Proving.{ProverKeeps, ProverWrites}
use Rattle.sumcheck.specs.Checker.{AcceptsExactly, RejectsFirst, RefusesFirst, AnswerSound, AnswerComplete, ProverAccepted, AnswerCertain, WithoutTables}
use Rattle.sumcheck.proofs.Laid.{parts_count}
use Rattle.sumcheck.proofs.Entries.{checker_lent}
use Rattle.sumcheck.proofs.Proving.{prover_keeps, prover_writes}
use Rattle.sumcheck.proofs.Checker.{accepts_exactly, rejects_first, refuses_first, answer_sound, answer_certain}
use Rattle.sumcheck.proofs.WithoutTables.{without_tables}
use Rattle.sumcheck.proofs.TrueClaim.{answer_complete, prover_accepted}
use Rattle.layout.specs.Reading.{Reading, file, refused_at, reading}
use Rattle.layout.specs.File.{file_of, FileParts}
use Rattle.layout.proofs.Exact.{exactly}
use Rattle.narrow_field.specs.Narrow.{p}
use Rattle.narrow_file.specs.Narrow.{narrow, with_room, read_answer, after}
use Rattle.demands.specs.Demands.{RefusesFirstAtP, ProverKeepsAtP, ReaderKeepsAtP, ProverWritesAtP, AcceptsExactlyAtP, RejectsFirstAtP}
use Rattle.demands.specs.Demands.{WithoutTablesAtP, ReadsExactlyAtP, ReaderWritesAtP, message_at, CompleteAtP, ProverAcceptedAtP, LuckyAtP, SoundAtP}
use Rattle.demands.specs.Demands.{CertainAtP}

pub refuses_first_at_p : RefusesFirstAtP
unfolding RefusesFirstAtP RefusesFirst
refuses_first_at_p = refuses_first p

pub prover_keeps_at_p : ProverKeepsAtP
unfolding ProverKeepsAtP ProverKeeps
prover_keeps_at_p = prover_keeps p

pub reader_keeps_at_p : ReaderKeepsAtP
unfolding ReaderKeepsAtP
reader_keeps_at_p bytes messages number line e = ap (λ (a : Reading). after a messages) e

pub prover_writes_at_p : ProverWritesAtP
unfolding ProverWritesAtP ProverWrites
prover_writes_at_p = prover_writes p

pub accepts_exactly_at_p : AcceptsExactlyAtP
unfolding AcceptsExactlyAtP AcceptsExactly
accepts_exactly_at_p = accepts_exactly p

pub rejects_first_at_p : RejectsFirstAtP
unfolding RejectsFirstAtP RejectsFirst
rejects_first_at_p = rejects_first p

pub without_tables_at_p : WithoutTablesAtP
unfolding WithoutTablesAtP WithoutTables
without_tables_at_p = without_tables p

-- what is read into a list of so many places is read, and has room there
module _ (v d c : ℕ) (ms : List ℕ) (places : ℕ) where
  has_room : (r : Reading) → with_room places r ≡ file v d c ms → (r ≡ file v d c ms) × (v * (d + 1) ≤ places)
  has_room (refused_at number line) h = absurd (let z : ◌≡◌ {A = ℕ} 0 1 = cc in omega arith)
  has_room (file v' d' c' ms') h = go (ltb places (v' * (d' + 1))) refl
    where
      go : (t : Bool) → ltb places (v' * (d' + 1)) ≡ t → (file v' d' c' ms' ≡ file v d c ms) × (v * (d + 1) ≤ places)
      go true t =
          let e : refused_at 4 0 ≡ file v d c ms = sym (choose-true (refused_at 4 0) (file v' d' c' ms') t) ∙ h in
          absurd (let z : ◌≡◌ {A = ℕ} 0 1 = cc in omega arith)
      go false t =
          let e : file v' d' c' ms' ≡ file v d c ms = sym (choose-false (refused_at 4 0) (file v' d' c' ms') t) ∙ h in
          let vars : v' ≡ v = cc in
          let degree : d' ≡ d = cc in
          (e, subst (λ (x : ℕ). x * (d + 1) ≤ places) vars (subst (λ (x : ℕ). v' * (x + 1) ≤ places) degree (ltb-false places (v' * (d' + 1)) t)))

pub reads_exactly_at_p : ReadsExactlyAtP
unfolding ReadsExactlyAtP read_answer
reads_exactly_at_p v d c ms bytes places = (
  λ (h : with_room places (reading narrow bytes) ≡ file v d c ms).
      let r = has_room v d c ms places (reading narrow bytes) h in
      let e = its.0 r.0 in
      (e.0, e.1, r.1),
  λ (w : (bytes ≡ file_of narrow v d c ms) × FileParts narrow v d c ms × (v * (d + 1) ≤ places)).
      ap (with_room places) (its.1 (w.0, w.1)) ∙ choose-false (refused_at 4 0) (file v d c ms) (le-ltb places (v * (d + 1)) w.2),
)
  where
    its : (reading narrow bytes ≡ file v d c ms) ↔ ((bytes ≡ file_of narrow v d c ms) × FileParts narrow v d c ms)
    its = exactly narrow v d c ms bytes (λ (k : ℕ) (l : 1 ≤ k). omega arith)

pub reader_writes_at_p : ReaderWritesAtP
unfolding ReaderWritesAtP
reader_writes_at_p vars degree claim messages bytes list e = ap (λ (a : Reading). after a list) e

pub complete_at_p : CompleteAtP
unfolding CompleteAtP AnswerComplete
complete_at_p = answer_complete p (omega arith)

pub prover_accepted_at_p : ProverAcceptedAtP
unfolding ProverAcceptedAtP ProverAccepted
prover_accepted_at_p vars degree tables challenges messages scratch h e =
    prover_accepted p (omega arith) vars degree tables challenges messages scratch
    (decided_given (prover_rules p vars degree tables challenges messages scratch) refl tt tt h).0 e

-- a lucky round of what was lent: as many rounds as vars, as many tables as degree
lucky : (vars degree : ℕ) (tables challenges messages : List ℕ) → length challenges ≡ vars → (j : ℕ)
    → Lucky p (tables_of vars degree tables) challenges (messages_of vars degree messages) j → LuckyAtP vars degree tables challenges messages j
lucky vars degree tables challenges messages e j l =
    let s = message_at vars degree messages j in
    let g : ℕ → List ℕ = λ (m : ℕ). true_polynomial p (tables_of vars degree tables) (take j challenges) (m - suc j) in
    record {
      round = omega (arith, l.round, e);
      differs = subst (λ (m : ℕ). s ≡ g m → ⊥) e l.differs;
      agrees = subst (λ (m : ℕ). value p s (get_or challenges j 0) ≡ value p (g m) (get_or challenges j 0)) e l.agrees;
      few = λ (xs : List ℕ) (u : Elements p xs) (d : Distinct xs) (a : Every (λ (x : ℕ). value p s x ≡ value p (g vars) x) xs).
          omega (
            arith,
            l.few xs u d (subst (λ (m : ℕ). Every (λ (x : ℕ). value p s x ≡ value p (g m) x) xs) (sym e) a),
            parts_count degree (2 ^ vars) tables,
          );
    }

pub sound_at_p : SoundAtP
unfolding SoundAtP AnswerSound AcceptsExactly
sound_at_p vars degree tables claim challenges messages a wrong =
    let z = ((accepts_exactly p vars degree tables claim challenges messages).0 a).0 in
    let e = (checker_lent p vars degree tables claim challenges messages refl z).rounds in
    let l = answer_sound p prime_31 vars degree tables claim challenges messages a wrong in
    (l.0, lucky vars degree tables challenges messages e l.0 l.1)

pub certain_at_p : CertainAtP
unfolding CertainAtP AnswerCertain
certain_at_p = answer_certain p
