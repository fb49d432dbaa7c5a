-- The checker without tables beside the one with tables (specs/Checker, WithoutTables). Both judge the same claim, challenges and messages; what is left
-- of the other's refusals is about tables. Both walk the same rounds, and the final check is a comparison with the value of f. Assumes nothing.
use mathlib.Core.Path.{◌≡◌, refl, sym, ap, ◌∙◌}
use mathlib.Core.Bool.{false}
use mathlib.Core.List.{List, ◌∷◌, ◌++◌}
use Prim.Native.Nat.{ℕ}
use lib.ListN.{length}
use borrow.Author.Tests.{eq-eqb}
use Rattle.refusals.specs.First.{given, first, either, outside}
use Rattle.refusals.proofs.First.{choose-true, either-none, outside-append}
use Rattle.refusals.proofs.Order.{given_by, untested, untested-none, neither_left, outside-none, decided_given}
use Rattle.sumcheck.specs.Function.{f}
use Rattle.sumcheck.specs.Protocol.{Rounds, reached, rounds, accepted, rejected, final, verdict}
use Rattle.sumcheck.specs.Lent.{tables_length, tables_of, messages_of, not_long}
use Rattle.sumcheck.specs.Entries.{value_rules, checker_rules, checker_answer, rounds_rules, rounds_answer}
use Rattle.sumcheck.specs.Checker.{WellLent, WithoutTables}
use Rattle.sumcheck.proofs.Entries.{checker_rounds}
use Rattle.sumcheck.proofs.Soundness.{accepted-rounds}

module _ (n vars degree : ℕ) (tables : List ℕ) (claim : ℕ) (challenges messages : List ℕ) where
  abbrev v : ℕ
  v = f n (tables_of vars degree tables) challenges

  abbrev came : Rounds
  came = rounds n claim challenges (messages_of vars degree messages)

  -- what neither refuses of tables and challenges, nor of claim, challenges and messages, the checker does not refuse
  joined : WellLent n vars degree tables challenges → first (rounds_rules n vars degree claim challenges messages) ≡ 0
      → 0 ≡ first (checker_rules n vars degree tables claim challenges messages)
  joined w z =
      let a = untested (value_rules n vars degree tables challenges) refl refl w in
      let b = untested (rounds_rules n vars degree claim challenges messages) refl refl z in
      let split : either (outside n tables) (outside n challenges) ≡ false = sym (outside-append n tables challenges) ∙ a.1.1.1.0 in
      untested-none (checker_rules n vars degree tables claim challenges messages) (
        a.0,
        (
          a.1.0,
          (
            either-none (neither_left (not_long (tables_length vars degree) tables) (not_long vars challenges) a.1.1.0) b.1.1.0,
            (outside-none n tables (claim ∷ challenges ++ messages) (neither_left (outside n tables) (outside n challenges) split) b.1.1.1.0, tt),
          ),
        ),
      )

  accepts : WellLent n vars degree tables challenges → rounds_answer n vars degree claim challenges messages ≡ given (reached v)
      → checker_answer n vars degree tables claim challenges messages ≡ given accepted
  accepts w h =
      let d = decided_given (rounds_rules n vars degree claim challenges messages) refl came (reached v) h in
      sym (given_by (checker_rules n vars degree tables claim challenges messages) refl
      (verdict n (tables_of vars degree tables) claim challenges (messages_of vars degree messages)) (joined w d.0) refl)
      ∙ ap given (ap (final (length challenges) v) d.1 ∙ choose-true accepted (rejected (length challenges)) (eq-eqb v v refl))

  reaches : checker_answer n vars degree tables claim challenges messages ≡ given accepted
      → rounds_answer n vars degree claim challenges messages ≡ given (reached v)
  reaches h =
      let d = decided_given (checker_rules n vars degree tables claim challenges messages) refl
      (verdict n (tables_of vars degree tables) claim challenges (messages_of vars degree messages)) accepted h in
      sym (given_by (rounds_rules n vars degree claim challenges messages) refl came
      (checker_rounds n vars degree tables claim challenges messages refl d.0) refl)
      ∙ ap given (accepted-rounds (length challenges) v came d.1)

pub without_tables : WithoutTables
unfolding WithoutTables
without_tables n vars degree tables claim challenges messages w =
    (accepts n vars degree tables claim challenges messages w, reaches n vars degree tables claim challenges messages)
