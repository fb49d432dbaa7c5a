-- The prover's refusals by the tests that it makes, one after the other (specs/Entries). Assumes nothing.
use mathlib.Core.Path.{◌≡◌, refl, sym, ap, ◌∙◌}
use mathlib.Core.Bool.{Bool, true, false}
use mathlib.Core.List.{List, [], ◌∷◌, ◌++◌}
use Prim.Native.Nat.{ℕ, ◌≤◌}
use native.Mathlib.Omega.{arith}
use lib.ListN.{length}
use borrow.Author.Tests.{le-ltb}
use Rattle.refusals.specs.First.{Rule, ◌when◌, choose, either, outside, first}
use Rattle.refusals.proofs.First.{numbered, unnumbered, first_either, outside-append}
use Rattle.refusals.proofs.Order.{first_passed, untested}
use Rattle.sumcheck.specs.Lent.{tables_length, messages_length, bad_vars, bad_degree, not_long, too_short}
use Rattle.sumcheck.specs.Entries.{prover_rules}
use Rattle.sumcheck.proofs.Answers.{tables_rules}
use Rattle.sumcheck.proofs.Unrefused.{is_long, long_is}

module _ (n vars degree : ℕ) (tables challenges messages scratch : List ℕ) where
  abbrev elements : List Rule
  elements = 5 when either (outside n tables) (outside n challenges) ∷ []

  abbrev rooms : List Rule
  rooms = 4 when too_short (messages_length vars degree) messages ∷ 4 when too_short (tables_length vars degree) scratch ∷ elements

  abbrev rest : List Rule
  rest = 3 when not_long vars challenges ∷ rooms

  abbrev number : ℕ
  number = first (prover_rules n vars degree tables challenges messages scratch)

  -- one test at a time, the tables' length first
  parted : first (tables_rules vars degree (length tables) ++ rest) ≡ number
  parted =
      sym
      (ap (λ (k : ℕ). choose (bad_vars vars) 1 (choose (bad_degree degree) 2 k))
      (first_either 3 (not_long (tables_length vars degree) tables) (not_long vars challenges) (4 when short ∷ 5 when outside n (tables ++ challenges) ∷ [])
      ∙ ap (λ (k : ℕ). choose (not_long (tables_length vars degree) tables) 3 (choose (not_long vars challenges) 3 k))
      (first_either 4 (too_short (messages_length vars degree) messages) (too_short (tables_length vars degree) scratch)
      (5 when outside n (tables ++ challenges) ∷ [])
      ∙ ap (λ (k : ℕ). choose (too_short (messages_length vars degree) messages) 4 (choose (too_short (tables_length vars degree) scratch) 4 k))
      (ap (λ (o : Bool). first (5 when o ∷ [])) (outside-append n tables challenges)))))
    where
      short : Bool
      short = either (too_short (messages_length vars degree) messages) (too_short (tables_length vars degree) scratch)

  module _ {k : ℕ} (e : k ≡ first (tables_rules vars degree (length tables))) (z : k ≡ 0) where
    past_tables : first rest ≡ number
    past_tables = first_passed (tables_rules vars degree (length tables)) rest refl e z ∙ parted

    module _ (l : length challenges ≡ vars) where
      past_long : first rooms ≡ number
      past_long = unnumbered 3 rooms (long_is vars challenges l) ∙ past_tables

      module _ (r : messages_length vars degree ≤ length messages) where
        past_messages : first (4 when too_short (tables_length vars degree) scratch ∷ elements) ≡ number
        past_messages = unnumbered 4 (4 when too_short (tables_length vars degree) scratch ∷ elements)
            (le-ltb (length messages) (messages_length vars degree) r) ∙ past_long

        -- scratch is as long as the tables
        long : length tables ≡ tables_length vars degree
        long = is_long (tables_length vars degree) tables (untested (tables_rules vars degree (length tables)) refl e z).1.1.0

        module _ (t : length tables ≤ length scratch) where
          past_scratch : first elements ≡ number
          past_scratch = unnumbered 4 elements (le-ltb (length scratch) (tables_length vars degree) (omega (arith, long))) ∙ past_messages

          pub prover_element : either (outside n tables) (outside n challenges) ≡ true → 5 ≡ number
          prover_element h = numbered 5 [] h ∙ past_scratch

          pub prover_none : either (outside n tables) (outside n challenges) ≡ false → 0 ≡ number
          prover_none h = unnumbered 5 [] h ∙ past_scratch
