-- The entries' answers by the tests that an entry makes, one after the other (specs/Entries). Every entry on tables judges vars, degree and the tables'
-- length first: `tables_rules`. Assumes nothing.
use mathlib.Core.Path.{◌≡◌, sym, ap, ◌∙◌}
use mathlib.Core.Bool.{Bool, true, false, not}
use mathlib.Core.List.{List, [], ◌∷◌, ◌++◌}
use Prim.Native.Nat.{ℕ}
use native.Mathlib.Omega.{arith}
use lib.Dec.{eqb}
use lib.ListN.{length}
use borrow.Author.Tests.{eq-eqb}
use Rattle.refusals.specs.First.{Rule, ◌when◌, Answer, refused, given, choose, either, outside, first, decide}
use Rattle.refusals.proofs.First.{decide_rest, decide-either, turned, passed, outside-append, Numbers}
use Rattle.sumcheck.specs.Function.{f, true_sum}
use Rattle.sumcheck.specs.Lent.{tables_length, tables_of, bad_vars, bad_degree, not_long}
use Rattle.sumcheck.specs.Entries.{value_answer, sum_answer}

-- refusals 1, 2, and 3 for the tables, by their length
abbrev pub tables_rules : ℕ → ℕ → ℕ → List Rule
tables_rules vars degree long = 1 when bad_vars vars ∷ 2 when bad_degree degree ∷ 3 when not (eqb long (tables_length vars degree)) ∷ []

pub tables_numbers : (vars degree long : ℕ) → Numbers (tables_rules vars degree long)
tables_numbers vars degree long = (λ e. omega arith, (λ e. omega arith, (λ e. omega arith, tt)))

-- the refusals of the value at a point, one test at a time
abbrev pub value_rest : ℕ → ℕ → List ℕ → List ℕ → List Rule
value_rest n vars tables point = 3 when not_long vars point ∷ 5 when either (outside n tables) (outside n point) ∷ []

pub value_rules_lem : (n vars degree : ℕ) (tables point : List ℕ)
    → decide (tables_rules vars degree (length tables) ++ value_rest n vars tables point)
    (f n (tables_of vars degree tables) point) ≡ value_answer n vars degree tables point
value_rules_lem n vars degree tables point =
    ap (λ (r : Answer ℕ). choose (bad_vars vars) (refused 1) (choose (bad_degree degree) (refused 2) r))
    (sym (decide-either 3 a b (5 when either (outside n tables) (outside n point) ∷ []) v)
    ∙ ap (λ (o : Bool). choose (either a b) (refused 3) (decide (5 when o ∷ []) v)) (sym (outside-append n tables point)))
  where
    a : Bool
    a = not_long (tables_length vars degree) tables

    b : Bool
    b = not_long vars point

    v : ℕ
    v = f n (tables_of vars degree tables) point

-- the ways through the value at a point
module _ (n vars degree : ℕ) (tables point : List ℕ) where
  abbrev head : List Rule
  head = tables_rules vars degree (length tables)

  abbrev value : ℕ
  value = f n (tables_of vars degree tables) point

  module _ (z : first head ≡ 0) where
    beyond : decide (value_rest n vars tables point) value ≡ value_answer n vars degree tables point
    beyond = sym (decide_rest head (value_rest n vars tables point) value (tables_numbers vars degree (length tables)) z)
        ∙ value_rules_lem n vars degree tables point

    abbrev elements : List Rule
    elements = 5 when either (outside n tables) (outside n point) ∷ []

    module _ (l : length point ≡ vars) where
      later : decide elements value ≡ value_answer n vars degree tables point
      later = passed 3 elements value (ap not (eq-eqb (length point) vars l)) ∙ beyond

      pub value_element : either (outside n tables) (outside n point) ≡ true → refused 5 ≡ value_answer n vars degree tables point
      value_element h = turned 5 [] value h ∙ later

      pub value-given : either (outside n tables) (outside n point) ≡ false
          → given (f n (tables_of vars degree tables) point) ≡ value_answer n vars degree tables point
      value-given h = passed 5 [] value h ∙ later

-- the ways through the true sum
module _ (n vars degree : ℕ) (tables : List ℕ) where
  abbrev start : List Rule
  start = tables_rules vars degree (length tables)

  abbrev total : ℕ
  total = true_sum n (tables_of vars degree tables) vars

  pub sum-given : first start ≡ 0 → outside n tables ≡ false → given (true_sum n (tables_of vars degree tables) vars) ≡ sum_answer n vars degree tables
  sum-given z h = passed 5 [] total h ∙ sym (decide_rest start (5 when outside n tables ∷ []) total (tables_numbers vars degree (length tables)) z)
