-- What the checker knows of what was lent to it, where it was not refused (specs/Entries). Assumes nothing.
use mathlib.Core.Path.{◌≡◌, refl, sym, ◌∙◌}
use mathlib.Core.Bool.{false}
use mathlib.Core.List.{List, [], ◌∷◌, ◌++◌}
use Prim.Native.Nat.{ℕ, suc, ◌*◌, ◌≤◌, ◌<◌}
use lib.ListN.{length}
use Rattle.refusals.specs.Limits.{max_vars, max_degree}
use Rattle.refusals.specs.First.{first, either, outside}
use Rattle.refusals.proofs.First.{outside-append}
use Rattle.refusals.proofs.Order.{Untested, untested, untested-none, neither_left, neither_right}
use Rattle.polynomial.specs.Elements.{Elements}
use Rattle.sumcheck.specs.Lent.{tables_length, messages_length, not_long}
use Rattle.sumcheck.specs.Entries.{checker_rules, rounds_rules}
use Rattle.sumcheck.proofs.Unrefused.{vars-within, degree-within, degree_some, is_long, is_inside}

-- claim, challenges and messages
pub record RoundsLent (n vars degree claim : ℕ) (challenges messages : List ℕ) : Type 0 where
  pub most : vars ≤ max_vars
  pub few : degree ≤ max_degree
  pub some : 0 < degree
  pub rounds : length challenges ≡ vars
  pub long : length messages ≡ vars * suc degree
  pub claimed : claim < n
  pub points : Elements n challenges
  pub numbers : Elements n messages

pub rounds-lent : (n vars degree claim : ℕ) (challenges messages : List ℕ) {k : ℕ} → k ≡ first (rounds_rules n vars degree claim challenges messages) → k ≡ 0
    → RoundsLent n vars degree claim challenges messages
rounds-lent n vars degree claim challenges messages e z =
    let u = untested (rounds_rules n vars degree claim challenges messages) refl e z in
    let split = sym (outside-append n (claim ∷ []) (challenges ++ messages)) ∙ u.1.1.1.0 in
    let rest : outside n (challenges ++ messages) ≡ false = neither_right (outside n (claim ∷ [])) (outside n (challenges ++ messages)) split in
    let lists = sym (outside-append n challenges messages) ∙ rest in
    record {
      most = vars-within vars u.0;
      few = degree-within degree u.1.0;
      some = degree_some degree u.1.0;
      rounds = is_long vars challenges (neither_left (not_long vars challenges) (not_long (messages_length vars degree) messages) u.1.1.0);
      long = is_long (messages_length vars degree) messages
          (neither_right (not_long vars challenges) (not_long (messages_length vars degree) messages) u.1.1.0);
      claimed = (is_inside n (claim ∷ []) (neither_left (outside n (claim ∷ [])) (outside n (challenges ++ messages)) split)).0;
      points = is_inside n challenges (neither_left (outside n challenges) (outside n messages) lists);
      numbers = is_inside n messages (neither_right (outside n challenges) (outside n messages) lists);
    }

module _ (n vars degree : ℕ) (tables : List ℕ) (claim : ℕ) (challenges messages : List ℕ) {k : ℕ}
    (e : k ≡ first (checker_rules n vars degree tables claim challenges messages)) (z : k ≡ 0) where
  unmet : Untested (checker_rules n vars degree tables claim challenges messages)
  unmet = untested (checker_rules n vars degree tables claim challenges messages) refl e z

  lengths : either (not_long vars challenges) (not_long (messages_length vars degree) messages) ≡ false
  lengths =
      neither_right (not_long (tables_length vars degree) tables)
      (either (not_long vars challenges) (not_long (messages_length vars degree) messages)) unmet.1.1.0

  split : either (outside n tables) (outside n (claim ∷ challenges ++ messages)) ≡ false
  split = sym (outside-append n tables (claim ∷ challenges ++ messages)) ∙ unmet.1.1.1.0

  pub checker_rounds : 0 ≡ first (rounds_rules n vars degree claim challenges messages)
  checker_rounds =
      untested-none (rounds_rules n vars degree claim challenges messages)
      (unmet.0, (unmet.1.0, (lengths, (neither_right (outside n tables) (outside n (claim ∷ challenges ++ messages)) split, tt))))

  pub checker_lent : RoundsLent n vars degree claim challenges messages
  checker_lent = rounds-lent n vars degree claim challenges messages checker_rounds refl
