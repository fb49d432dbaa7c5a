-- The round part (specs/Part): what a call knows that was not refused, where the part lies, and that it is the message that the checker judges.
-- Assumes nothing.
use mathlib.Core.Path.{◌≡◌, refl, sym, ap, ap₂, ◌∙◌}
use mathlib.Core.Bool.{Bool, true, false}
use mathlib.Core.List.{List, []}
use Prim.Native.Nat.{ℕ, zero, suc, ◌+◌, ◌-◌, ◌*◌, ◌≤◌, ◌<◌}
use native.Mathlib.Nat.{mul-le-mul_right}
use native.Mathlib.Omega.{arith}
use lib.Dec.{eqb, ltb}
use lib.ListN.{length, get_or, take, drop}
use lib.Seq.{drop-drop}
use borrow.Author.Tests.{eqb-true, eqb-false, ltb-false, eq-eqb, ne_eqb}
use Rattle.refusals.proofs.First.{choose-true, choose-false}
use Rattle.refusals.proofs.Order.{untested, neither_left, neither_right}
use Rattle.sumcheck.specs.Lent.{parts, messages_length, messages_of}
use Rattle.sumcheck.specs.Part.{part_rules, part_refusal, part_start, part_length, part_of}
use Rattle.sumcheck.proofs.Unrefused.{is_long}

-- the number of part j, from 0, of so many of one size
pub parts_at : (count size : ℕ) (xs : List ℕ) (j : ℕ) → j < count → get_or (parts count size xs) j [] ≡ take size (drop (j * size) xs)
unfolding parts
parts_at zero size xs j h = absurd (omega arith)
parts_at (suc count) size xs zero h = ap (λ (i : ℕ). take size (drop i xs)) none
  where
    none : 0 ≡ 0 * size
    none = omega arith
parts_at (suc count) size xs (suc j) h =
    parts_at count size (drop size xs) j (omega arith) ∙ ap (take size) (drop-drop (j * size) size xs ∙ ap (λ (i : ℕ). drop i xs) over)
  where
    over : size + j * size ≡ suc j * size
    over = omega arith

module _ (vars degree : ℕ) (messages : List ℕ) (round : ℕ) {k : ℕ} (e : k ≡ part_refusal vars degree messages round) where
  -- where refused, the empty part at the list's start
  pub part_none : (k ≡ 0 → ⊥) → 0 ≡ part_start vars degree messages round
  part_none z = sym (choose-false ((round - 1) * suc degree) 0
      (ne_eqb (part_refusal vars degree messages round) 0 (λ (w : part_refusal vars degree messages round ≡ 0). z (e ∙ w))))

  pub part_short : (k ≡ 0 → ⊥) → 0 ≡ part_length vars degree messages round
  part_short z =
      sym (choose-false (suc degree) 0 (ne_eqb (part_refusal vars degree messages round) 0 (λ (w : part_refusal vars degree messages round ≡ 0). z (e ∙ w))))

  -- else the part lies inside the list
  pub part_some : k ≡ 0 → 0 < round
  part_some z =
      let u = untested (part_rules vars degree messages round) refl e z in
      let some : round ≡ 0 → ⊥ = eqb-false round 0 (neither_left (eqb round 0) (ltb vars round) u.1.1.1.0) in
      omega arith

  pub part_inside : k ≡ 0 → (round - 1) * suc degree + suc degree ≤ length messages
  part_inside z =
      let u = untested (part_rules vars degree messages round) refl e z in
      let most : round ≤ vars = ltb-false vars round (neither_right (eqb round 0) (ltb vars round) u.1.1.1.0) in
      let some : 0 < round = part_some z in
      let long : length messages ≡ vars * suc degree = is_long (messages_length vars degree) messages u.1.1.0 in
      omega (arith, mul-le-mul_right {m = suc (round - 1)} {n = vars} (suc degree) (omega arith))

  pub part_start_lem : k ≡ 0 → (round - 1) * suc degree ≡ part_start vars degree messages round
  part_start_lem z = sym (choose-true ((round - 1) * suc degree) 0 (eq-eqb (part_refusal vars degree messages round) 0 (sym e ∙ z)))

  pub part_long : k ≡ 0 → suc degree ≡ part_length vars degree messages round
  part_long z = sym (choose-true (suc degree) 0 (eq-eqb (part_refusal vars degree messages round) 0 (sym e ∙ z)))

  -- the part is the message that the checker judges in that round
  pub part_message : k ≡ 0 → part_of vars degree messages round ≡ get_or (messages_of vars degree messages) (round - 1) []
  part_message z =
      let u = untested (part_rules vars degree messages round) refl e z in
      let most : round ≤ vars = ltb-false vars round (neither_right (eqb round 0) (ltb vars round) u.1.1.1.0) in
      let some : 0 < round = part_some z in
      sym
      (parts_at vars (suc degree) messages (round - 1) (omega arith)
      ∙ ap₂ {B = ℕ} (λ (l i : ℕ). take l (drop i messages)) (part_long z) (part_start_lem z))

-- refused or not, the part lies inside the list
pub part_within : (vars degree : ℕ) (messages : List ℕ) (round : ℕ)
    → part_start vars degree messages round + part_length vars degree messages round ≤ length messages
part_within vars degree messages round = go (eqb (part_refusal vars degree messages round) 0) refl
  where
    go : (t : Bool) → eqb (part_refusal vars degree messages round) 0 ≡ t
        → part_start vars degree messages round + part_length vars degree messages round ≤ length messages
    go true t =
        let z : part_refusal vars degree messages round ≡ 0 = eqb-true (part_refusal vars degree messages round) 0 t in
        omega (
          arith,
          part_inside vars degree messages round refl z,
          part_start_lem vars degree messages round refl z,
          part_long vars degree messages
              round refl z,
        )
    go false t =
        let z : part_refusal vars degree messages round ≡ 0 → ⊥ = eqb-false (part_refusal vars degree messages round) 0 t in
        omega (arith, part_none vars degree messages round refl z, part_short vars degree messages round refl z)
