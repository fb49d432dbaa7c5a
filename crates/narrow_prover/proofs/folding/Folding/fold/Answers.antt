-- `narrow_prover::fold::Folding::fold` meets its contract: the first tables are folded, each in its place. Assumes nothing.
use Rattle.std.proofs.Common.{◌≡◌, ℕ, ◌+◌, ◌-◌, ◌*◌, ◌≤◌, List, ◌++◌, length, take, drop, refl, ap, ◌∙◌}
use native.Mathlib.Nat.{mul-le-mul_right}
use native.Mathlib.Omega.{arith}
use Rattle.sumcheck.proofs.FoldedParts.{folded_part, folded_part-length}
use Rattle.sumcheck.proofs.Laid.{changed_none, changed_more}
use Rattle.narrow_field.specs.Narrow.{p}
use Rattle.narrow_prover.proofs.folding.Folding.fold.Goals as goal

-- a folded table keeps its length
keeps : (r half places : ℕ) → half + half ≤ places → (u : List ℕ) → length u ≡ places → length (folded_part p r half u) ≡ places
keeps r half places h u e = folded_part-length p r half places u (omega arith) e

pub loop-table-init : goal.loop-table-init
loop-table-init c =
    let s = c.args.self in
    changed_none (folded_part p c.args.r s.half) s.places (keeps c.args.r s.half s.places s.both_halves) c.args.tables.now

pub loop-table-preserved : goal.loop-table-preserved
loop-table-preserved c =
    let s = c.args.self in
    let at = c.loop-table in
    let start = c.loop-table.table * c.args.self.places in
    let room : (c.loop-table.table + 1) * c.args.self.places ≤ length c.args.tables.now =
    omega (arith, mul-le-mul_right {m = c.loop-table.table + 1} {n = c.args.self.count} c.args.self.places (omega arith), c.requires) in
    ap (λ (u : List ℕ). take start at.tables ++ (u ++ drop (start + s.places - start) (drop start at.tables))) c.fold_table.ensures
    ∙ changed_more (folded_part p c.args.r s.half) s.places (keeps c.args.r s.half s.places s.both_halves) c.args.tables.now at.table start at.tables room
    refl at.invariant
