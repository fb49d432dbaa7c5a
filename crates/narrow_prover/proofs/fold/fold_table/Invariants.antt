-- `narrow_prover::fold::fold_table`: the first i places are folded, the others are as they were.
use Rattle.std.proofs.Common.{◌≡◌, ℕ, ◌+◌, List, get_or}
use Rattle.sumcheck.specs.Folding.{between}
use Rattle.sumcheck.proofs.Written.{written}
use Rattle.narrow_field.specs.Narrow.{p}
use Rattle.narrow_prover.proofs.fold.fold_table.Given as goal

-- what stands at j in the end
abbrev pub at_last : ℕ → ℕ → List ℕ → ℕ → ℕ
at_last r half table j = between p r (get_or table j 0) (get_or table (half + j) 0)

abbrev pub invariant-loop-i : goal.invariant-loop-i
invariant-loop-i l = l.table ≡ written (at_last l.r l.half l.fn.table) l.i l.fn.table
