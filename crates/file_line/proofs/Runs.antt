-- The machine's run from a place of the bytes: one byte more, a line end, the bytes' end; and a line that is missing. Assumes nothing.
use mathlib.Core.Path.{◌≡◌, sym, ap, ◌∙◌}
use mathlib.Core.Bool.{true}
use mathlib.Core.List.{List, [], ◌∷◌}
use Prim.Native.Nat.{ℕ, ◌+◌, ◌-◌, ◌≤◌, ◌<◌}
use native.Mathlib.Omega.{arith}
use native.Mathlib.Numerals.{add-one}
use lib.ListN.{length, get_or, take, drop, length-drop, drop_of_length-le}
use lib.Seq.{drop-cons, take-length}
use Rattle.layout.specs.Bytes.{is_letter, class_of}
use Rattle.layout.specs.Bytes as bytes
use Rattle.layout.specs.Number.{all}
use Rattle.layout.specs.Line.{line_at}
use Rattle.layout.specs.Line as layout
use Rattle.file_line.specs.declared.line.Wanted.{Wanted}
use Rattle.file_line.specs.declared.state.State.{State}
use Rattle.file_line.specs.declared.state.State.TheVariants.{Letters}
use Rattle.file_line.specs.OneLine.{stopped, brief, line_with}
use Rattle.file_line.specs.Steps.{greatest, step_of, closed_of, run_of}
use Rattle.file_line.proofs.Machine.{ends_line, goes_on}
use Rattle.file_line.proofs.Words.{run_line}

-- a place within a list: what stands there, and the rest after it
pub drop_here : (xs : List ℕ) (i : ℕ) → i < length xs → drop i xs ≡ get_or xs i 0 ∷ drop (i + 1) xs
drop_here xs i h = drop-cons xs i 0 h ∙ ap (λ (j : ℕ). get_or xs i 0 ∷ drop j xs) (sym (add-one i))

-- the bytes from a place on, as a part of the code's list
pub from_place : (xs : List ℕ) (at : ℕ) → take (length xs - at) (drop at xs) ≡ drop at xs
from_place xs at = rw (← length-drop at xs) (take-length (drop at xs))

module _ (size : ℕ) (w : Wanted) (word xs : List ℕ) (state : State) (i : ℕ) where
  pub run_more : {next : State} → i < length xs → (class_of (get_or xs i 0) ≡ bytes.line_end → ⊥)
      → next ≡ step_of w word (get_or xs i 0) (class_of (get_or xs i 0)) state
      → run_of size w word next (drop (i + 1) xs) ≡ run_of size w word state (drop i xs)
  run_more h e s = rw (drop_here xs i h, goes_on (get_or xs i 0) e, s)

  pub run_end : (next : ℕ) → next + length xs ≡ size + (i + 1) → i < length xs → class_of (get_or xs i 0) ≡ bytes.line_end
      → run_of size w word state (drop i xs) ≡ closed_of w state next
  run_end next n h e =
      let m : size - length (drop (i + 1) xs) ≡ next = omega (arith, length-drop (i + 1) xs) in
      rw (drop_here xs i h, ends_line (get_or xs i 0) e, m)

pub line_missing : (xs : List ℕ) (at n : ℕ) (line : layout.Line) → length xs ≤ at → stopped 11 n ≡ brief (length xs) (line_at n line (drop at xs))
unfolding line_at
line_missing xs at n line h = rw (drop_of_length-le xs h)

pub line_there : (size : ℕ) (w : Wanted) (word xs : List ℕ) → all is_letter word ≡ true → w.high ≤ greatest → 0 < length xs
    → run_of size w word (Letters 0) xs ≡ brief size (line_at w.line (line_with word w) xs)
line_there size w word [] letters limit h = absurd (omega arith)
line_there size w word (b ∷ xs) letters limit h = run_line w word limit size b xs letters

pub ruleset runs = (run_more, line_missing, line_there)
