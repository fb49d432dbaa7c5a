-- The machine that reads a line: its run over bytes is its steps over the first line, one byte after another (`ran`), and a line that is
-- not of its form stays so. Assumes nothing.
use mathlib.Core.Path.{◌≡◌, refl, sym, ap, ◌∙◌}
use mathlib.Core.Bool.{Bool, true, false}
use mathlib.Core.List.{List, [], ◌∷◌}
use Prim.Native.Nat.{ℕ, ◌-◌}
use lib.ListN.{length}
use lib.Dec.{eqb}
use borrow.Author.Tests.{ne_eqb, eq-eqb}
use Rattle.layout.specs.Bytes.{class_of, Cut, ended, unended, longer, first_line}
use Rattle.layout.specs.Bytes as bytes
use Rattle.layout.proofs.Classes.{means, class_line_end}
use Rattle.file_line.specs.declared.line.Wanted.{Wanted}
use Rattle.file_line.specs.declared.state.State.{State}
use Rattle.file_line.specs.declared.state.State.TheVariants.{Bad}
use Rattle.file_line.specs.OneLine.{Brief, stopped}
use Rattle.file_line.specs.Steps.{step_of, closed_of, run_of}

-- a byte is in the class of line ends if and only if it is byte 10
pub ends_line : (b : ℕ) → class_of b ≡ bytes.line_end → eqb b 10 ≡ true
ends_line b e = eq-eqb b 10 (rw e at (means b))

pub goes_on : (b : ℕ) → (class_of b ≡ bytes.line_end → ⊥) → eqb b 10 ≡ false
goes_on b h = ne_eqb b 10 (λ e. h (class_line_end b e))

module _ (w : Wanted) (word : List ℕ) where
  -- the machine's steps over a text
  abbrev pub steps_of : State → List ℕ → State
  steps_of state [] = state
  steps_of state (b ∷ text) = steps_of (step_of w word b (class_of b) state) text

  -- on the last bytes of so many, cut at the line end
  abbrev pub on_cut : ℕ → State → Cut → Brief
  on_cut size state (ended text rest) = closed_of w (steps_of state text) (size - length rest)
  on_cut size state (unended text) = stopped 10 w.line

  on_longer : (size : ℕ) (state : State) (b : ℕ) (cut : Cut) → on_cut size (step_of w word b (class_of b) state) cut ≡ on_cut size state (longer b cut)
  on_longer size state b (ended text rest) = refl
  on_longer size state b (unended text) = refl

  pub ran : (size : ℕ) (state : State) (s : List ℕ) → run_of size w word state s ≡ on_cut size state (first_line s)
  ran size state [] = refl
  ran size state (b ∷ s) = go (eqb b 10) refl (ran size (step_of w word b (class_of b) state) s)
    where
      go : (t : Bool) → eqb b 10 ≡ t
          → run_of size w word (step_of w word b (class_of b) state) s ≡ on_cut size (step_of w word b (class_of b) state) (first_line s)
          → run_of size w word state (b ∷ s) ≡ on_cut size state (first_line (b ∷ s))
      go true e ih = rw e
      go false e ih = rw e (ih ∙ on_longer size state b (first_line s))

  steps_bad : (text : List ℕ) → steps_of Bad text ≡ Bad
  steps_bad [] = refl
  steps_bad (b ∷ text) = steps_bad text

  pub closed_bad : (state : State) (text : List ℕ) (next : ℕ) → Bad ≡ state → closed_of w (steps_of state text) next ≡ stopped 10 w.line
  closed_bad state text next e = ap (λ (s : State). closed_of w (steps_of s text) next) (sym e) ∙ ap (λ (s : State). closed_of w s next) (steps_bad text)
