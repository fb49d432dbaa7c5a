-- Why a promise that is an equation has one answer (document 01, "Pinning every answer").
use Rattle.std.specs.Prelude.{◌≡◌}

-- no two answers say the same
abbrev pub Pins : {R A : Type 0} → (R → A) → Type 0
Pins {R} says = (r r' : R) → says r ≡ says r' → r ≡ r'

-- if what an answer says is promised to be d, and no two answers say the same, then there is one answer
abbrev pub OneAnswer : Type 1
OneAnswer = (R A : Type 0) (says : R → A) → Pins says → (d : A) (r r' : R) → says r ≡ d → says r' ≡ d → r ≡ r'
