-- A promise that is an equation has one answer. Assumes nothing.
use mathlib.Core.Path.{◌≡◌, refl, sym, ap, ◌∙◌}
use Prim.Native.Nat.{ℕ}
use Rattle.std.specs.Prelude.{Result, Ok, Err, List, [], ◌∷◌, slice_index_or}
use Rattle.refusals.specs.Pinned.{Pins, OneAnswer}
use Rattle.refusals.specs.Said.{number_of, said, number_said}
use Rattle.refusals.specs.declared.refusal.Refusal.{Refusal}
use Rattle.refusals.specs.declared.refusal.Refusal.TheVariants.{TooManyVars, BadDegree, WrongLength, TooShort, NoElement, InverseOfZero, StateForbids}
use Rattle.refusals.specs.declared.refusal.Refusal.TheVariants.{NoSuchRound, FileTooLong, BadLine, FileEnds, NotAllowed, FileGoesOn}

pub one_answer : OneAnswer
one_answer R A says pins d r r' e e' = pins r r' (e ∙ sym e')

-- a number, a list, or a struct that a promise names itself says itself
pub itself_pins : {R : Type 0} → Pins (λ (r : R). r)
itself_pins r r' e = e

-- nothing refused, and the refusals, by their numbers from 0 on
all : List (Result (Unit {0}) Refusal)
all =
    Ok tt ∷ Err TooManyVars ∷ Err BadDegree ∷ Err WrongLength ∷ Err TooShort ∷ Err NoElement ∷ Err InverseOfZero ∷ Err StateForbids ∷ Err NoSuchRound
    ∷ Err FileTooLong ∷ Err BadLine ∷ Err FileEnds ∷ Err NotAllowed ∷ Err FileGoesOn ∷ []

-- what stands at a number
abbrev at : ℕ → Result (Unit {0}) Refusal
at number = slice_index_or all number (Ok tt)

-- a refusal is found by its number
found : (refusal : Refusal) → at (number_of refusal) ≡ Err refusal
unfolding all
found TooManyVars = refl
found BadDegree = refl
found WrongLength = refl
found TooShort = refl
found NoElement = refl
found InverseOfZero = refl
found StateForbids = refl
found NoSuchRound = refl
found FileTooLong = refl
found BadLine = refl
found FileEnds = refl
found NotAllowed = refl
found FileGoesOn = refl

found_result : (r : Result (Unit {0}) Refusal) → at (number_said r) ≡ r
unfolding all
found_result (Ok x) = refl
found_result (Err refusal) = found refusal

-- no two results of nothing or a refusal have one number
pub number_pins : Pins (number_said {A = Unit {0}})
number_pins r r' e = sym (found_result r) ∙ (ap at e ∙ found_result r')

-- no two refusals have one number
pub refusal_pins : Pins number_of
refusal_pins r r' e = let same : ◌≡◌ {A = Result (Unit {0}) Refusal} (Err r) (Err r') = number_pins (Err r) (Err r') e in cc

-- no two results say the same
pub said_pins : {A : Type 0} → Pins (said {A = A})
said_pins (Ok a) (Ok b) e = cc
said_pins (Ok a) (Err r) e = cc
said_pins (Err r) (Ok b) e = cc
said_pins {A} (Err r) (Err r') e = let same : number_of r ≡ number_of r' = cc in ap (λ (refusal : Refusal). Err refusal) (refusal_pins r r' same)
