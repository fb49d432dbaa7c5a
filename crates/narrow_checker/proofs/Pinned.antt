-- No two answers say the same (refusals, specs/Pinned). Assumes nothing.
use mathlib.Core.Path.{◌≡◌, refl, ap}
use Prim.Native.Nat.{ℕ}
use Rattle.std.specs.Prelude.{Ok, Err}
use Rattle.refusals.specs.Pinned.{Pins}
use Rattle.refusals.specs.declared.refusal.Refusal.{Refusal}
use Rattle.refusals.proofs.Pinned.{refusal_pins}
use Rattle.narrow_checker.specs.Said.{said_by, said, said_rounds}
use Rattle.narrow_checker.specs.declared.failure.Failure.TheVariants.{Refused, Rejected}

-- no two answers say the same where no two values do, no two rounds do, and no value says what a round does
module _ {A B : Type 0} {value : A → B} {rejecting : ℕ → B} (one : Pins value) (other : Pins rejecting)
    (apart : (a : A) (round : ℕ) → value a ≡ rejecting round → ⊥) where
  pub by_pins : Pins (said_by value rejecting)
  by_pins (Ok a) (Ok b) e = ap (λ (x : A). Ok x) (one a b cc)
  by_pins (Ok a) (Err (Rejected j)) e = absurd (apart a j cc)
  by_pins (Ok a) (Err (Refused r)) e = cc
  by_pins (Err (Rejected i)) (Ok b) e = let f : value b ≡ rejecting i = cc in absurd (apart b i f)
  by_pins (Err (Rejected i)) (Err (Rejected j)) e = ap (λ (round : ℕ). Err (Rejected round)) (other i j cc)
  by_pins (Err (Rejected i)) (Err (Refused r)) e = cc
  by_pins (Err (Refused q)) (Ok b) e = cc
  by_pins (Err (Refused q)) (Err (Rejected j)) e = cc
  by_pins (Err (Refused q)) (Err (Refused r)) e = ap (λ (refusal : Refusal). Err (Refused refusal)) (refusal_pins q r cc)

pub said_pins : Pins said
said_pins = by_pins (λ x y e. refl) (λ i j e. cc) (λ x j e. cc)

pub rounds_pins : Pins said_rounds
rounds_pins = by_pins (λ i j e. cc) (λ i j e. cc) (λ i j e. cc)
