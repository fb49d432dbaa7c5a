-- Tests and the facts that they stand for: `between`, `&&` and `choose`. Assumes nothing.
use mathlib.Core.Path.{◌≡◌, refl}
use mathlib.Core.Bool.{Bool, true, false, ◌&&◌}
use Prim.Native.Nat.{ℕ, ◌≤◌, ◌<◌}
use native.Mathlib.Omega.{arith}
use lib.Dec.{leb}
use borrow.Author.Tests.{le-leb, lt-leb, leb-true}
use Rattle.layout.specs.Bytes.{within}

pub between_in : (low high n : ℕ) → low ≤ n → n ≤ high → within low high n ≡ true
between_in low high n l h = rw (le-leb low n l, le-leb n high h)

pub between_low : (low high n : ℕ) → n < low → within low high n ≡ false
between_low low high n l = rw (lt-leb low n l)

pub between_high : (low high n : ℕ) → high < n → within low high n ≡ false
between_high low high n h = go (leb low n) refl
  where
    go : (t : Bool) → leb low n ≡ t → within low high n ≡ false
    go true e = rw (e, lt-leb n high h)
    go false e = rw e

-- both halves of a conjunction that holds
pub both : (s t : Bool) → (s && t) ≡ true → (s ≡ true) × (t ≡ true)
both true t e = (refl, e)
both false t e = (e, absurd (let z : ◌≡◌ {A = Bool} false true = e in false-not-true z))
  where
    false-not-true : ◌≡◌ {A = Bool} false true → ⊥
    false-not-true z = let w : ◌≡◌ {A = ℕ} 0 1 = cc in omega arith

pub between_holds : (low high n : ℕ) → within low high n ≡ true → (low ≤ n) × (n ≤ high)
between_holds low high n e =
    let h = both (leb low n) (leb n high) e in
    (leb-true low n h.0, leb-true n high h.1)
