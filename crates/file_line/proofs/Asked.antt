-- A reader asks for a line by the least and the greatest number that is allowed, and the layout has a test. Where the two agree the lines
-- are the same (`allowed_same`), and so they do for a test of one number, up to a number, or below one. Assumes nothing.
use mathlib.Core.Path.{◌≡◌, refl, sym, ap, fun_ext, ◌∙◌}
use mathlib.Core.Bool.{Bool, true, false}
use mathlib.Core.List.{List}
use Prim.Native.Nat.{ℕ, suc}
use native.Mathlib.Omega.{arith}
use lib.Dec.{leb, ltb, eqb, leb-zero}
use borrow.Author.Tests.{eqb-true, eqb-false, leb-true, leb-false, lt-ltb, le-ltb}
use Rattle.layout.specs.Bytes.{within}
use Rattle.layout.specs.Line as layout
use Rattle.layout.proofs.Tests.{between_in, between_low, between_high}

pub between-exact : (e n : ℕ) → within e e n ≡ eqb n e
between-exact e n = go (eqb n e) refl
  where
    go : (t : Bool) → eqb n e ≡ t → within e e n ≡ t
    go true h = let z = eqb-true n e h in between_in e e n (omega arith) (omega arith)
    go false h = order (leb e n) refl (eqb-false n e h)
      where
        order : (t : Bool) → leb e n ≡ t → (n ≡ e → ⊥) → within e e n ≡ false
        order true l z = between_high e e n (omega (arith, leb-true e n l))
        order false l z = between_low e e n (leb-false e n l)

pub between_upto : (m n : ℕ) → within 0 m n ≡ leb n m
between_upto m n = rw (leb-zero n)

pub between-below : (m q n : ℕ) → q ≡ suc m → within 0 m n ≡ ltb n q
between-below m q n e = go (leb n m) refl
  where
    go : (t : Bool) → leb n m ≡ t → within 0 m n ≡ ltb n q
    go true h = let z = leb-true n m h in between_upto m n ∙ (h ∙ sym (lt-ltb n q (omega arith)))
    go false h = let z = leb-false n m h in between_upto m n ∙ (h ∙ sym (le-ltb n q (omega arith)))

-- two lines that allow the same numbers
pub allowed_same : (word : List ℕ) (count most : ℕ) (f g : ℕ → Bool) → ((n : ℕ) → f n ≡ g n)
    → ◌≡◌ {A = layout.Line} (record { word = word; count = count; most = most; allowed = f }) (record { word = word; count = count; most = most; allowed = g })
allowed_same word count most f g h = ap (λ (test : ℕ → Bool). record { word = word; count = count; most = most; allowed = test }) (fun_ext h)
