-- When bytes are a number and when not, the value with a digit more, and that a text has a first part. Assumes nothing.
use mathlib.Core.Path.{◌≡◌, refl, sym}
use mathlib.Core.Bool.{Bool, true, false, ◌&&◌, and-false, and_assoc}
use mathlib.Core.List.{List, [], ◌∷◌, ◌++◌}
use Prim.Native.Nat.{ℕ, ◌+◌, ◌-◌, ◌*◌, ◌≤◌, ◌<◌}
use lib.ListN.{length}
use lib.Dec.{eqb}
use borrow.Author.Tests.{ne_eqb}
use Rattle.layout.specs.Bytes.{within, is_digit, pieces}
use Rattle.layout.specs.Number.{all, plain, is_number, number_from}
use Rattle.layout.proofs.Tests.{between_in, between_high}

pub and_right : (s t : Bool) → t ≡ false → (s && t) ≡ false
and_right s t e = rw e (and-false s)

pub number_yes : (most : ℕ) (text : List ℕ) → all is_digit text ≡ true → 1 ≤ length text → length text ≤ most → plain text ≡ true → is_number most text ≡ true
number_yes most text d l h p = rw (d, between_in 1 most (length text) l h, p)

pub number_digits : (most : ℕ) (text : List ℕ) → all is_digit text ≡ false → is_number most text ≡ false
number_digits most text d = rw d

pub number_long : (most : ℕ) (text : List ℕ) → most < length text → is_number most text ≡ false
number_long most text h = and_right (all is_digit text) _ (rw (between_high 1 most (length text) h))

pub number_plain : (most : ℕ) (text : List ℕ) → plain text ≡ false → is_number most text ≡ false
number_plain most text p = and_right (all is_digit text) _ (and_right (within 1 most (length text)) _ p)

pub all_append : {A : Type 0} (test : A → Bool) (xs ys : List A) → all test (xs ++ ys) ≡ (all test xs && all test ys)
all_append test [] ys = refl
all_append test (a ∷ xs) ys = rw (all_append test xs ys) (sym (and_assoc (test a) (all test xs) (all test ys)))

-- no leading 0, whatever follows
pub plain_first : (first : ℕ) (later : List ℕ) → (first ≡ 48 → ⊥) → plain (first ∷ later) ≡ true
plain_first first [] h = refl
plain_first first (next ∷ more) h = rw (ne_eqb first 48 h)

pub value_from-append : (v : ℕ) (ds : List ℕ) (b : ℕ) → number_from v (ds ++ b ∷ []) ≡ number_from v ds * 10 + (b - 48)
value_from-append v [] b = refl
value_from-append v (d ∷ ds) b = value_from-append (v * 10 + (d - 48)) ds b

-- there is always a first part
pub pieces_some : (text : List ℕ) → (part : List ℕ) × (more : List (List ℕ)) × (pieces text ≡ part ∷ more)
pieces_some [] = ([], [], refl)
pieces_some (b ∷ text) = go (eqb b 44) refl (pieces_some text)
  where
    go : (t : Bool) → eqb b 44 ≡ t → (part : List ℕ) × (more : List (List ℕ)) × (pieces text ≡ part ∷ more)
        → (part : List ℕ) × (more : List (List ℕ)) × (pieces (b ∷ text) ≡ part ∷ more)
    go true e p = ([], pieces text, rw e)
    go false e p = (b ∷ p.0, p.1, rw (e, p.2))
