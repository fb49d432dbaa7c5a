-- What the machine's steps come to (specs/Steps), one law for each path: the tests on the way pick the case. Assumes nothing.
use mathlib.Core.Path.{◌≡◌}
use mathlib.Core.Bool.{Bool, true, false}
use mathlib.Core.List.{List}
use Prim.Native.Nat.{ℕ, ◌+◌, ◌-◌, ◌≤◌, ◌<◌}
use lib.ListN.{length, get_or}
use borrow.Author.Tests.{le-leb, lt-leb, eq-eqb, ne_eqb}
use Rattle.file_line.specs.declared.line.Wanted.{Wanted}
use Rattle.file_line.specs.declared.numbers.Number.{Number}
use Rattle.file_line.specs.declared.state.State.TheVariants.{Letters, Numbers, Bad}
use Rattle.file_line.specs.OneLine.{stopped, went}
use Rattle.file_line.specs.Steps.{more_of, still_of, with_digit, with_comma, with_letter, opened, closed_number}

module _ (w : Wanted) (n : Number) where
  pub digit_full : (b : ℕ) → w.digits ≤ n.digits → Bad ≡ with_digit w n b
  unfolding with_digit
  digit_full b h = rw (le-leb w.digits n.digits h)

  pub digit_first : (b : ℕ) (m : Number) → n.digits < w.digits → n.digits ≡ 0 → m ≡ more_of n b → Numbers m ≡ with_digit w n b
  unfolding with_digit
  digit_first b m h z e = rw (lt-leb w.digits n.digits h, eq-eqb n.digits 0 z, e)

  pub digit-after-zero : (b : ℕ) → n.digits < w.digits → (n.digits ≡ 0 → ⊥) → n.value ≡ 0 → Bad ≡ with_digit w n b
  unfolding with_digit
  digit-after-zero b h z e = rw (lt-leb w.digits n.digits h, ne_eqb n.digits 0 z, eq-eqb n.value 0 e)

  pub digit_later : (b : ℕ) (m : Number) → n.digits < w.digits → (n.digits ≡ 0 → ⊥) → (n.value ≡ 0 → ⊥) → m ≡ more_of n b
      → Numbers m ≡ with_digit w n b
  unfolding with_digit
  digit_later b m h z y e = rw (lt-leb w.digits n.digits h, ne_eqb n.digits 0 z, ne_eqb n.value 0 y, e)

  pub comma_empty : n.digits ≡ 0 → Bad ≡ with_comma w n
  unfolding with_comma
  comma_empty z = rw (eq-eqb n.digits 0 z)

  pub comma_last : (n.digits ≡ 0 → ⊥) → n.commas ≡ 0 → Bad ≡ with_comma w n
  unfolding with_comma
  comma_last z e = rw (ne_eqb n.digits 0 z, eq-eqb n.commas 0 e)

  pub comma-next : (t : Bool) → (n.digits ≡ 0 → ⊥) → (n.commas ≡ 0 → ⊥) → t ≡ still_of w n
      → Numbers (record { digits = 0; value = 0; commas = n.commas - 1; allowed = t }) ≡ with_comma w n
  unfolding with_comma
  comma-next t z y e = rw (ne_eqb n.digits 0 z, ne_eqb n.commas 0 y, e)

  pub closed_empty : (next : ℕ) → n.digits ≡ 0 → stopped 10 w.line ≡ closed_number w n next
  unfolding closed_number
  closed_empty next z = rw (eq-eqb n.digits 0 z)

  pub closed_early : (next : ℕ) → (n.digits ≡ 0 → ⊥) → (n.commas ≡ 0 → ⊥) → stopped 10 w.line ≡ closed_number w n next
  unfolding closed_number
  closed_early next z y = rw (ne_eqb n.digits 0 z, ne_eqb n.commas 0 y)

  pub closed-refused : (next : ℕ) → (n.digits ≡ 0 → ⊥) → n.commas ≡ 0 → still_of w n ≡ false → stopped 12 w.line ≡ closed_number w n next
  unfolding closed_number
  closed-refused next z y e = rw (ne_eqb n.digits 0 z, eq-eqb n.commas 0 y, e)

  pub closed-found : (next : ℕ) → (n.digits ≡ 0 → ⊥) → n.commas ≡ 0 → still_of w n ≡ true → went n.value next ≡ closed_number w n next
  unfolding closed_number
  closed-found next z y e = rw (ne_eqb n.digits 0 z, eq-eqb n.commas 0 y, e)

pub letter_past : (word : List ℕ) (letters b : ℕ) → length word ≤ letters → Bad ≡ with_letter word letters b
unfolding with_letter
letter_past word letters b h = rw (le-leb (length word) letters h)

pub letter-right : (word : List ℕ) (letters b : ℕ) → letters < length word → b ≡ get_or word letters 0 → Letters (letters + 1) ≡ with_letter word letters b
unfolding with_letter
letter-right word letters b h e = rw (lt-leb (length word) letters h, eq-eqb b (get_or word letters 0) e)

pub letter_wrong : (word : List ℕ) (letters b : ℕ) → letters < length word → (b ≡ get_or word letters 0 → ⊥) → Bad ≡ with_letter word letters b
unfolding with_letter
letter_wrong word letters b h e = rw (lt-leb (length word) letters h, ne_eqb b (get_or word letters 0) e)

pub open_right : (w : Wanted) (word : List ℕ) (letters : ℕ) → letters ≡ length word
    → Numbers (record { digits = 0; value = 0; commas = w.commas; allowed = true }) ≡ opened w word letters
unfolding opened
open_right w word letters e = rw (eq-eqb letters (length word) e)

pub open_wrong : (w : Wanted) (word : List ℕ) (letters : ℕ) → (letters ≡ length word → ⊥) → Bad ≡ opened w word letters
unfolding opened
open_wrong w word letters e = rw (ne_eqb letters (length word) e)
