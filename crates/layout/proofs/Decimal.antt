-- Numbers and their digits: the digits of n are a number of value n, and a number is the digits of its value. One digit more is ten times
-- the value and the digit (`decimal_more`); the rest follows digit by digit. Assumes nothing.
use mathlib.Core.Path.{◌≡◌, refl, sym, ap, ap₂, subst, ◌∙◌}
use mathlib.Core.Bool.{Bool, true, false, ◌&&◌}
use mathlib.Core.List.{List, [], ◌∷◌, ◌++◌, append-nil, append_assoc}
use Prim.Native.Nat.{ℕ, zero, suc, ◌+◌, ◌-◌, ◌*◌, ◌/◌, ◌%◌, ◌^◌, ◌≤◌, ◌<◌}
use native.Mathlib.Nat.{pow-suc}
use native.Mathlib.Omega.{arith}
use lib.ListN.{length, length-append}
use lib.Dec.{eqb, ltb}
use borrow.Author.Tests.{eqb-false, lt-ltb, le-ltb, ltb-true, ltb-false, not-true}
use Rattle.layout.specs.Bytes.{within, is_digit}
use Rattle.layout.specs.Number.{all, plain, is_number, number_of, number_from, digits, decimal}
use Rattle.layout.proofs.Tests.{between_in, between_holds, both}
use Rattle.layout.proofs.Numbers.{number_yes, all_append, plain_first, value_from-append}

-- the last digit, and a digit before others
abbrev step : ℕ → ℕ → Bool → List ℕ
step f n t = elim t as (λ x. List ℕ) [ true ↦ (48 + n) ∷ [] | false ↦ digits f (n / 10) ++ (48 + n % 10) ∷ [] ]

digits_last : (f n : ℕ) → n < 10 → digits (suc f) n ≡ (48 + n) ∷ []
unfolding digits
digits_last f n h = ap (step f n) (lt-ltb n 10 h)

digits-before : (f n : ℕ) → 10 ≤ n → digits (suc f) n ≡ digits f (n / 10) ++ (48 + n % 10) ∷ []
unfolding digits
digits-before f n h = ap (step f n) (le-ltb n 10 h)

-- digits that are enough are always the same
digits_same : (f g n : ℕ) → n < f → n < g → digits f n ≡ digits g n
digits_same zero g n h k = absurd (omega arith)
digits_same (suc f) zero n h k = absurd (omega arith)
digits_same (suc f) (suc g) n h k = go (ltb n 10) refl (digits_same f g (n / 10))
  where
    go : (t : Bool) → ltb n 10 ≡ t → (n / 10 < f → n / 10 < g → digits f (n / 10) ≡ digits g (n / 10)) → digits (suc f) n ≡ digits (suc g) n
    go true e ih = let l = ltb-true n 10 e in digits_last f n l ∙ sym (digits_last g n l)
    go false e ih =
        let l = ltb-false n 10 e in
        digits-before f n l
        ∙ (ap (λ (ds : List ℕ). ds ++ (48 + n % 10) ∷ []) (ih (omega arith) (omega arith)) ∙ sym (digits-before g n l))

-- one digit
pub decimal_one : (n : ℕ) → n < 10 → decimal n ≡ (48 + n) ∷ []
unfolding decimal
decimal_one n h = digits_last n n h

-- one digit more
pub decimal_more : (v e : ℕ) → 1 ≤ v → e < 10 → decimal (v * 10 + e) ≡ decimal v ++ (48 + e) ∷ []
unfolding decimal
decimal_more v e h l =
    let n = v * 10 + e in
    let q : n / 10 ≡ v = omega arith in
    let r : n % 10 ≡ e = omega arith in
    digits-before n n (omega arith)
    ∙ (ap₂ (λ (m k : ℕ). digits n m ++ (48 + k) ∷ []) q r
    ∙ ap (λ (ds : List ℕ). ds ++ (48 + e) ∷ []) (digits_same n (suc v) v (omega arith) (omega arith)))

-- a number is the digits of its value: the digits so far are those of v, and more follow
more_digits : (v : ℕ) (rest : List ℕ) → 1 ≤ v → all is_digit rest ≡ true → decimal v ++ rest ≡ decimal (number_from v rest)
more_digits v [] h d = append-nil (decimal v)
more_digits v (b ∷ rest) h d =
    let r = both (is_digit b) (all is_digit rest) d in
    let l = between_holds 48 57 b r.0 in
    let s : 48 + (b - 48) ≡ b = omega arith in
    sym (append_assoc (decimal v) (b ∷ []) rest)
    ∙ (ap (λ (ds : List ℕ). ds ++ rest) (sym (decimal_more v (b - 48) h (omega arith) ∙ ap (λ (x : ℕ). decimal v ++ x ∷ []) s))
    ∙ more_digits (v * 10 + (b - 48)) rest (omega arith) r.1)

-- what is known of a number
number_parts : (most : ℕ) (text : List ℕ) → is_number most text ≡ true
    → (all is_digit text ≡ true) × (1 ≤ length text) × (length text ≤ most) × (plain text ≡ true)
number_parts most text e =
    let a = both (all is_digit text) (within 1 most (length text) && plain text) e in
    let b = both (within 1 most (length text)) (plain text) a.1 in
    let c = between_holds 1 most (length text) b.0 in
    (a.0, c.0, c.1, b.1)

pub number_decimal : (most : ℕ) (text : List ℕ) → is_number most text ≡ true → (text ≡ decimal (number_of text)) × (length text ≤ most)
number_decimal most [] e = absurd (let h = number_parts most [] e in omega arith)
number_decimal most (b ∷ []) e =
    let h = number_parts most (b ∷ []) e in
    let l = between_holds 48 57 b (both (is_digit b) true h.0).0 in
    let s : 48 + (b - 48) ≡ b = omega arith in
    let z : 0 * 10 + (b - 48) ≡ b - 48 = omega arith in
    (sym (ap decimal z ∙ (decimal_one (b - 48) (omega arith) ∙ ap (λ (x : ℕ). x ∷ []) s)), h.2)
number_decimal most (b ∷ c ∷ rest) e =
    let h = number_parts most (b ∷ c ∷ rest) e in
    let d = both (is_digit b) (all is_digit (c ∷ rest)) h.0 in
    let l = between_holds 48 57 b d.0 in
    let n = eqb-false b 48 (not-true (eqb b 48) h.3) in
    let s : 48 + (b - 48) ≡ b = omega arith in
    let z : b - 48 ≡ 0 * 10 + (b - 48) = omega arith in (
      ap (λ (ds : List ℕ). ds ++ c ∷ rest) (sym (decimal_one (b - 48) (omega arith) ∙ ap (λ (x : ℕ). x ∷ []) s))
          ∙ (more_digits (b - 48) (c ∷ rest) (omega arith) d.1 ∙ ap (λ (v : ℕ). decimal (number_from v (c ∷ rest))) z),
      h.2,
    )

-- the digits of n: of value n, digits all, and with a first digit that is 0 only for 0 itself
record Shape (n : ℕ) : Type 0 where
  says : number_of (decimal n) ≡ n
  each : all is_digit (decimal n) ≡ true
  first : ℕ
  later : List ℕ
  here : decimal n ≡ first ∷ later
  lead : plain (decimal n) ≡ true
  high : 1 ≤ n → first ≡ 48 → ⊥

shape_one : (n : ℕ) → n < 10 → Shape n
shape_one n h =
    let d = decimal_one n h in
    record {
      says = ap number_of d ∙ omega arith;
      each = ap (all is_digit) d ∙ rw (between_in 48 57 (48 + n) (omega arith) (omega arith));
      first = 48 + n;
      later = [];
      here = d;
      lead = ap plain d;
      high = λ l e. omega arith;
    }

shape_more : (v e : ℕ) → 1 ≤ v → e < 10 → Shape v → Shape (v * 10 + e)
shape_more v e h l s =
    let d = decimal_more v e h l in
    let f : decimal (v * 10 + e) ≡ s.first ∷ (s.later ++ (48 + e) ∷ []) = d ∙ ap (λ (ds : List ℕ). ds ++ (48 + e) ∷ []) s.here in
    record {
      says = ap number_of d ∙ (value_from-append 0 (decimal v) (48 + e) ∙ omega (arith, s.says));
      each = ap (all is_digit) d ∙ (all_append is_digit (decimal v) ((48 + e) ∷ []) ∙ rw (s.each, between_in 48 57 (48 + e) (omega arith) (omega arith)));
      first = s.first;
      later = s.later ++ (48 + e) ∷ [];
      here = f;
      lead = ap plain f ∙ plain_first s.first (s.later ++ (48 + e) ∷ []) (s.high h);
      high = λ m. s.high h;
    }

shape : (fuel n : ℕ) → n < fuel → Shape n
shape zero n h = absurd (omega arith)
shape (suc fuel) n h = go (ltb n 10) refl (shape fuel (n / 10))
  where
    go : (t : Bool) → ltb n 10 ≡ t → (n / 10 < fuel → Shape (n / 10)) → Shape n
    go true e ih = shape_one n (ltb-true n 10 e)
    go false e ih =
        let l = ltb-false n 10 e in
        let m : n / 10 * 10 + n % 10 ≡ n = omega arith in
        subst Shape m (shape_more (n / 10) (n % 10) (omega arith) (omega arith) (ih (omega arith)))

pub decimal-value : (n : ℕ) → number_of (decimal n) ≡ n
decimal-value n = (shape (suc n) n (omega arith)).says

pub decimal-digits : (n : ℕ) → all is_digit (decimal n) ≡ true
decimal-digits n = (shape (suc n) n (omega arith)).each

pub decimal_number : (most n : ℕ) → length (decimal n) ≤ most → is_number most (decimal n) ≡ true
decimal_number most n h =
    let s = shape (suc n) n (omega arith) in
    number_yes most (decimal n) s.each (omega (arith, ap length s.here)) h s.lead

-- below 10^k there are at most k digits
pub decimal-length : (k n : ℕ) → n < 10 ^ suc k → length (decimal n) ≤ suc k
decimal-length zero n h = omega (arith, ap length (decimal_one n h))
decimal-length (suc k) n h = go (ltb n 10) refl (decimal-length k (n / 10))
  where
    go : (t : Bool) → ltb n 10 ≡ t → (n / 10 < 10 ^ suc k → length (decimal (n / 10)) ≤ suc k) → length (decimal n) ≤ suc (suc k)
    go true e ih = omega (arith, ap length (decimal_one n (ltb-true n 10 e)))
    go false e ih =
        let l = ltb-false n 10 e in
        let m : n / 10 * 10 + n % 10 ≡ n = omega arith in
        let d = ap decimal (sym m) ∙ decimal_more (n / 10) (n % 10) (omega arith) (omega arith) in
        let i = ih (omega (arith, pow-suc 10 (suc k))) in
        omega (arith, ap length d, length-append (decimal (n / 10)) ((48 + n % 10) ∷ []))
