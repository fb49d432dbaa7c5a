-- The machine over numbers comes to the verdict on the parts between commas (`numbers_law`). It knows a number by the count of its digits,
-- by their value held at the greatest of 64 bits, and by whether that is the whole value (`held`). Assumes nothing.
use mathlib.Core.Path.{◌≡◌, refl, sym, ap, ap₂, ◌∙◌}
use mathlib.Core.Bool.{Bool, true, false, ◌&&◌, and_assoc, and-true, and-false}
use mathlib.Core.List.{List, [], ◌∷◌, ◌++◌, map, append-nil, append_assoc}
use Prim.Native.Nat.{ℕ, suc, ◌+◌, ◌-◌, ◌*◌, min, ◌≤◌, ◌<◌}
use native.Mathlib.Omega.{arith}
use native.Mathlib.Numerals.{add-one}
use lib.ListN.{length, length-append}
use lib.Dec.{eqb, leb, eqb-suc-suc}
use borrow.Author.Tests.{ne_eqb, eq-eqb, eqb-true, eqb-false, lt-leb, leb-true, leb-false}
use Rattle.refusals.specs.First.{choose}
use Rattle.layout.specs.Bytes.{within, is_digit, class_of, pieces, widen}
use Rattle.layout.specs.Bytes as bytes
use Rattle.layout.specs.Number.{all, plain, is_number, number_of}
use Rattle.layout.specs.Reading.{only}
use Rattle.layout.proofs.Tests.{between_in, between_low, between_high, between_holds, both}
use Rattle.layout.proofs.Classes.{means, Means}
use Rattle.layout.proofs.Numbers.{number_yes, number_digits, number_long, number_plain, all_append, plain_first, value_from-append, pieces_some, and_right}
use Rattle.file_line.specs.declared.line.Wanted.{Wanted}
use Rattle.file_line.specs.declared.numbers.Number.{Number}
use Rattle.file_line.specs.declared.state.State.{State}
use Rattle.file_line.specs.declared.state.State.TheVariants.{Numbers, Bad}
use Rattle.file_line.specs.OneLine.{Brief, stopped, went}
use Rattle.file_line.specs.Steps.{greatest, more_of, still_of, with_digit, with_comma, in_numbers, closed_number, closed_of}
use Rattle.file_line.proofs.Paths.{digit_full, digit_first, digit-after-zero, digit_later, comma_empty, comma_last, comma-next}
use Rattle.file_line.proofs.Paths.{closed_empty, closed_early, closed-refused, closed-found}
use Rattle.file_line.proofs.Machine.{steps_of, closed_bad}

-- digits put before the first part
abbrev pub on_first : List ℕ → List (List ℕ) → List (List ℕ)
on_first ds [] = ds ∷ []
on_first ds (p ∷ ps) = (ds ++ p) ∷ ps

-- what the machine holds after the digits ds of a number, with k commas to come and `a` for the numbers before
abbrev pub held : List ℕ → ℕ → Bool → Number
held ds k a = record { digits = length ds; value = min (number_of ds) greatest; commas = k; allowed = leb (number_of ds) greatest && a }

-- the digits of a number, as far as they are read: none, 0 alone, or some with no leading 0
pub data Prefix (ds : List ℕ) : Type 0 where
  none : ds ≡ [] → Prefix ds
  lone : ds ≡ 48 ∷ [] → Prefix ds
  more : (first : ℕ) (later : List ℕ) → ds ≡ first ∷ later → (first ≡ 48 → ⊥) → all is_digit ds ≡ true → 0 < number_of ds → Prefix ds

prefix_empty : {ds : List ℕ} → Prefix ds → length ds ≡ 0 → ds ≡ []
prefix_empty (none e) z = e
prefix_empty (lone e) z = absurd (omega (arith, ap length e))
prefix_empty (more first later e f g i) z = absurd (omega (arith, ap length e))

on_widen : (ds : List ℕ) (b : ℕ) (qs : List (List ℕ)) → on_first (ds ++ b ∷ []) qs ≡ on_first ds (widen b qs)
on_widen ds b [] = refl
on_widen ds b (p ∷ ps) = ap (λ (q : List ℕ). q ∷ ps) (append_assoc ds (b ∷ []) p)

pub first_none : (text : List ℕ) → on_first [] (pieces text) ≡ pieces text
first_none text = let s = pieces_some text in rw s.2

-- a first digit, and a later one
prefix_first : (b : ℕ) → 48 ≤ b → b ≤ 57 → Prefix (b ∷ [])
prefix_first b l h = go (eqb b 48) refl
  where
    go : (t : Bool) → eqb b 48 ≡ t → Prefix (b ∷ [])
    go true e = lone (rw (eqb-true b 48 e))
    go false e = let z = eqb-false b 48 e in more b [] refl z (rw (between_in 48 57 b l h)) (omega arith)

prefix_later : {ds : List ℕ} (b : ℕ) → 48 ≤ b → b ≤ 57 → (length ds ≡ 0 → ⊥) → (number_of ds ≡ 0 → ⊥) → Prefix ds → Prefix (ds ++ b ∷ [])
prefix_later b l h z y (none e) = absurd (z (ap length e))
prefix_later b l h z y (lone e) = absurd (y (ap number_of e))
prefix_later {ds} b l h z y (more first later e f g i) =
    more first (later ++ b ∷ []) (ap (λ (xs : List ℕ). xs ++ b ∷ []) e) f
    (all_append is_digit ds (b ∷ []) ∙ rw (g, between_in 48 57 b l h))
    (omega (arith, value_from-append 0 ds b))

-- the value is whole after one digit more: it was before, and the digit fits
whole_more : (x y : ℕ) (a : Bool) → (leb (min x greatest * 10 + y) greatest && (leb x greatest && a)) ≡ (leb (x * 10 + y) greatest && a)
whole_more x y a = go (leb x greatest) refl
  where
    go : (t : Bool) → leb x greatest ≡ t → (leb (min x greatest * 10 + y) greatest && (leb x greatest && a)) ≡ (leb (x * 10 + y) greatest && a)
    go true e = let m : min x greatest ≡ x = omega (arith, leb-true x greatest e) in rw (m, e)
    go false e =
        let h = leb-false x greatest e in
        rw (e, lt-leb (x * 10 + y) greatest (omega arith)) (and-false (leb (min x greatest * 10 + y) greatest))

-- what the machine makes of what it holds, and of a digit more
held_more : (ds : List ℕ) (k : ℕ) (a : Bool) (b : ℕ) → more_of (held ds k a) b ≡ held (ds ++ b ∷ []) k a
unfolding more_of
held_more ds k a b =
    let x = number_of ds in
    let y = b - 48 in
    let v : min (min x greatest * 10 + y) greatest ≡ min (x * 10 + y) greatest = omega arith in
    rw (length-append ds (b ∷ []), value_from-append 0 ds b, v, whole_more x y a)

module _ (w : Wanted) where
  -- what a list of parts comes to, with k commas to come and `a` for the numbers before
  unfoldable pub verdict : ℕ → Bool → ℕ → List (List ℕ) → Brief
  verdict k a next qs =
      choose (eqb (length qs) (k + 1) && all (is_number w.digits) qs)
      (choose (a && all (within w.low w.high) (map number_of qs)) (went (only (map number_of qs)) next) (stopped 12 w.line))
      (stopped 10 w.line)

  verdict_no : (k : ℕ) (a : Bool) (next : ℕ) (q : List ℕ) (qs : List (List ℕ)) → is_number w.digits q ≡ false → verdict k a next (q ∷ qs) ≡ stopped 10 w.line
  unfolding verdict
  verdict_no k a next q qs e = rw (e, and_right (eqb (length (q ∷ qs)) (k + 1)) false refl)

  verdict_many : (k : ℕ) (a : Bool) (next : ℕ) (qs : List (List ℕ)) → (length qs ≡ k + 1 → ⊥) → verdict k a next qs ≡ stopped 10 w.line
  unfolding verdict
  verdict_many k a next qs h = rw (ne_eqb (length qs) (k + 1) h)

  -- a number and a comma before other parts
  verdict-cons : (k : ℕ) (a : Bool) (next : ℕ) (q p : List ℕ) (ps : List (List ℕ)) → is_number w.digits q ≡ true → (k ≡ 0 → ⊥)
      → verdict (k - 1) (a && within w.low w.high (number_of q)) next (p ∷ ps) ≡ verdict k a next (q ∷ p ∷ ps)
  unfolding verdict
  verdict-cons k a next q p ps n z =
      let e : eqb (length (q ∷ p ∷ ps)) (k + 1) ≡ eqb (length (p ∷ ps)) (k - 1 + 1) = same_test (length (p ∷ ps)) k z in
      rw (e, n, and_assoc a (within w.low w.high (number_of q)) (all (within w.low w.high) (map number_of (p ∷ ps))))
    where
      same_test : (m j : ℕ) → (j ≡ 0 → ⊥) → eqb (suc m) (j + 1) ≡ eqb m (j - 1 + 1)
      same_test m j h = ap (eqb (suc m)) (add-one j) ∙ (eqb-suc-suc m j ∙ ap (eqb m) (omega arith))

  verdict_last : (k : ℕ) (a : Bool) (next : ℕ) (q : List ℕ) → is_number w.digits q ≡ true → k ≡ 0
      → verdict k a next (q ∷ []) ≡ choose (a && within w.low w.high (number_of q)) (went (number_of q) next) (stopped 12 w.line)
  unfolding verdict
  verdict_last k a next q n z = rw (z, n, and-true (within w.low w.high (number_of q)))

  prefix_number : {ds : List ℕ} → Prefix ds → (length ds ≡ 0 → ⊥) → length ds ≤ w.digits → is_number w.digits ds ≡ true
  prefix_number (none e) z l = absurd (z (ap length e))
  prefix_number (lone e) z l = rw e (number_yes w.digits (48 ∷ []) refl (omega arith) (rw e at l) refl)
  prefix_number {ds} (more first later e f g i) z l =
      number_yes w.digits ds g (omega (arith, ap length e)) l (ap plain e ∙ plain_first first later f)

module _ (w : Wanted) (word : List ℕ) (limit : w.high ≤ greatest) where
  -- the test of what is held is the test of the whole value: one that is greater than 64 bits hold is greater than the limit
  still_held : (ds : List ℕ) (k : ℕ) (a : Bool) → still_of w (held ds k a) ≡ (a && within w.low w.high (number_of ds))
  unfolding still_of
  still_held ds k a = go (leb (number_of ds) greatest) refl
    where
      go : (t : Bool) → leb (number_of ds) greatest ≡ t → still_of w (held ds k a) ≡ (a && within w.low w.high (number_of ds))
      go true e = let m : min (number_of ds) greatest ≡ number_of ds = omega (arith, leb-true (number_of ds) greatest e) in rw (m, e)
      go false e =
          let h = leb-false (number_of ds) greatest e in
          rw e (sym (and_right a (within w.low w.high (number_of ds)) (between_high w.low w.high (number_of ds) (omega arith))))

  -- the machine from a number on comes to the verdict on the parts
  unfoldable pub Law : ℕ → Bool → List ℕ → ℕ → List ℕ → Type 0
  Law k a ds next text = closed_of w (steps_of w word (Numbers (held ds k a)) text) next ≡ verdict w k a next (on_first ds (pieces text))

  numbers-end : (k : ℕ) (a : Bool) (ds : List ℕ) (next : ℕ) → Prefix ds → length ds ≤ w.digits → Law k a ds next []
  unfolding Law
  numbers-end k a ds next pre l = empty (eqb (length ds) 0) refl
    where
      last : (length ds ≡ 0 → ⊥) → k ≡ 0
          → verdict w k a next ((ds ++ []) ∷ []) ≡ choose (still_of w (held ds k a)) (went (number_of ds) next) (stopped 12 w.line)
      last z y =
          ap (λ (q : List ℕ). verdict w k a next (q ∷ [])) (append-nil ds)
          ∙ (verdict_last w k a next ds (prefix_number w pre z l) y
          ∙ ap (λ (t : Bool). choose t (went (number_of ds) next) (stopped 12 w.line)) (sym (still_held ds k a)))

      room : (t : Bool) → still_of w (held ds k a) ≡ t → (length ds ≡ 0 → ⊥) → k ≡ 0 → closed_number w (held ds k a) next ≡ verdict w k a next ((ds ++ []) ∷ [])
      room true e z y =
          let g = between_holds w.low w.high (number_of ds) (both a (within w.low w.high (number_of ds)) (sym (still_held ds k a) ∙ e)).1 in
          let u : min (number_of ds) greatest ≡ number_of ds = omega arith in
          sym (closed-found w (held ds k a) next z y e)
          ∙ (ap (λ (n : ℕ). went n next) u ∙ sym (last z y ∙ rw e))
      room false e z y = sym (closed-refused w (held ds k a) next z y e) ∙ sym (last z y ∙ rw e)

      commas : (t : Bool) → eqb k 0 ≡ t → (length ds ≡ 0 → ⊥) → closed_number w (held ds k a) next ≡ verdict w k a next ((ds ++ []) ∷ [])
      commas true e z = room (still_of w (held ds k a)) refl z (eqb-true k 0 e)
      commas false e z =
          let y = eqb-false k 0 e in
          sym (closed_early w (held ds k a) next z y) ∙ sym (verdict_many w k a next ((ds ++ []) ∷ []) (λ o. y (omega arith)))

      empty : (t : Bool) → eqb (length ds) 0 ≡ t → closed_number w (held ds k a) next ≡ verdict w k a next ((ds ++ []) ∷ [])
      empty true e =
          let z = eqb-true (length ds) 0 e in
          sym (closed_empty w (held ds k a) next z) ∙ sym (verdict_no w k a next (ds ++ []) [] (rw (prefix_empty pre z)))
      empty false e = commas (eqb k 0) refl (eqb-false (length ds) 0 e)

  numbers-comma : (k : ℕ) (a : Bool) (ds : List ℕ) (next b : ℕ) (text : List ℕ) → Prefix ds → length ds ≤ w.digits
      → b ≡ 44 → class_of b ≡ bytes.comma → ((j : ℕ) (t : Bool) → Law j t [] next text) → Law k a ds next (b ∷ text)
  unfolding Law
  numbers-comma k a ds next b text pre l e c ih =
      ap (λ (m : bytes.Class). closed_of w (steps_of w word (in_numbers w (held ds k a) b m) text) next) c
      ∙ (empty (eqb (length ds) 0) refl (pieces_some text) ∙ sym goal)
    where
      goal : verdict w k a next (on_first ds (pieces (b ∷ text))) ≡ verdict w k a next (ds ∷ pieces text)
      goal = ap (λ (t : Bool). verdict w k a next (on_first ds (choose t ([] ∷ pieces text) (widen b (pieces text))))) (eq-eqb b 44 e)
          ∙ ap (λ (q : List ℕ). verdict w k a next (q ∷ pieces text)) (append-nil ds)

      commas : (t : Bool) → eqb k 0 ≡ t → (length ds ≡ 0 → ⊥) → ((p : List ℕ) × (ps : List (List ℕ)) × (pieces text ≡ p ∷ ps))
          → closed_of w (steps_of w word (with_comma w (held ds k a)) text) next ≡ verdict w k a next (ds ∷ pieces text)
      commas true f z s =
          let y = eqb-true k 0 f in
          closed_bad w word _ text next (comma_last w (held ds k a) z y)
          ∙ sym (verdict_many w k a next (ds ∷ pieces text) (λ o. omega (arith, ap length s.2)))
      commas false f z s =
          let n = held ds k a in
          ap (λ (m : State). closed_of w (steps_of w word m text) next) (sym (comma-next w n (still_of w n) z (eqb-false k 0 f) refl))
          ∙ (ih (k - 1) (still_of w n)
          ∙ (ap₂ (λ (t : Bool) (qs : List (List ℕ)). verdict w (k - 1) t next (on_first [] qs)) (still_held ds k a) s.2
          ∙ (verdict-cons w k a next ds s.0 s.1 (prefix_number w pre z l) (eqb-false k 0 f)
          ∙ ap (λ (qs : List (List ℕ)). verdict w k a next (ds ∷ qs)) (sym s.2))))

      empty : (t : Bool) → eqb (length ds) 0 ≡ t → ((p : List ℕ) × (ps : List (List ℕ)) × (pieces text ≡ p ∷ ps))
          → closed_of w (steps_of w word (with_comma w (held ds k a)) text) next ≡ verdict w k a next (ds ∷ pieces text)
      empty true f s =
          let z = eqb-true (length ds) 0 f in
          closed_bad w word _ text next (comma_empty w (held ds k a) z) ∙ sym (verdict_no w k a next ds (pieces text) (rw (prefix_empty pre z)))
      empty false f s = commas (eqb k 0) refl (eqb-false (length ds) 0 f) s

  numbers-digit : (k : ℕ) (a : Bool) (ds : List ℕ) (next b : ℕ) (text : List ℕ) → Prefix ds → length ds ≤ w.digits
      → 48 ≤ b → b ≤ 57 → class_of b ≡ bytes.digit
      → ((es : List ℕ) → Prefix es → length es ≤ w.digits → Law k a es next text) → Law k a ds next (b ∷ text)
  unfolding Law
  numbers-digit k a ds next b text pre l p q c ih =
      ap (λ (m : bytes.Class). closed_of w (steps_of w word (in_numbers w (held ds k a) b m) text) next) c
      ∙ (full (leb w.digits (length ds)) refl (pieces_some text) ∙ sym goal)
    where
      goal : verdict w k a next (on_first ds (pieces (b ∷ text))) ≡ verdict w k a next (on_first (ds ++ b ∷ []) (pieces text))
      goal = ap (λ (t : Bool). verdict w k a next (on_first ds (choose t ([] ∷ pieces text) (widen b (pieces text))))) (ne_eqb b 44 (λ e. omega arith))
          ∙ ap (verdict w k a next) (sym (on_widen ds b (pieces text)))

      some : {state : State} → Bad ≡ state → (x : List ℕ) (xs : List (List ℕ)) → pieces text ≡ x ∷ xs → is_number w.digits ((ds ++ b ∷ []) ++ x) ≡ false
          → closed_of w (steps_of w word state text) next ≡ verdict w k a next (on_first (ds ++ b ∷ []) (pieces text))
      some {state} e x xs s n =
          closed_bad w word state text next e
          ∙ sym (ap (λ (qs : List (List ℕ)). verdict w k a next (on_first (ds ++ b ∷ []) qs)) s ∙ verdict_no w k a next ((ds ++ b ∷ []) ++ x) xs n)

      taken : {state : State} → Numbers (more_of (held ds k a) b) ≡ state → Prefix (ds ++ b ∷ []) → length ds < w.digits
          → closed_of w (steps_of w word state text) next ≡ verdict w k a next (on_first (ds ++ b ∷ []) (pieces text))
      taken {state} e longer m =
          ap (λ (x : State). closed_of w (steps_of w word x text) next) (sym e ∙ ap Numbers (held_more ds k a b))
          ∙ ih (ds ++ b ∷ []) longer (omega (arith, length-append ds (b ∷ [])))

      step : Prefix ds → length ds < w.digits → ((x : List ℕ) × (xs : List (List ℕ)) × (pieces text ≡ x ∷ xs))
          → closed_of w (steps_of w word (with_digit w (held ds k a) b) text) next ≡ verdict w k a next (on_first (ds ++ b ∷ []) (pieces text))
      step (none e) m s =
          taken (digit_first w (held ds k a) b (more_of (held ds k a) b) m (ap length e) refl) (rw e (prefix_first b p q)) m
      step (lone e) m s =
          some (digit-after-zero w (held ds k a) b m (λ y. omega (arith, ap length e)) (rw e)) s.0 s.1 s.2
          (number_plain w.digits ((ds ++ b ∷ []) ++ s.0) (rw e))
      step (more first later e f g i) m s =
          let z : length ds ≡ 0 → ⊥ = λ y. omega (arith, ap length e) in
          taken (digit_later w (held ds k a) b (more_of (held ds k a) b) m z (λ y. omega arith) refl) (prefix_later b p q z (λ y. omega arith) pre) m

      full : (t : Bool) → leb w.digits (length ds) ≡ t → ((x : List ℕ) × (xs : List (List ℕ)) × (pieces text ≡ x ∷ xs))
          → closed_of w (steps_of w word (with_digit w (held ds k a) b) text) next ≡ verdict w k a next (on_first (ds ++ b ∷ []) (pieces text))
      full true e s = some (digit_full w (held ds k a) b (leb-true w.digits (length ds) e)) s.0 s.1 s.2 (number_long w.digits ((ds ++ b ∷ []) ++ s.0)
          (omega (arith, length-append (ds ++ b ∷ []) s.0, length-append ds (b ∷ []), leb-true w.digits (length ds) e)))
      full false e s = step pre (leb-false w.digits (length ds) e) s

  numbers-other : (k : ℕ) (a : Bool) (ds : List ℕ) (next b : ℕ) (text : List ℕ) → is_digit b ≡ false → (b ≡ 44 → ⊥)
      → Bad ≡ in_numbers w (held ds k a) b (class_of b) → Law k a ds next (b ∷ text)
  unfolding Law
  numbers-other k a ds next b text i c e = closed_bad w word _ text next e ∙ sym (go (pieces_some text))
    where
      go : ((x : List ℕ) × (xs : List (List ℕ)) × (pieces text ≡ x ∷ xs)) → verdict w k a next (on_first ds (pieces (b ∷ text))) ≡ stopped 10 w.line
      go s =
          rw (ne_eqb b 44 c, s.2)
          (verdict_no w k a next (ds ++ b ∷ s.0) s.1
          (number_digits w.digits (ds ++ b ∷ s.0) (all_append is_digit ds (b ∷ s.0) ∙ and_right (all is_digit ds) _ (rw i))))

  pub numbers_law : (text : List ℕ) (k : ℕ) (a : Bool) (ds : List ℕ) (next : ℕ) → Prefix ds → length ds ≤ w.digits → Law k a ds next text
  numbers_law [] k a ds next pre l = numbers-end k a ds next pre l
  numbers_law (b ∷ text) k a ds next pre l =
      go (class_of b) refl (means b) (λ j t. numbers_law text j t [] next (none refl) (omega arith)) (λ es p m. numbers_law text k a es next p m)
    where
      go : (c : bytes.Class) → class_of b ≡ c → Means (class_of b) b → ((j : ℕ) (t : Bool) → Law j t [] next text)
          → ((es : List ℕ) → Prefix es → length es ≤ w.digits → Law k a es next text) → Law k a ds next (b ∷ text)
      go bytes.digit e m f g = let r = rw e at m in numbers-digit k a ds next b text pre l r.0 r.1 e g
      go bytes.comma e m f g = numbers-comma k a ds next b text pre l (rw e at m) e f
      go bytes.equals e m f g =
          let r = rw e at m in
          numbers-other k a ds next b text (between_high 48 57 b (omega arith)) (λ z. omega arith) (rw e)
      go bytes.line_end e m f g =
          let r = rw e at m in
          numbers-other k a ds next b text (between_low 48 57 b (omega arith)) (λ z. omega arith) (rw e)
      go bytes.letter e m f g =
          let r = rw e at m in
          numbers-other k a ds next b text (between_high 48 57 b (omega arith)) (λ z. omega arith) (rw e)
      go bytes.other e m f g = let r = rw e at m in numbers-other k a ds next b text r.0 r.1 (rw e)
