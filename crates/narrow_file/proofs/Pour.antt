-- The second pass from some place on: `pour` is the lent list as it will be, given the bytes that are left, the places that are filled
-- and the value that is carried. A byte leaves it as it is, and at the end it is the list itself. Assumes nothing.
use mathlib.Core.Path.{◌≡◌, refl, sym, ap, ap₂, ◌∙◌}
use mathlib.Core.Bool.{true, false}
use mathlib.Core.List.{List, [], ◌∷◌, ◌++◌, append_assoc}
use Prim.Native.Nat.{ℕ, suc, ◌+◌, ◌-◌, ◌≤◌, ◌<◌}
use native.Mathlib.Nat.{sub-zero}
use native.Mathlib.Numerals.{add-one}
use native.Mathlib.Omega.{arith}
use lib.ListN.{length, get_or, take, drop, set, take-append-drop, drop_of_length-le}
use lib.Seq.{take-suc-set, drop-set-lt, drop-drop, take-nil}
use Rattle.layout.specs.Bytes.{Class, digit, comma, equals, line_end, letter, other, class_of}
use Rattle.narrow_file.specs.Passes.{stores, carried, collect, put}
use Rattle.file_line.proofs.Runs.{drop_here}

unfoldable pub pour : ℕ → ℕ → ℕ → List ℕ → List ℕ → List ℕ
pour places filled value s list = take filled list ++ put (take (places - filled) (collect value s)) (drop filled list)

pub pour_start : (places : ℕ) (s list : List ℕ) → pour places 0 0 s list ≡ put (take places (collect 0 s)) list
unfolding pour
pour_start places s list = ap (λ (n : ℕ). put (take n (collect 0 s)) list) (sub-zero places)

module _ (places filled value : ℕ) (list : List ℕ) where
  -- all places are filled, or no byte is left
  none : (s : List ℕ) → take (places - filled) (collect value s) ≡ [] → pour places filled value s list ≡ list
  unfolding pour
  none s e = rw e (take-append-drop filled list)

  pub pour_full : (s : List ℕ) → places ≤ filled → pour places filled value s list ≡ list
  pour_full s h = let e : places - filled ≡ 0 = omega arith in none s (ap (λ (n : ℕ). take n (collect value s)) e)

  pub pour_out : (xs : List ℕ) (i : ℕ) → length xs ≤ i → pour places filled value (drop i xs) list ≡ list
  pour_out xs i h = none (drop i xs) (ap (λ (s : List ℕ). take (places - filled) (collect value s)) (drop_of_length-le xs h) ∙ take-nil (places - filled))

  -- one byte more: a digit is carried, a number's end is stored, and any other byte is passed
  module _ (xs : List ℕ) (i : ℕ) (h : i < length xs) where
    carry : (v : ℕ) → stores (class_of (get_or xs i 0)) ≡ false → v ≡ carried value (get_or xs i 0) (class_of (get_or xs i 0))
        → pour places filled value (drop i xs) list ≡ pour places filled v (drop (i + 1) xs) list
    unfolding pour
    carry v e f = rw (drop_here xs i h, e, f)

    pub pour_digit : class_of (get_or xs i 0) ≡ digit
        → pour places filled value (drop i xs) list ≡ pour places filled (carried value (get_or xs i 0) digit) (drop (i + 1) xs) list
    pour_digit e = carry (carried value (get_or xs i 0) digit) (rw e) (rw e)

    pub pour_other : (class_of (get_or xs i 0) ≡ digit → ⊥) → (class_of (get_or xs i 0) ≡ comma → ⊥) → (class_of (get_or xs i 0) ≡ line_end → ⊥)
        → pour places filled value (drop i xs) list ≡ pour places filled value (drop (i + 1) xs) list
    pour_other d c l = go (class_of (get_or xs i 0)) refl
      where
        go : (k : Class) → class_of (get_or xs i 0) ≡ k → pour places filled value (drop i xs) list ≡ pour places filled value (drop (i + 1) xs) list
        go digit e = absurd (d e)
        go comma e = absurd (c e)
        go line_end e = absurd (l e)
        go equals e = carry value (rw e) (rw e)
        go letter e = carry value (rw e) (rw e)
        go other e = carry value (rw e) (rw e)

    store : stores (class_of (get_or xs i 0)) ≡ true → filled < places → filled < length list
        → pour places filled value (drop i xs) list ≡ pour places (filled + 1) 0 (drop (i + 1) xs) (set list filled value)
    unfolding pour
    store e p l =
        let vs = take (places - (filled + 1)) (collect 0 (drop (i + 1) xs)) in
        let n : places - filled ≡ suc (places - (filled + 1)) = omega arith in
        let k : suc filled + length vs ≡ filled + suc (length vs) = omega arith in
        let front : take (filled + 1) (set list filled value) ≡ take filled list ++ value ∷ [] =
        ap (λ (m : ℕ). take m (set list filled value)) (add-one filled) ∙ take-suc-set list filled value l in
        let back : drop (length vs) (drop (filled + 1) (set list filled value)) ≡ drop (suc (length vs)) (drop filled list) =
        ap (λ (m : ℕ). drop (length vs) (drop m (set list filled value))) (add-one filled)
        ∙ (ap (drop (length vs)) (drop-set-lt (suc filled) list filled value (omega arith))
        ∙ (drop-drop (length vs) (suc filled) list
        ∙ (ap (λ (m : ℕ). drop m list) k ∙ sym (drop-drop (suc (length vs)) filled list)))) in
        sym (ap₂ (λ (a b : List ℕ). a ++ (vs ++ b)) front back
        ∙ (append_assoc (take filled list) (value ∷ []) (vs ++ drop (suc (length vs)) (drop filled list))
        ∙ sym (rw (drop_here xs i h, e, n))))

    pub pour_comma : class_of (get_or xs i 0) ≡ comma → filled < places → filled < length list
        → pour places filled value (drop i xs) list ≡ pour places (filled + 1) 0 (drop (i + 1) xs) (set list filled value)
    pour_comma e = store (rw e)

    pub pour_line_end : class_of (get_or xs i 0) ≡ line_end → filled < places → filled < length list
        → pour places filled value (drop i xs) list ≡ pour places (filled + 1) 0 (drop (i + 1) xs) (set list filled value)
    pour_line_end e = store (rw e)

pub ruleset pouring = (pour_start, pour_full, pour_out, pour_digit, pour_other, pour_comma, pour_line_end)
