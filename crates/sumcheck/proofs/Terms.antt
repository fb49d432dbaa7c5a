-- A round's polynomial as loops make it: the product of the tables' lines at a place, from the last table to the first, in an array of top + 1
-- coefficients; and the sum of those products from the last place to the first. Assumes nothing.
use mathlib.Core.Path.{◌≡◌, refl, sym, ap, ap₂, ◌∙◌}
use mathlib.Core.List.{List, [], ◌∷◌, ◌++◌, map}
use Prim.Native.Nat.{ℕ, suc, ◌+◌, ◌-◌, ◌*◌, ◌%◌, ◌≤◌, ◌<◌}
use native.Mathlib.Nat.{sub_self, sub-zero}
use native.Mathlib.Numerals.{add-one}
use native.Mathlib.Omega.{arith}
use lib.ListN.{length, take, drop, get_or, replicate, length-map, replicate-append-replicate}
use lib.Seq.{get_or-take, get_or-drop, drop-drop, take_at}
use Rattle.arithmetic.specs.Modulo.{sub}
use Rattle.polynomial.specs.Elements.{Every, Elements, count_from}
use Rattle.polynomial.specs.Polynomial.{plus, times}
use Rattle.polynomial.proofs.Lists.{every, every_of_map}
use Rattle.polynomial.proofs.Shape.{length-times_all, elements-times_all}
use Rattle.polynomial.specs.Array.{line_times}
use Rattle.polynomial.proofs.Padded.{line_times_some, total, total-plus, length-total, plus-padded}
use Rattle.sumcheck.specs.Lent.{parts}
use Rattle.sumcheck.proofs.Corners.{count_cons, count_length}
use Rattle.sumcheck.proofs.RoundFolded.{line_at, term_at, round_of}

-- a term has one coefficient more than there are tables
pub term_length : (n half : ℕ) (us : List (List ℕ)) (i : ℕ) → length (term_at n half us i) ≡ suc (length us)
term_length n half us i =
    length-times_all n (map (line_at n half i) us)
    (every_of_map (λ (q : List ℕ). length q ≡ 2) (line_at n half i) us (every (λ (u : List ℕ). length (line_at n half i u) ≡ 2) (λ (u : List ℕ). refl) us))
    ∙ ap suc (length-map us (line_at n half i))

-- the product of the lines of the tables from the one numbered left on
abbrev pub term_left : ℕ → ℕ → ℕ → ℕ → ℕ → ℕ → List ℕ → List ℕ
term_left n half i places count left xs = term_at n half (parts (count - left) places (drop (left * places) xs)) i

pub term_start : (n half i places count : ℕ) (xs : List ℕ) → term_left n half i places count count xs ≡ 1 % n ∷ []
unfolding parts
term_start n half i places count xs = ap (λ (m : ℕ). term_at n half (parts m places (drop (count * places) xs)) i) (sub_self count)

-- the line of the next table
line-next : (n half i places l : ℕ) (xs : List ℕ) → half + i < places
    → line_at n half i (take places (drop (l * places) xs)) ≡ get_or xs (l * places + i) 0 ∷ sub n (get_or xs (l * places + i + half) 0)
    (get_or xs (l * places + i) 0) ∷ []
line-next n half i places l xs h =
    ap₂ (λ (a d : ℕ). a ∷ sub n d a ∷ []) (place i (omega arith)) (place (half + i) h ∙ ap (λ (j : ℕ). get_or xs j 0) (reach (l * places) half i))
  where
    place : (j : ℕ) → j < places → get_or (take places (drop (l * places) xs)) j 0 ≡ get_or xs (l * places + j) 0
    place j k = get_or-take places (drop (l * places) xs) j 0 k ∙ get_or-drop (l * places) xs j 0

    reach : (a b c : ℕ) → a + (b + c) ≡ a + c + b
    reach a b c = omega arith

-- the parts from one table earlier on
parts_earlier : (places count l : ℕ) (xs : List ℕ) → suc l ≤ count
    → parts (count - l) places (drop (l * places) xs) ≡ take places (drop (l * places) xs) ∷ parts (count - suc l) places (drop (suc l * places) xs)
unfolding parts
parts_earlier places count l xs h =
    ap (λ (m : ℕ). parts m places (drop (l * places) xs)) (step count l h)
    ∙ ap (λ (ys : List ℕ). take places (drop (l * places) xs) ∷ parts (count - suc l) places ys)
    (drop-drop places (l * places) xs ∙ ap (λ (j : ℕ). drop j xs) (next l))
  where
    step : (count l : ℕ) → suc l ≤ count → count - l ≡ suc (count - suc l)
    step count l h = omega arith

    next : (l : ℕ) → l * places + places ≡ suc l * places
    next l = omega arith

-- one table earlier: the product with its line
pub term_step : (n half i places count top l : ℕ) (xs product : List ℕ) → suc l ≤ count → count ≤ top → half + i < places
    → product ≡ term_left n half i places count (suc l) xs ++ replicate (top - (count - suc l)) 0
    → line_times n (get_or xs (l * places + i) 0) (sub n (get_or xs (l * places + i + half) 0) (get_or xs (l * places + i) 0)) 0 product
    ≡ term_left n half i places count l xs ++ replicate (top - (count - l)) 0
term_step n half i places count top l xs product h t k e =
    ap (line_times n a (sub n b a) 0) (e ∙ ap (λ (z : ℕ). q ++ replicate z 0) (room count top l h t))
    ∙ (line_times_some n a (sub n b a) (top - (count - l)) q (omega (arith, term_length n half (parts (count - suc l) places (drop (suc l * places) xs)) i))
    ∙ ap (λ (r : List ℕ). r ++ replicate (top - (count - l)) 0)
    (ap (λ (line : List ℕ). times n line q) (sym (line-next n half i places l xs k))
    ∙ ap (λ (us : List (List ℕ)). term_at n half us i) (sym (parts_earlier places count l xs h))))
  where
    a : ℕ
    a = get_or xs (l * places + i) 0

    b : ℕ
    b = get_or xs (l * places + i + half) 0

    q : List ℕ
    q = term_left n half i places count (suc l) xs

    room : (count top l : ℕ) → suc l ≤ count → count ≤ top → top - (count - suc l) ≡ suc (top - (count - l))
    room count top l h t = omega arith

-- the sum over the places from i on
abbrev pub sum_from : ℕ → ℕ → ℕ → List (List ℕ) → ℕ → List ℕ
sum_from n half count us i = total n (count + 1) (map (term_at n half us) (count_from i (half - i)))

terms_length : (n half count : ℕ) (us : List (List ℕ)) → length us ≡ count → (is : List ℕ)
    → Every (λ (q : List ℕ). length q ≡ count + 1) (map (term_at n half us) is)
terms_length n half count us e is =
    every_of_map (λ (q : List ℕ). length q ≡ count + 1) (term_at n half us) is
    (every (λ (i : ℕ). length (term_at n half us i) ≡ count + 1) (λ (i : ℕ). term_length n half us i ∙ (ap suc e ∙ sym (add-one count))) is)

pub sum_start : (n half count z : ℕ) (us : List (List ℕ)) → sum_from n half count us half ++ replicate z 0 ≡ replicate (count + 1 + z) 0
unfolding count_from
sum_start n half count z us =
    ap (λ (c : ℕ). total n (count + 1) (map (term_at n half us) (count_from half c)) ++ replicate z 0) (sub_self half)
    ∙ replicate-append-replicate (count + 1) z 0

-- one place earlier
pub sum_step : (n half count z i : ℕ) (us : List (List ℕ)) → length us ≡ count → (i ≡ 0 → ⊥) → i ≤ half
    → plus n (term_at n half us (i - 1) ++ replicate z 0) (sum_from n half count us i ++ replicate z 0) ≡ sum_from n half count us (i - 1) ++ replicate z 0
sum_step n half count z i us e h l =
    plus-padded n z (term_at n half us (i - 1)) (sum_from n half count us i)
    (term_length n half us (i - 1)
    ∙ (ap suc e ∙ (sym (add-one count)
    ∙ sym (length-total n (count + 1) (map (term_at n half us) (count_from i (half - i))) (terms_length n half count us e (count_from i (half - i)))))))
    ∙ ap (λ (is : List ℕ). total n (count + 1) (map (term_at n half us) is) ++ replicate z 0) (sym (count_cons i half h l))

-- the whole sum is the round's polynomial
pub sum-whole : (n half count : ℕ) → 0 < n → 0 < half → (us : List (List ℕ)) → length us ≡ count
    → total n (count + 1) (map (term_at n half us) (count_from 0 half)) ≡ round_of n half us
sum-whole n half count h k us e =
    total-plus n (count + 1) (map (term_at n half us) (count_from 0 half))
    (omega (arith, length-map (count_from 0 half) (term_at n half us), count_length 0 half))
    (terms_length n half count us e (count_from 0 half))
    (every_of_map (Elements n) (term_at n half us) (count_from 0 half)
    (every (λ (i : ℕ). Elements n (term_at n half us i)) (λ (i : ℕ). elements-times_all n h (map (line_at n half i) us)) (count_from 0 half)))

-- the loop over the tables: its start, and a turn
pub term_first : (n half i places count top : ℕ) (xs : List ℕ)
    → (1 % n) ∷ replicate top 0 ≡ term_left n half i places count count xs ++ replicate (top - (count - count)) 0
term_first n half i places count top xs =
    ap₂ (λ (q : List ℕ) (z : ℕ). q ++ replicate z 0) (sym (term_start n half i places count xs)) (sym (ap (λ (m : ℕ). top - m) (sub_self count) ∙ sub-zero top))

pub term_turn : (n half i places count top left : ℕ) (xs product : List ℕ) → (left ≡ 0 → ⊥) → left ≤ count → count ≤ top → half + i < places
    → product ≡ term_left n half i places count left xs ++ replicate (top - (count - left)) 0
    → line_times n (get_or xs ((left - 1) * places + i) 0)
    (sub n (get_or xs ((left - 1) * places + i + half) 0) (get_or xs ((left - 1) * places + i) 0)) 0 product
    ≡ term_left n half i places count (left - 1) xs ++ replicate (top - (count - (left - 1))) 0
term_turn n half i places count top left xs product ne h t k e =
    term_step n half i places count top (left - 1) xs product (omega arith) t k
    (e ∙ ap (λ (m : ℕ). term_left n half i places count m xs ++ replicate (top - (count - m)) 0) (one_less left ne))
  where
    one_less : (m : ℕ) → (m ≡ 0 → ⊥) → m ≡ suc (m - 1)
    one_less m h = omega arith

-- the first count + 1 places of the array are the round's polynomial
pub sum_taken : (n half count z : ℕ) → 0 < n → 0 < half → (us : List (List ℕ)) → length us ≡ count
    → take (count + 1) (total n (count + 1) (map (term_at n half us) (count_from 0 half)) ++ replicate z 0) ≡ round_of n half us
sum_taken n half count z h k us e =
    take_at (total n (count + 1) (map (term_at n half us) (count_from 0 half))) (replicate z 0) (count + 1)
    (length-total n (count + 1) (map (term_at n half us) (count_from 0 half)) (terms_length n half count us e (count_from 0 half)))
    ∙ sum-whole n half count h k us e
