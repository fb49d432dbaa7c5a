-- The corners of m variables: m members each, all 0 or 1, and their indices are 0, 1, .., 2^m - 1 in order. Assumes nothing.
use mathlib.Core.Path.{◌≡◌, refl, sym, ap, ap₂, ◌∙◌}
use mathlib.Core.List.{List, [], ◌∷◌, ◌++◌, map, map-append}
use Prim.Native.Nat.{ℕ, zero, suc, ◌+◌, ◌-◌, ◌*◌, ◌^◌, ◌≤◌, ◌<◌}
use native.Mathlib.Omega.{arith}
use native.Mathlib.Nat.{add-zero, zero-add, add-suc, suc-add, sub_self, two-pow-succ}
use lib.ListN.{length, length-append, length-map}
use Rattle.polynomial.specs.Elements.{Every, Distinct, count_from}
use Rattle.polynomial.proofs.Lists.{every_map, every_of_map, every_append, map_same, map_twice}
use Rattle.sumcheck.specs.Corners.{corners, index}

-- a list of m members, each 0 or 1
pub record Corner (m : ℕ) (b : List ℕ) : Type 0 where
  pub members : length b ≡ m
  pub bits : Every (λ (x : ℕ). x < 2) b

-- one bit more in front
corner_front : (m x : ℕ) → x < 2 → (bs : List (List ℕ)) → Every (Corner m) bs → Every (Corner (suc m)) (map (λ (b : List ℕ). x ∷ b) bs)
corner_front m x h bs u =
    every_of_map (Corner (suc m)) (λ (b : List ℕ). x ∷ b) bs
    (every_map (Corner m) (λ (b : List ℕ). Corner (suc m) (x ∷ b))
    (λ (b : List ℕ) (c : Corner m b). record { members = ap suc c.members; bits = (h, c.bits) }) bs u)

pub corner_all : (m : ℕ) → Every (Corner m) (corners m)
unfolding corners
corner_all zero = (record { members = refl; bits = tt }, tt)
corner_all (suc m) =
    every_append (Corner (suc m)) (map (λ (b : List ℕ). 0 ∷ b) (corners m)) (map (λ (b : List ℕ). 1 ∷ b) (corners m))
    (corner_front m 0 (omega arith) (corners m) (corner_all m))
    (corner_front m 1 (omega arith) (corners m) (corner_all m))

pub index_below : (b : List ℕ) → Every (λ (x : ℕ). x < 2) b → index b < 2 ^ length b
index_below [] u = omega arith
index_below (zero ∷ b) u = omega (arith, index_below b u.1, two-pow-succ (length b))
index_below (suc zero ∷ b) u = omega (arith, index_below b u.1, two-pow-succ (length b))
index_below (suc (suc x) ∷ b) u = absurd (omega (arith, u.0))

pub count_append : (i c d : ℕ) → count_from i (c + d) ≡ count_from i c ++ count_from (i + c) d
unfolding count_from
count_append i zero d = ap₂ count_from (sym (add-zero i)) (zero-add d)
count_append i (suc c) d =
    ap (count_from i) (suc-add c d)
    ∙ ap (λ (xs : List ℕ). i ∷ xs) (count_append (suc i) c d ∙ ap (λ (j : ℕ). count_from (suc i) c ++ count_from j d) (suc-add i c ∙ sym (add-suc i c)))

pub count_shift : (h i c : ℕ) → map (λ (j : ℕ). h + j) (count_from i c) ≡ count_from (h + i) c
unfolding count_from
count_shift h i zero = refl
count_shift h i (suc c) = ap (λ (xs : List ℕ). (h + i) ∷ xs) (count_shift h (suc i) c ∙ ap (λ (j : ℕ). count_from j c) (add-suc h i))

-- the indices of corners with one bit more in front
index-front : (m x : ℕ) → map index (map (λ (b : List ℕ). x ∷ b) (corners m)) ≡ map (λ (j : ℕ). x * 2 ^ m + j) (map index (corners m))
index-front m x =
    map_twice index (λ (b : List ℕ). x ∷ b) (corners m)
    ∙ (map_same (λ (b : List ℕ). index (x ∷ b)) (λ (b : List ℕ). x * 2 ^ m + index b) (corners m)
    (every_map (Corner m) (λ (b : List ℕ). index (x ∷ b) ≡ x * 2 ^ m + index b)
    (λ (b : List ℕ) (c : Corner m b). ap (λ (k : ℕ). x * 2 ^ k + index b) c.members) (corners m) (corner_all m))
    ∙ sym (map_twice (λ (j : ℕ). x * 2 ^ m + j) index (corners m)))

index_half : (m x i : ℕ) → x * 2 ^ m + 0 ≡ i → map index (corners m) ≡ count_from 0 (2 ^ m)
    → map index (map (λ (b : List ℕ). x ∷ b) (corners m)) ≡ count_from i (2 ^ m)
index_half m x i e ih =
    index-front m x
    ∙ (ap (map (λ (j : ℕ). x * 2 ^ m + j)) ih ∙ (count_shift (x * 2 ^ m) 0 (2 ^ m) ∙ ap (λ (j : ℕ). count_from j (2 ^ m)) e))

-- the indices of the corners of m variables, in order, are 0, 1, .., 2^m - 1
pub corners_count : (m : ℕ) → map index (corners m) ≡ count_from 0 (2 ^ m)
unfolding corners count_from
corners_count zero = refl
corners_count (suc m) =
    map-append index (map (λ (b : List ℕ). 0 ∷ b) (corners m)) (map (λ (b : List ℕ). 1 ∷ b) (corners m))
    ∙ (ap₂ {B = List ℕ} (λ (xs ys : List ℕ). xs ++ ys)
    (index_half m 0 0 (omega arith) (corners_count m))
    (index_half m 1 (0 + 2 ^ m) (omega arith) (corners_count m))
    ∙ (sym (count_append 0 (2 ^ m) (2 ^ m)) ∙ ap (count_from 0) (sym (two-pow-succ m))))

-- there is a corner, also of no variables
pub corners_some : (m : ℕ) → 0 < length (corners m)
unfolding corners
corners_some zero = omega arith
corners_some (suc m) =
    omega (
      arith,
      corners_some m,
      length-append (map (λ (b : List ℕ). 0 ∷ b) (corners m)) (map (λ (b : List ℕ). 1 ∷ b) (corners m)),
      length-map
          (corners m) (λ (b : List ℕ). 0 ∷ b),
    )

pub count_length : (i c : ℕ) → length (count_from i c) ≡ c
unfolding count_from
count_length i zero = refl
count_length i (suc c) = ap suc (count_length (suc i) c)

-- what holds of i, i + 1, .., i + c - 1 holds of every member
pub count_every : (P : ℕ → Type 0) (i c : ℕ) → ((x : ℕ) → i ≤ x → x < i + c → P x) → Every P (count_from i c)
unfolding count_from
count_every P i zero h = tt
count_every P i (suc c) h =
    (h i (omega arith) (omega arith), count_every P (suc i) c (λ (x : ℕ) (l : suc i ≤ x) (u : x < suc i + c). h x (omega arith) (omega arith)))

pub count_distinct : (i c : ℕ) → Distinct (count_from i c)
unfolding count_from
count_distinct i zero = tt
count_distinct i (suc c) =
    (count_every (λ (y : ℕ). i ≡ y → ⊥) (suc i) c (λ (y : ℕ) (l : suc i ≤ y) (u : y < suc i + c) (e : i ≡ y). omega arith), count_distinct (suc i) c)

-- the numbers from i up to c, the first of them apart
pub count_cons : (i c : ℕ) → (i ≡ 0 → ⊥) → i ≤ c → count_from (i - 1) (c - (i - 1)) ≡ (i - 1) ∷ count_from i (c - i)
unfolding count_from
count_cons zero c h l = absurd (h refl)
count_cons (suc i) c h l =
    ap₂ count_from (less i) (two_steps i c l)
    ∙ ap (λ (j : ℕ). j ∷ count_from (suc i) (c - suc i)) (sym (less i))
  where
    less : (i : ℕ) → suc i - 1 ≡ i
    less i = omega arith

    two_steps : (i c : ℕ) → suc i ≤ c → c - (suc i - 1) ≡ suc (c - suc i)
    two_steps i c l = omega arith

pub count_none : (c : ℕ) → count_from c (c - c) ≡ []
unfolding count_from
count_none c = ap (count_from c) (sub_self c)
