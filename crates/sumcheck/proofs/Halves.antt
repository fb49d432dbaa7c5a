-- An extension by halves of its table, and sums and products over tables by the places of a lent list. Assumes nothing.
use mathlib.Core.Path.{◌≡◌, refl, sym, ap, ap₂, ◌∙◌}
use mathlib.Core.List.{List, [], ◌∷◌, map}
use Prim.Native.Nat.{ℕ, zero, suc, ◌+◌, ◌^◌, ◌/◌, ◌%◌, ◌<◌}
use native.Mathlib.Nat.{two-pow-succ}
use native.Mathlib.Numerals.{add-one}
use native.Mathlib.Omega.{arith}
use lib.ListN.{length, get_or, take, drop}
use lib.Seq.{get_or-take, get_or-drop}
use Rattle.arithmetic.specs.Modulo.{mul}
use Rattle.arithmetic.proofs.Modulo.{mul_mod_left}
use Rattle.polynomial.specs.Elements.{Every, sum, product, count_from}
use Rattle.polynomial.proofs.Lists.{every_map, map_same, map_twice}
use Rattle.sumcheck.specs.Corners.{corners, index}
use Rattle.sumcheck.specs.Extension.{weight, extension}
use Rattle.sumcheck.specs.Function.{f, true_sum}
use Rattle.sumcheck.specs.Folding.{between, fold}
use Rattle.sumcheck.proofs.Corners.{Corner, corner_all, index_below, corners_count}
use Rattle.sumcheck.proofs.Extension.{extension-between}
use Rattle.sumcheck.proofs.Folding.{extension-fold, extension_corner, fold_at, between_low, between_high}

-- an extension goes by its table's values modulo n at the indices of the corners
pub extension_same : (n : ℕ) (t u r : List ℕ) → ((i : ℕ) → i < 2 ^ length r → get_or t i 0 % n ≡ get_or u i 0 % n) → extension n t r ≡ extension n u r
extension_same n t u r h =
    ap (sum n)
    (map_same (λ (b : List ℕ). mul n (get_or t (index b) 0) (weight n r b)) (λ (b : List ℕ). mul n (get_or u (index b) 0) (weight n r b)) (corners (length r))
    (every_map (Corner (length r)) (λ (b : List ℕ). mul n (get_or t (index b) 0) (weight n r b) ≡ mul n (get_or u (index b) 0) (weight n r b)) here
    (corners (length r)) (corner_all (length r))))
  where
    here : (b : List ℕ) → Corner (length r) b → mul n (get_or t (index b) 0) (weight n r b) ≡ mul n (get_or u (index b) 0) (weight n r b)
    here b c =
        sym (mul_mod_left n (get_or t (index b) 0) (weight n r b))
        ∙ (ap (λ (x : ℕ). mul n x (weight n r b)) (h (index b) (omega (arith, index_below b c.bits, ap (λ (l : ℕ). 2 ^ l) c.members)))
        ∙ mul_mod_left n (get_or u (index b) 0) (weight n r b))

-- at x, r: the point at x between the lower half's extension at r and the upper half's
pub extension-halves : (n : ℕ) → 0 < n → (x : ℕ) (t r : List ℕ)
    → extension n t (x ∷ r) ≡ between n x (extension n (take (2 ^ length r) t) r) (extension n (drop (2 ^ length r) t) r)
extension-halves zero h x t r = absurd (omega arith)
extension-halves (suc m) h x t r =
    extension-between m x t [] r
    ∙ ap₂ (between (suc m) x)
    (extension-fold (suc m) h 0 t r ∙ extension_same (suc m) (fold (suc m) 0 half t) (take half t) r low)
    (extension-fold (suc m) h 1 t r ∙ extension_same (suc m) (fold (suc m) 1 half t) (drop half t) r high)
  where
    half : ℕ
    half = 2 ^ length r

    low : (i : ℕ) → i < 2 ^ length r → get_or (fold (suc m) 0 (2 ^ length r) t) i 0 % suc m ≡ get_or (take (2 ^ length r) t) i 0 % suc m
    low i l =
        ap (λ (v : ℕ). v % suc m) (fold_at (suc m) 0 (2 ^ length r) t i l)
        ∙ (between_low m (get_or t i 0) (get_or t (2 ^ length r + i) 0) ∙ ap (λ (v : ℕ). v % suc m) (sym (get_or-take (2 ^ length r) t i 0 l)))

    high : (i : ℕ) → i < 2 ^ length r → get_or (fold (suc m) 1 (2 ^ length r) t) i 0 % suc m ≡ get_or (drop (2 ^ length r) t) i 0 % suc m
    high i l =
        ap (λ (v : ℕ). v % suc m) (fold_at (suc m) 1 (2 ^ length r) t i l)
        ∙ (between_high m (get_or t i 0) (get_or t (2 ^ length r + i) 0) ∙ ap (λ (v : ℕ). v % suc m) (sym (get_or-drop (2 ^ length r) t i 0)))

-- the product of the tables' values at one index
abbrev pub column : ℕ → List (List ℕ) → ℕ → ℕ
column n ts i = product n (map (λ (t : List ℕ). get_or t i 0) ts)

-- f at a corner is the product of the tables' values there
pub f_corner : (n : ℕ) → 0 < n → (ts : List (List ℕ)) (b : List ℕ) → Every (λ (x : ℕ). x < 2) b → f n ts b ≡ column n ts (index b)
f_corner n h [] b u = refl
f_corner n h (t ∷ ts) b u =
    ap₂ (mul n) (extension_corner n h t b u) (f_corner n h ts b u) ∙ mul_mod_left n (get_or t (index b) 0) (column n ts (index b))

-- the true sum is the sum of those products over all indices
pub sum_columns : (n : ℕ) → 0 < n → (ts : List (List ℕ)) (m : ℕ) → true_sum n ts m ≡ sum n (map (column n ts) (count_from 0 (2 ^ m)))
sum_columns n h ts m =
    ap (sum n)
    (map_same (f n ts) (λ (b : List ℕ). column n ts (index b)) (corners m)
    (every_map (Corner m) (λ (b : List ℕ). f n ts b ≡ column n ts (index b)) (λ (b : List ℕ) (c : Corner m b). f_corner n h ts b c.bits) (corners m)
    (corner_all m))
    ∙ (sym (map_twice (column n ts) index (corners m)) ∙ ap (map (column n ts)) (corners_count m)))

-- at the point of no variables: the table's one value
pub single : (n : ℕ) → 0 < n → (t point : List ℕ) → length point ≡ 0 → get_or t 0 0 % n ≡ extension n t point
single n h t [] e = sym (extension_corner n h t [] tt)
single n h t (x ∷ r) e = absurd (omega arith)

-- the same of a table that is cut in half: the extension is the point between those of the halves
pub by_halves : (n : ℕ) → 0 < n → (x : ℕ) (t r : List ℕ) → length t ≡ 2 ^ (length r + 1)
    → between n x (extension n (take (length t / 2) t) r) (extension n (drop (length t / 2) t) r) ≡ extension n t (x ∷ r)
by_halves n h x t r e =
    ap (λ (i : ℕ). between n x (extension n (take i t) r) (extension n (drop i t) r)) half ∙ sym (extension-halves n h x t r)
  where
    half : length t / 2 ≡ 2 ^ length r
    half = omega (arith, e, ap (λ (l : ℕ). 2 ^ l) (add-one (length r)), two-pow-succ (length r))
