-- A true polynomial from the folded tables: at each index of the rest the product of the lines through the folded tables' values in the lower and the
-- upper half, and the sum of those products. Assumes nothing.
use mathlib.Core.Path.{◌≡◌, refl, sym, ap, ap₂, ◌∙◌}
use mathlib.Core.List.{List, [], ◌∷◌, ◌++◌, map}
use Prim.Native.Nat.{ℕ, suc, ◌+◌, ◌*◌, ◌^◌, ◌%◌, ◌<◌}
use native.Mathlib.Omega.{arith}
use lib.ListN.{length, get_or}
use Rattle.arithmetic.specs.Modulo.{mul, sub}
use Rattle.arithmetic.proofs.Ring.{at, ◌⊕◌, ⊖◌, same}
use Rattle.arithmetic.proofs.Modulo.{mul_mod_left, add-zero-mod}
use Rattle.polynomial.specs.Polynomial.{plus, times, plus_all, times_all}
use Rattle.polynomial.proofs.Lists.{every, every_map, map_same, map_twice}
use Rattle.polynomial.specs.Elements.{count_from}
use Rattle.sumcheck.specs.Corners.{corners, index}
use Rattle.sumcheck.specs.Extension.{extension}
use Rattle.sumcheck.specs.TruePolynomial.{line, true_polynomial}
use Rattle.sumcheck.proofs.Corners.{Corner, corner_all, corners_count}
use Rattle.sumcheck.proofs.Folding.{extension_corner, low_index, high_index}
use Rattle.sumcheck.proofs.Folded.{folded, extension-folded}

-- the line through a table's values at i and at half + i
abbrev pub line_at : ℕ → ℕ → ℕ → List ℕ → List ℕ
line_at n half i u = get_or u i 0 ∷ sub n (get_or u (half + i) 0) (get_or u i 0) ∷ []

-- the product of the tables' lines at i
abbrev pub term_at : ℕ → ℕ → List (List ℕ) → ℕ → List ℕ
term_at n half us i = times_all n (map (line_at n half i) us)

-- the sum of those products
abbrev pub round_of : ℕ → ℕ → List (List ℕ) → List ℕ
round_of n half us = plus_all n (map (term_at n half us) (count_from 0 half))

-- a line may be reduced before it is multiplied
times_reduced : (n a b : ℕ) (q : List ℕ) → times n (a % n ∷ sub n (b % n) (a % n) ∷ []) q ≡ times n (a ∷ sub n b a ∷ []) q
times_reduced n a b q =
    ap₂ (λ (u : List ℕ) (d : ℕ). plus n u (0 ∷ times n (d ∷ []) q))
    (map_same (mul n (a % n)) (mul n a) q (every (λ (c : ℕ). mul n (a % n) c ≡ mul n a c) (λ (c : ℕ). mul_mod_left n a c) q))
    (ap₂ (sub n) (sym (add-zero-mod n b)) (sym (add-zero-mod n a)) ∙ same n (at b ⊕ at 0 ⊕ ⊖ (at a ⊕ at 0)) (at b ⊕ ⊖ at a) 0 0 (omega arith))

-- a round's line at a corner is the line of the folded table at the corner's index, reduced
line-folded : (n : ℕ) → 0 < n → (r b t : List ℕ) (rest : ℕ) → Corner rest b
    → line n r b t ≡ (get_or (folded n t r (suc rest)) (index b) 0 % n) ∷ sub n (get_or (folded n t r (suc rest)) (2 ^ rest + index b) 0 % n)
    (get_or (folded n t r (suc rest)) (index b) 0 % n) ∷ []
line-folded n h r b t rest c =
    ap₂ (λ (a d : ℕ). a ∷ sub n d a ∷ []) (value 0 (index b) (omega arith) (sym (low_index (2 ^ length b) (index b))))
    (value 1 (2 ^ rest + index b) (omega arith) (sym (high_index (2 ^ length b) (index b)) ∙ ap (λ (l : ℕ). 2 ^ l + index b) c.members))
  where
    value : (x i : ℕ) → x < 2 → x * 2 ^ length b + index b ≡ i → extension n t (r ++ x ∷ b) ≡ get_or (folded n t r (suc rest)) i 0 % n
    value x i l e =
        extension-folded n h r t (x ∷ b)
        ∙ (extension_corner n h (folded n t r (suc (length b))) (x ∷ b) (l, c.bits)
        ∙ ap₂ (λ (k j : ℕ). get_or (folded n t r (suc k)) j 0 % n) c.members e)

term_folded : (n : ℕ) → 0 < n → (r b : List ℕ) (rest : ℕ) → Corner rest b → (ts : List (List ℕ))
    → times_all n (map (line n r b) ts) ≡ term_at n (2 ^ rest) (map (λ (t : List ℕ). folded n t r (suc rest)) ts) (index b)
term_folded n h r b rest c [] = refl
term_folded n h r b rest c (t ∷ ts) =
    ap₂ (times n) (line-folded n h r b t rest c) (term_folded n h r b rest c ts)
    ∙ times_reduced n (get_or (folded n t r (suc rest)) (index b) 0) (get_or (folded n t r (suc rest)) (2 ^ rest + index b) 0)
    (term_at n (2 ^ rest) (map (λ (u : List ℕ). folded n u r (suc rest)) ts) (index b))

-- the true polynomial, from the folded tables
pub polynomial_folded : (n : ℕ) → 0 < n → (ts : List (List ℕ)) (r : List ℕ) (rest : ℕ)
    → true_polynomial n ts r rest ≡ round_of n (2 ^ rest) (map (λ (t : List ℕ). folded n t r (suc rest)) ts)
polynomial_folded n h ts r rest =
    ap (plus_all n)
    (map_same (λ (b : List ℕ). times_all n (map (line n r b) ts)) (λ (b : List ℕ). term_at n (2 ^ rest) us (index b)) (corners rest)
    (every_map (Corner rest) (λ (b : List ℕ). times_all n (map (line n r b) ts) ≡ term_at n (2 ^ rest) us (index b))
    (λ (b : List ℕ) (c : Corner rest b). term_folded n h r b rest c ts) (corners rest) (corner_all rest))
    ∙ (sym (map_twice (term_at n (2 ^ rest) us) index (corners rest)) ∙ ap (map (term_at n (2 ^ rest) us)) (corners_count rest)))
  where
    us : List (List ℕ)
    us = map (λ (t : List ℕ). folded n t r (suc rest)) ts
