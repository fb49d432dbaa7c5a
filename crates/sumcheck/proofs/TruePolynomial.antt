-- The true polynomial of a round: its value at every x is the sum of f over the corners of the rest with its variable at x; it is a list of
-- k + 1 elements, and with n prime and above k no other such list has those values; its values at 0 and 1 add up to the round's true claim.
-- Assumes nothing.
use mathlib.Core.Path.{◌≡◌, refl, sym, ap, ap₂, ◌∙◌}
use mathlib.Core.List.{List, [], ◌∷◌, ◌++◌, map, append_assoc, map-append}
use Prim.Native.Nat.{ℕ, suc, ◌+◌, ◌≤◌, ◌<◌}
use native.Mathlib.Omega.{arith}
use lib.ListN.{length, length-map}
use Rattle.arithmetic.specs.Modulo.{add}
use Rattle.arithmetic.specs.Prime.{Prime}
use Rattle.polynomial.specs.Elements.{Elements, sum, product, count_from}
use Rattle.polynomial.specs.Polynomial.{value, times_all}
use Rattle.polynomial.proofs.Lists.{every, every_of_map, map_same, map_twice, sum-append}
use Rattle.polynomial.proofs.Value.{value-plus_all, value-times_all}
use Rattle.polynomial.proofs.Shape.{length-times_all, length-plus_all, elements-times_all, elements-plus_all}
use Rattle.polynomial.proofs.Roots.{agree_equal}
use Rattle.sumcheck.specs.Corners.{corners}
use Rattle.sumcheck.specs.Extension.{extension}
use Rattle.sumcheck.specs.Function.{f, true_claim}
use Rattle.sumcheck.specs.TruePolynomial.{line, true_polynomial}
use Rattle.sumcheck.proofs.Corners.{corners_some, count_length, count_every, count_distinct}
use Rattle.sumcheck.proofs.Extension.{line-value}

-- the term of one corner
term_value : (n : ℕ) → 0 < n → (ts : List (List ℕ)) (r b : List ℕ) (x : ℕ) → value n (times_all n (map (line n r b) ts)) x ≡ f n ts (r ++ x ∷ b)
term_value n h ts r b x =
    value-times_all n (map (line n r b) ts) x
    ∙ ap (product n)
    (map_twice (λ (p : List ℕ). value n p x) (line n r b) ts
    ∙ map_same (λ (t : List ℕ). value n (line n r b t) x) (λ (t : List ℕ). extension n t (r ++ x ∷ b)) ts
    (every (λ (t : List ℕ). value n (line n r b t) x ≡ extension n t (r ++ x ∷ b)) (λ (t : List ℕ). line-value n h x t r b) ts))

-- its value at every x is the sum of f over the corners of the rest with its variable at x
pub polynomial_value : (n : ℕ) → 0 < n → (ts : List (List ℕ)) (r : List ℕ) (rest x : ℕ)
    → value n (true_polynomial n ts r rest) x ≡ sum n (map (λ (b : List ℕ). f n ts (r ++ x ∷ b)) (corners rest))
polynomial_value n h ts r rest x =
    value-plus_all n (map (λ (b : List ℕ). times_all n (map (line n r b) ts)) (corners rest)) x
    ∙ ap (sum n)
    (map_twice (λ (p : List ℕ). value n p x) (λ (b : List ℕ). times_all n (map (line n r b) ts)) (corners rest)
    ∙ map_same (λ (b : List ℕ). value n (times_all n (map (line n r b) ts)) x) (λ (b : List ℕ). f n ts (r ++ x ∷ b)) (corners rest)
    (every (λ (b : List ℕ). value n (times_all n (map (line n r b) ts)) x ≡ f n ts (r ++ x ∷ b)) (λ (b : List ℕ). term_value n h ts r b x) (corners rest)))

-- that is the true claim once the challenge x is put too
pub polynomial_claim : (n : ℕ) → 0 < n → (ts : List (List ℕ)) (r : List ℕ) (rest x : ℕ)
    → value n (true_polynomial n ts r rest) x ≡ true_claim n ts (r ++ x ∷ []) rest
polynomial_claim n h ts r rest x =
    polynomial_value n h ts r rest x
    ∙ ap (sum n) (map_same (λ (b : List ℕ). f n ts (r ++ x ∷ b)) (λ (b : List ℕ). f n ts ((r ++ x ∷ []) ++ b)) (corners rest)
    (every (λ (b : List ℕ). f n ts (r ++ x ∷ b) ≡ f n ts ((r ++ x ∷ []) ++ b)) (λ (b : List ℕ). ap (f n ts) (sym (append_assoc r (x ∷ []) b))) (corners rest)))

-- its values at 0 and 1 add up to the round's true claim
pub polynomial_sum : (n : ℕ) → 0 < n → (ts : List (List ℕ)) (r : List ℕ) (rest : ℕ)
    → add n (value n (true_polynomial n ts r rest) 0) (value n (true_polynomial n ts r rest) 1) ≡ true_claim n ts r (suc rest)
unfolding corners
polynomial_sum n h ts r rest =
    ap₂ (add n) (polynomial_value n h ts r rest 0 ∙ half 0) (polynomial_value n h ts r rest 1 ∙ half 1)
    ∙ (sym (sum-append n (map g (map (λ (b : List ℕ). 0 ∷ b) (corners rest))) (map g (map (λ (b : List ℕ). 1 ∷ b) (corners rest))))
    ∙ ap (sum n) (sym (map-append g (map (λ (b : List ℕ). 0 ∷ b) (corners rest)) (map (λ (b : List ℕ). 1 ∷ b) (corners rest)))))
  where
    g : List ℕ → ℕ
    g b = f n ts (r ++ b)

    half : (x : ℕ) → sum n (map (λ (b : List ℕ). f n ts (r ++ x ∷ b)) (corners rest)) ≡ sum n
        (map (λ (b : List ℕ). f n ts (r ++ b)) (map (λ (b : List ℕ). x ∷ b) (corners rest)))
    half x = ap (sum n) (sym (map_twice (λ (b : List ℕ). f n ts (r ++ b)) (λ (b : List ℕ). x ∷ b) (corners rest)))

-- it has k + 1 coefficients
pub polynomial_length : (n : ℕ) (ts : List (List ℕ)) (r : List ℕ) (rest : ℕ) → length (true_polynomial n ts r rest) ≡ suc (length ts)
polynomial_length n ts r rest =
    length-plus_all n (suc (length ts)) (map term (corners rest)) (omega (arith, length-map (corners rest) term, corners_some rest))
    (every_of_map (λ (q : List ℕ). length q ≡ suc (length ts)) term (corners rest)
    (every (λ (b : List ℕ). length (term b) ≡ suc (length ts)) term_length (corners rest)))
  where
    term : List ℕ → List ℕ
    term b = times_all n (map (line n r b) ts)

    term_length : (b : List ℕ) → length (times_all n (map (line n r b) ts)) ≡ suc (length ts)
    term_length b =
        length-times_all n (map (line n r b) ts)
        (every_of_map (λ (p : List ℕ). length p ≡ 2) (line n r b) ts (every (λ (t : List ℕ). length (line n r b t) ≡ 2) (λ (t : List ℕ). refl) ts))
        ∙ ap suc (length-map ts (line n r b))

-- which are elements
pub polynomial_elements : (n : ℕ) → 0 < n → (ts : List (List ℕ)) (r : List ℕ) (rest : ℕ) → Elements n (true_polynomial n ts r rest)
polynomial_elements n h ts r rest =
    elements-plus_all n h (map (λ (b : List ℕ). times_all n (map (line n r b) ts)) (corners rest))
    (every_of_map (Elements n) (λ (b : List ℕ). times_all n (map (line n r b) ts)) (corners rest)
    (every (λ (b : List ℕ). Elements n (times_all n (map (line n r b) ts))) (λ (b : List ℕ). elements-times_all n h (map (line n r b) ts)) (corners rest)))

-- with n prime and above k no other list of k + 1 elements has those values
pub polynomial_unique : (n : ℕ) → Prime n → (ts : List (List ℕ)) (r : List ℕ) (rest : ℕ) → length ts < n → (q : List ℕ) → length q ≡ suc (length ts)
    → Elements n q → ((x : ℕ) → x < n → value n q x ≡ sum n (map (λ (b : List ℕ). f n ts (r ++ x ∷ b)) (corners rest))) → q ≡ true_polynomial n ts r rest
polynomial_unique n h ts r rest k q l u e =
    agree_equal n h q (true_polynomial n ts r rest) (count_from 0 (suc (length ts))) (l ∙ sym (polynomial_length n ts r rest)) u
    (polynomial_elements n (omega (arith, h.above)) ts r rest)
    (count_every (λ (x : ℕ). x < n) 0 (suc (length ts)) (λ (x : ℕ) (a : 0 ≤ x) (b : x < 0 + suc (length ts)). omega arith))
    (count_distinct 0 (suc (length ts)))
    (count_every (λ (x : ℕ). value n q x ≡ value n (true_polynomial n ts r rest) x) 0 (suc (length ts))
    (λ (x : ℕ) (a : 0 ≤ x) (b : x < 0 + suc (length ts)). e x (omega arith) ∙ sym (polynomial_value n (omega (arith, h.above)) ts r rest x)))
    (omega (arith, count_length 0 (suc (length ts))))
