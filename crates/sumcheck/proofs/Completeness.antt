-- A true claim is accepted (specs/Demands, Complete): with the true polynomials every sum fits the running claim, which stays the true claim of
-- what is left, and the last one is f at the challenges. Assumes nothing.
use mathlib.Core.Path.{◌≡◌, refl, sym, ap, ◌∙◌}
use mathlib.Core.List.{List, [], ◌∷◌, ◌++◌, map, append_assoc, append-nil}
use Prim.Native.Nat.{ℕ, suc, ◌<◌}
use lib.ListN.{length}
use borrow.Author.Tests.{eq-eqb}
use Rattle.arithmetic.specs.Modulo.{add}
use Rattle.arithmetic.proofs.Modulo.{add-zero-mod}
use Rattle.polynomial.specs.Polynomial.{value}
use Rattle.refusals.specs.First.{choose}
use Rattle.sumcheck.specs.Corners.{corners}
use Rattle.sumcheck.specs.Extension.{extension}
use Rattle.sumcheck.specs.Function.{f, true_claim}
use Rattle.sumcheck.specs.TruePolynomial.{true_polynomial, polynomials_after}
use Rattle.sumcheck.specs.Protocol.{Rounds, reached, failed, rounds_from, final, fits}
use Rattle.sumcheck.specs.Demands.{Complete}
use Rattle.sumcheck.proofs.Parts.{product_reduced}
use Rattle.sumcheck.proofs.TruePolynomial.{polynomial_claim, polynomial_sum}

-- with no variable left the true claim is f at the challenges
pub claim_last : (n : ℕ) (ts : List (List ℕ)) (r : List ℕ) → true_claim n ts r 0 ≡ f n ts r
unfolding corners
claim_last n ts r =
    add-zero-mod n (f n ts (r ++ []))
    ∙ (product_reduced n (map (λ (t : List ℕ). extension n t (r ++ [])) ts) ∙ ap (f n ts) (append-nil r))

-- a round whose sum fits goes on
pub fits_on : (n j c : ℕ) (s : List ℕ) (a b : Rounds) → add n (value n s 0) (value n s 1) ≡ c → choose (fits n s c) a b ≡ a
fits_on n j c s a b e = rw (eq-eqb (add n (value n s 0) (value n s 1)) c e) refl

true-rounds : (n : ℕ) → 0 < n → (ts : List (List ℕ)) (j : ℕ) (rs r : List ℕ)
    → rounds_from n j (true_claim n ts r (length rs)) rs (polynomials_after n ts r rs) ≡ reached (f n ts (r ++ rs))
true-rounds n h ts j [] r = ap reached (claim_last n ts r ∙ ap (f n ts) (sym (append-nil r)))
true-rounds n h ts j (x ∷ rs) r =
    fits_on n j (true_claim n ts r (suc (length rs))) g next (failed j) (polynomial_sum n h ts r (length rs))
    ∙ (ap (λ (c : ℕ). rounds_from n (suc j) c rs (polynomials_after n ts (r ++ x ∷ []) rs)) (polynomial_claim n h ts r (length rs) x)
    ∙ (true-rounds n h ts (suc j) rs (r ++ x ∷ []) ∙ ap (λ (v : List ℕ). reached (f n ts v)) (append_assoc r (x ∷ []) rs)))
  where
    g : List ℕ
    g = true_polynomial n ts r (length rs)

    next : Rounds
    next = rounds_from n (suc j) (value n g x) rs (polynomials_after n ts (r ++ x ∷ []) rs)

pub complete : Complete
unfolding Complete
complete n h ts rs =
    ap (final (length rs) (f n ts rs)) (true-rounds n h ts 1 rs [])
    ∙ rw (eq-eqb (f n ts rs) (f n ts rs) refl) refl
