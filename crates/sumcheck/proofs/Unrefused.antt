-- What a call knows that was not refused: each test of specs/Lent that fails, as a fact; and the other way round. Assumes nothing.
use mathlib.Core.Path.{◌≡◌, refl, ap}
use mathlib.Core.Bool.{false, not}
use mathlib.Core.List.{List, [], ◌∷◌}
use Prim.Native.Nat.{ℕ, ◌≤◌, ◌<◌}
use native.Mathlib.Omega.{arith}
use lib.Dec.{eqb, ltb, leb}
use lib.ListN.{length}
use borrow.Author.Tests.{ltb-false, leb-false, eqb-true, eqb-false, not-false, eq-eqb, lt-leb}
use Rattle.refusals.specs.Limits.{max_vars, max_degree}
use Rattle.refusals.specs.First.{outside}
use Rattle.refusals.proofs.First.{either-none}
use Rattle.refusals.proofs.Order.{neither_left, neither_right}
use Rattle.polynomial.specs.Elements.{Elements}
use Rattle.sumcheck.specs.Lent.{bad_vars, bad_degree, not_long}

pub vars-within : (vars : ℕ) → bad_vars vars ≡ false → vars ≤ max_vars
vars-within vars e = ltb-false max_vars vars e

pub degree-within : (degree : ℕ) → bad_degree degree ≡ false → degree ≤ max_degree
degree-within degree e = ltb-false max_degree degree (neither_right (eqb degree 0) (ltb max_degree degree) e)

pub degree_some : (degree : ℕ) → bad_degree degree ≡ false → 0 < degree
degree_some degree e =
    let some : degree ≡ 0 → ⊥ = eqb-false degree 0 (neither_left (eqb degree 0) (ltb max_degree degree) e) in
    omega arith

-- a list of the exact length
pub is_long : (k : ℕ) (xs : List ℕ) → not_long k xs ≡ false → length xs ≡ k
is_long k xs e = eqb-true (length xs) k (not-false (eqb (length xs) k) e)

pub long_is : (k : ℕ) (xs : List ℕ) → length xs ≡ k → not_long k xs ≡ false
long_is k xs e = ap not (eq-eqb (length xs) k e)

-- a list of elements
pub is_inside : (n : ℕ) (xs : List ℕ) → outside n xs ≡ false → Elements n xs
is_inside n [] e = tt
is_inside n (x ∷ xs) e = (leb-false n x (neither_left (leb n x) (outside n xs) e), is_inside n xs (neither_right (leb n x) (outside n xs) e))

pub inside_is : (n : ℕ) (xs : List ℕ) → Elements n xs → outside n xs ≡ false
inside_is n [] u = refl
inside_is n (x ∷ xs) u = either-none (lt-leb n x u.0) (inside_is n xs u.1)
