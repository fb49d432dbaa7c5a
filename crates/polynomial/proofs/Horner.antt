-- Horner's rule from the top: a fold over a polynomial's coefficients, the top one first, comes to the polynomial's value. Assumes nothing.
use mathlib.Core.Path.{◌≡◌, refl, sym, ap, ◌∙◌}
use mathlib.Core.List.{List, [], ◌∷◌, reverse}
use Prim.Native.Nat.{ℕ, ◌+◌, ◌*◌, ◌%◌}
use native.Mathlib.Omega.{arith}
use Rattle.std.specs.List.{fold}
use Rattle.std.proofs.lemmas.List.{reverse-append}
use Rattle.std.proofs.lemmas.List.Sums.{fold-append}
use Rattle.arithmetic.proofs.Ring.{at, ◌⊕◌, ◌⊗◌, same}
use Rattle.polynomial.specs.Polynomial.{value}
use Rattle.polynomial.proofs.Value.{value-cons}

-- one coefficient more below those with the value v
abbrev pub below : ℕ → ℕ → ℕ → ℕ → ℕ
below n x v c = (v * x + c) % n

pub horner : (n : ℕ) (cs : List ℕ) (x : ℕ) → fold (below n x) 0 (reverse cs) ≡ value n cs x
horner n [] x = refl
horner n (c ∷ cs) x =
    ap (fold (below n x) 0) (reverse-append (c ∷ []) cs)
    ∙ (fold-append (below n x) 0 (reverse cs) (c ∷ [])
    ∙ (ap (λ (v : ℕ). below n x v c) (horner n cs x)
    ∙ (same n (at (value n cs x * x + c)) (at c ⊕ at x ⊗ at (value n cs x)) 0 0 (omega arith) ∙ sym (value-cons n c cs x))))
