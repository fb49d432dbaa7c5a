-- A polynomial in an array (specs/Array): zeros on top change no value, and the array's places. Assumes nothing.
use mathlib.Core.Path.{◌≡◌, refl, sym, ap, ◌∙◌}
use mathlib.Core.List.{List, [], ◌∷◌, ◌++◌}
use Prim.Native.Nat.{ℕ, zero, suc, ◌-◌, ◌≤◌}
use native.Mathlib.Nat.{zero-mod}
use lib.ListN.{length, replicate}
use lib.Seq.{take_all}
use Rattle.arithmetic.specs.Modulo.{add, mul}
use Rattle.arithmetic.proofs.Modulo.{mul-zero-mod}
use Rattle.polynomial.specs.Polynomial.{value}
use Rattle.polynomial.specs.Array.{padded}
use Rattle.polynomial.proofs.Value.{value-cons}

-- zeros alone
value_zeros : (n k x : ℕ) → value n (replicate k 0) x ≡ 0
value_zeros n zero x = refl
value_zeros n (suc k) x =
    value-cons n 0 (replicate k 0) x ∙ (ap (λ (v : ℕ). add n 0 (mul n x v)) (value_zeros n k x) ∙ (ap (add n 0) (mul-zero-mod n x) ∙ zero-mod n))

-- zeros on top
value-top : (n k : ℕ) (cs : List ℕ) (x : ℕ) → value n (cs ++ replicate k 0) x ≡ value n cs x
value-top n k [] x = value_zeros n k x
value-top n k (c ∷ cs) x =
    value-cons n c (cs ++ replicate k 0) x ∙ (ap (λ (v : ℕ). add n c (mul n x v)) (value-top n k cs x) ∙ sym (value-cons n c cs x))

-- an array with all coefficients in it has the polynomial's values
pub padded-value : (n places : ℕ) (cs : List ℕ) (x : ℕ) → length cs ≤ places → value n (padded places cs) x ≡ value n cs x
padded-value n places cs x h =
    ap (λ (l : List ℕ). value n (l ++ replicate (places - length cs) 0) x) (take_all places cs h) ∙ value-top n (places - length cs) cs x
