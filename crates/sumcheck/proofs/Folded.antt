-- A table folded by several challenges, one after the other: its extension is that of the table with those variables bound; and one challenge more is
-- one folding more. Assumes nothing.
use mathlib.Core.Path.{◌≡◌, refl, ap, ◌∙◌}
use mathlib.Core.List.{List, [], ◌∷◌, ◌++◌}
use Prim.Native.Nat.{ℕ, suc, ◌+◌, ◌^◌, ◌<◌}
use native.Mathlib.Nat.{zero-add}
use native.Mathlib.Omega.{arith}
use lib.ListN.{length, length-append}
use Rattle.sumcheck.specs.Extension.{extension}
use Rattle.sumcheck.specs.Folding.{fold}
use Rattle.sumcheck.proofs.Folding.{extension-fold}

-- the table folded by the challenges r, with so many variables left behind them
abbrev pub folded : ℕ → List ℕ → List ℕ → ℕ → List ℕ
folded n t [] rest = t
folded n t (r ∷ rs) rest = folded n (fold n r (2 ^ (length rs + rest)) t) rs rest

pub extension-folded : (n : ℕ) → 0 < n → (rs t xs : List ℕ) → extension n t (rs ++ xs) ≡ extension n (folded n t rs (length xs)) xs
extension-folded n h [] t xs = refl
extension-folded n h (r ∷ rs) t xs =
    extension-fold n h r t (rs ++ xs)
    ∙ (ap (λ (l : ℕ). extension n (fold n r (2 ^ l) t) (rs ++ xs)) (length-append rs xs)
    ∙ extension-folded n h rs (fold n r (2 ^ (length rs + length xs)) t) xs)

pub folded_more : (n : ℕ) (rs t : List ℕ) (r rest : ℕ) → folded n t (rs ++ r ∷ []) rest ≡ fold n r (2 ^ rest) (folded n t rs (suc rest))
folded_more n [] t r rest = ap (λ (l : ℕ). fold n r (2 ^ l) t) (zero-add rest)
folded_more n (x ∷ rs) t r rest =
    ap (λ (l : ℕ). folded n (fold n x (2 ^ l) t) (rs ++ r ∷ []) rest) (shift rs r rest)
    ∙ folded_more n rs (fold n x (2 ^ (length rs + suc rest)) t) r rest
  where
    shift : (rs : List ℕ) (r rest : ℕ) → length (rs ++ r ∷ []) + rest ≡ length rs + suc rest
    shift rs r rest = omega (arith, length-append rs (r ∷ []))
