-- A lent list as parts of one size (specs/Lent, parts): a product over the parts as a loop takes it. Assumes nothing.
use mathlib.Core.Path.{◌≡◌, refl, sym, ap, ◌∙◌}
use mathlib.Core.List.{List, [], ◌∷◌, map}
use Prim.Native.Nat.{ℕ, zero, suc, ◌+◌, ◌-◌, ◌*◌, ◌%◌}
use native.Mathlib.Nat.{zero-mul, mod-mod, add-sub_cancel_left}
use native.Mathlib.Numerals.{add-one}
use native.Mathlib.Omega.{arith}
use lib.ListN.{take, drop}
use lib.Seq.{drop-drop}
use Rattle.arithmetic.specs.Modulo.{mul}
use Rattle.arithmetic.proofs.Ring.{at, ◌⊕◌, ◌⊗◌, same}
use Rattle.polynomial.specs.Elements.{product}
use Rattle.sumcheck.specs.Lent.{parts}

-- a product is its own remainder
pub product_reduced : (n : ℕ) (xs : List ℕ) → product n xs % n ≡ product n xs
product_reduced n [] = mod-mod 1 n
product_reduced n (x ∷ xs) = mod-mod (x * product n xs) n

-- the product over no part
pub product_none : (n : ℕ) (g : List ℕ → ℕ) (places : ℕ) (xs : List ℕ) → 1 % n ≡ product n (map g (parts 0 places xs))
unfolding parts
product_none n g places xs = refl

-- the product over one part more: as a loop takes them, one part after the other
pub product_more : (n : ℕ) (g : List ℕ → ℕ) (places count : ℕ) (xs : List ℕ)
    → product n (map g (parts (count + 1) places xs)) ≡ mul n (product n (map g (parts count places xs))) (g (take places (drop (count * places) xs)))
unfolding parts
product_more n g places count xs = ap (λ (k : ℕ). product n (map g (parts k places xs))) (add-one count) ∙ go count xs
  where
    first : List ℕ → ℕ
    first ys = g (take places ys)

    go : (k : ℕ) (ys : List ℕ)
        → product n (map g (parts (suc k) places ys)) ≡ mul n (product n (map g (parts k places ys))) (first (drop (k * places) ys))
    go zero ys =
        same n (at (first ys) ⊗ (at 1 ⊕ at 0)) ((at 1 ⊕ at 0) ⊗ at (first ys)) 0 0 (omega arith)
        ∙ ap (λ (start : ℕ). mul n (1 % n) (first (drop start ys))) (sym (zero-mul places))
    go (suc k) ys =
        ap (mul n (first ys)) (go k (drop places ys) ∙ ap (λ (zs : List ℕ). mul n done (first zs)) (drop-drop (k * places) places ys ∙ start))
        ∙ same n (at (first ys) ⊗ (at done ⊗ at last)) (at (first ys) ⊗ at done ⊗ at last) 0 0 (omega arith)
      where
        done : ℕ
        done = product n (map g (parts k places (drop places ys)))

        last : ℕ
        last = first (drop (suc k * places) ys)

        start : drop (places + k * places) ys ≡ drop (suc k * places) ys
        start = ap (λ (i : ℕ). drop i ys) (omega arith)

-- a part from its start to its end
pub part_of : (start places : ℕ) (xs : List ℕ) → take (start + places - start) (drop start xs) ≡ take places (drop start xs)
part_of start places xs = ap (λ (i : ℕ). take i (drop start xs)) (add-sub_cancel_left start places)
