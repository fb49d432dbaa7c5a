-- Lists of which something holds at every member, and the sum of a list modulo n. Assumes nothing.
use mathlib.Core.Path.{◌≡◌, refl, sym, ap, ap₂, ◌∙◌}
use mathlib.Core.List.{List, [], ◌∷◌, ◌++◌, map}
use Prim.Native.Nat.{ℕ, zero, suc, ◌+◌, ◌%◌}
use native.Mathlib.Nat.{mod-mod, zero-mod}
use native.Mathlib.Omega.{arith}
use lib.ListN.{take, drop}
use Rattle.arithmetic.specs.Modulo.{add, mul}
use Rattle.arithmetic.proofs.Ring.{at, ◌⊕◌, ◌⊗◌, same}
use Rattle.arithmetic.proofs.Modulo.{zero-add-mod, mul-zero-mod}
use Rattle.polynomial.specs.Elements.{Every, sum}

-- what holds of everything holds of every member
pub every : {A : Type 0} (P : A → Type 0) → ((x : A) → P x) → (xs : List A) → Every P xs
every P h [] = tt
every P h (x ∷ xs) = (h x, every P h xs)

-- what follows from P at each member
pub every_map : {A : Type 0} (P Q : A → Type 0) → ((x : A) → P x → Q x) → (xs : List A) → Every P xs → Every Q xs
every_map P Q h [] u = tt
every_map P Q h (x ∷ xs) u = (h x u.0, every_map P Q h xs u.1)

-- every member of a list under a map
pub every_of_map : {A B : Type 0} (P : B → Type 0) (g : A → B) (xs : List A) → Every (λ (x : A). P (g x)) xs → Every P (map g xs)
every_of_map P g [] u = tt
every_of_map P g (x ∷ xs) u = (u.0, every_of_map P g xs u.1)

pub every_append : {A : Type 0} (P : A → Type 0) (xs ys : List A) → Every P xs → Every P ys → Every P (xs ++ ys)
every_append P [] ys u v = v
every_append P (x ∷ xs) ys u v = (u.0, every_append P xs ys u.1 v)

-- every member of what is taken and of what is dropped
pub every_take : {A : Type 0} (P : A → Type 0) (i : ℕ) (xs : List A) → Every P xs → Every P (take i xs)
every_take P zero xs u = tt
every_take P (suc i) [] u = tt
every_take P (suc i) (x ∷ xs) u = (u.0, every_take P i xs u.1)

pub every_drop : {A : Type 0} (P : A → Type 0) (i : ℕ) (xs : List A) → Every P xs → Every P (drop i xs)
every_drop P zero xs u = u
every_drop P (suc i) [] u = tt
every_drop P (suc i) (x ∷ xs) u = every_drop P i xs u.1

-- two maps that agree at every member
pub map_same : {A B : Type 0} (g h : A → B) (xs : List A) → Every (λ (x : A). g x ≡ h x) xs → map g xs ≡ map h xs
map_same g h [] u = refl
map_same {B = B} g h (x ∷ xs) u = ap₂ {B = List B} (λ (y : B) (ys : List B). y ∷ ys) u.0 (map_same g h xs u.1)

pub map_twice : {A B C : Type 0} (g : B → C) (h : A → B) (xs : List A) → map g (map h xs) ≡ map (λ (x : A). g (h x)) xs
map_twice g h [] = refl
map_twice {C = C} g h (x ∷ xs) = ap (λ (ys : List C). g (h x) ∷ ys) (map_twice g h xs)

-- a sum is its own remainder
pub sum_reduced : (n : ℕ) (xs : List ℕ) → sum n xs % n ≡ sum n xs
sum_reduced n [] = zero-mod n
sum_reduced n (x ∷ xs) = mod-mod (x + sum n xs) n

pub sum-append : (n : ℕ) (xs ys : List ℕ) → sum n (xs ++ ys) ≡ add n (sum n xs) (sum n ys)
sum-append n [] ys = sym (zero-add-mod n (sum n ys) ∙ sum_reduced n ys)
sum-append n (x ∷ xs) ys =
    ap (add n x) (sum-append n xs ys)
    ∙ same n (at x ⊕ (at (sum n xs) ⊕ at (sum n ys))) (at x ⊕ at (sum n xs) ⊕ at (sum n ys)) 0 0 (omega arith)

-- the sum of sums
pub sum-add : {A : Type 0} (n : ℕ) (g h : A → ℕ) (xs : List A)
    → sum n (map (λ (x : A). add n (g x) (h x)) xs) ≡ add n (sum n (map g xs)) (sum n (map h xs))
sum-add n g h [] = sym (zero-add-mod n 0 ∙ zero-mod n)
sum-add n g h (x ∷ xs) =
    ap (add n (add n (g x) (h x))) (sum-add n g h xs)
    ∙ same n (at (g x) ⊕ at (h x) ⊕ (at (sum n (map g xs)) ⊕ at (sum n (map h xs))))
    (at (g x) ⊕ at (sum n (map g xs)) ⊕ (at (h x) ⊕ at (sum n (map h xs)))) 0 0 (omega arith)

-- the sum of multiples
pub sum-mul : {A : Type 0} (n a : ℕ) (g : A → ℕ) (xs : List A) → sum n (map (λ (x : A). mul n a (g x)) xs) ≡ mul n a (sum n (map g xs))
sum-mul n a g [] = sym (mul-zero-mod n a)
sum-mul n a g (x ∷ xs) =
    ap (add n (mul n a (g x))) (sum-mul n a g xs)
    ∙ same n (at a ⊗ at (g x) ⊕ at a ⊗ at (sum n (map g xs))) (at a ⊗ (at (g x) ⊕ at (sum n (map g xs)))) 0 0 (omega arith)
