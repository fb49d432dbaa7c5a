-- Lists of elements modulo n, their sum and their product; numbers that follow each other.
use Rattle.std.specs.Prelude.{◌≡◌, List, [], ◌∷◌, ℕ, zero, suc, ◌%◌, ◌<◌}
use Rattle.arithmetic.specs.Modulo.{add, mul}

-- P holds of every member of the list
abbrev pub Every : {A : Type 0} → (A → Type 0) → List A → Type 0
Every P [] = Unit {0}
Every P (x ∷ xs) = P x × Every P xs

-- every member is below n (document 01, "Terms": an element)
abbrev pub Elements : ℕ → List ℕ → Type 0
Elements n xs = Every (λ (x : ℕ). x < n) xs

-- no number stands twice
abbrev pub Distinct : List ℕ → Type 0
Distinct [] = Unit {0}
Distinct (x ∷ xs) = Every (λ (y : ℕ). x ≡ y → ⊥) xs × Distinct xs

-- the sum of the members modulo n
abbrev pub sum : ℕ → List ℕ → ℕ
sum n [] = 0
sum n (x ∷ xs) = add n x (sum n xs)

-- the product of the members modulo n
abbrev pub product : ℕ → List ℕ → ℕ
product n [] = 1 % n
product n (x ∷ xs) = mul n x (product n xs)

-- i, i + 1, .., in all c numbers
unfoldable pub count_from : ℕ → ℕ → List ℕ
count_from i zero = []
count_from i (suc c) = i ∷ count_from (suc i) c
