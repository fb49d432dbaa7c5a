-- What the true sum is in plain numbers (specs/Meaning): at a corner an extension is its table's number, so the true sum goes by places, and a sum of
-- remainders has the remainder of the plain sum. A bound of each factor bounds the sum, so that it is its own remainder. Assumes nothing.
use mathlib.Core.Path.{◌≡◌, refl, sym, ap, ap₂, ◌∙◌}
use mathlib.Core.List.{List, [], ◌∷◌, map}
use Prim.Native.Nat.{ℕ, zero, suc, ◌+◌, ◌*◌, ◌^◌, ◌%◌, ◌≤◌, ◌<◌}
use native.Mathlib.Nat.{add-zero, suc-add, add-suc, add-mod, zero-mod, mod-eq_of_lt, mul-le-mul}
use native.Mathlib.Omega.{arith}
use lib.ListN.{length, get_or}
use Rattle.arithmetic.specs.Modulo.{add, mul}
use Rattle.arithmetic.proofs.Modulo.{mul_mod_right}
use Rattle.polynomial.specs.Elements.{Every, sum, product, count_from}
use Rattle.sumcheck.specs.Meaning.{total, multiplied, product_at, plain_sum, Bounded}
use Rattle.sumcheck.specs.Meaning.{ManyTables, OneTable, TotalItself, CallersRule, RightShape, ValueIsSum, NoOther, AddsUp}
use Rattle.sumcheck.proofs.Corners.{count_length}
use Rattle.sumcheck.proofs.Halves.{column, sum_columns}
use Rattle.sumcheck.proofs.TruePolynomial.{polynomial_length, polynomial_elements, polynomial_value, polynomial_unique, polynomial_sum}

-- a product modulo n is the plain product's remainder
product-plain : (n : ℕ) (xs : List ℕ) → product n xs ≡ multiplied xs % n
product-plain n [] = refl
product-plain n (x ∷ xs) = ap (mul n x) (product-plain n xs) ∙ mul_mod_right n x (multiplied xs)

-- so is a sum of remainders the plain sum's
sum-plain : (n : ℕ) (g h : ℕ → ℕ) → ((i : ℕ) → g i ≡ h i % n) → (xs : List ℕ) → sum n (map g xs) ≡ total (map h xs) % n
sum-plain n g h e [] = sym (zero-mod n)
sum-plain n g h e (x ∷ xs) = ap₂ (add n) (e x) (sum-plain n g h e xs) ∙ sym (add-mod (h x) (total (map h xs)) n)

pub many_tables : ManyTables
unfolding ManyTables
many_tables n h tables m =
    sum_columns n h tables m
    ∙ sum-plain n (column n tables) (product_at tables) (λ (i : ℕ). product-plain n (map (λ (t : List ℕ). get_or t i 0) tables)) (count_from 0 (2 ^ m))

-- the numbers of a list, place by place, are the list
places_total : (table : List ℕ) (h : ℕ → ℕ) (i : ℕ) → ((j : ℕ) → h (i + j) ≡ get_or table j 0 * 1) → total (map h (count_from i (length table))) ≡ total table
unfolding count_from
places_total [] h i e = refl
places_total (x ∷ table) h i e =
    ap₂ {B = ℕ} (λ (a b : ℕ). a + b) (ap h (sym (add-zero i)) ∙ (e 0 ∙ one x))
    (places_total table h (suc i) (λ (j : ℕ). ap h (suc-add i j ∙ sym (add-suc i j)) ∙ e (suc j)))
  where
    one : (y : ℕ) → y * 1 ≡ y
    one y = omega arith

one_plain : (table : List ℕ) (m : ℕ) → length table ≡ 2 ^ m → plain_sum (table ∷ []) m ≡ total table
one_plain table m e =
    ap (λ (c : ℕ). total (map (product_at (table ∷ [])) (count_from 0 c))) (sym e)
    ∙ places_total table (product_at (table ∷ [])) 0 (λ (j : ℕ). ap (product_at (table ∷ [])) (none j))
  where
    none : (j : ℕ) → 0 + j ≡ j
    none j = omega arith

pub one_table : OneTable
unfolding OneTable ManyTables
one_table n h table m e = many_tables n h (table ∷ []) m ∙ ap (λ (t : ℕ). t % n) (one_plain table m e)

pub total_itself : TotalItself
unfolding TotalItself OneTable
total_itself n table m e l = one_table n (omega arith) table m e ∙ mod-eq_of_lt l

-- a number of a table, also the 0 that stands for none, is at most the table's bound
number_bounded : (b : ℕ) (table : List ℕ) (i : ℕ) → Every (λ (x : ℕ). x ≤ b) table → get_or table i 0 ≤ b
number_bounded b [] i u = omega arith
number_bounded b (x ∷ table) zero u = u.0
number_bounded b (x ∷ table) (suc i) u = number_bounded b table i u.1

product-bounded : (tables : List (List ℕ)) (bounds : List ℕ) (i : ℕ) → Bounded tables bounds → product_at tables i ≤ multiplied bounds
product-bounded [] [] i u = omega arith
product-bounded [] (b ∷ bounds) i u = absurd u
product-bounded (t ∷ tables) [] i u = absurd u
product-bounded (t ∷ tables) (b ∷ bounds) i u = mul-le-mul (number_bounded b t i u.0) (product-bounded tables bounds i u.1)

total-bounded : (b : ℕ) (h : ℕ → ℕ) → ((i : ℕ) → h i ≤ b) → (xs : List ℕ) → total (map h xs) ≤ length xs * b
total-bounded b h l [] = omega arith
total-bounded b h l (x ∷ xs) = omega (arith, l x, total-bounded b h l xs)

pub callers_rule : CallersRule
unfolding CallersRule ManyTables
callers_rule n tables m bounds u l = many_tables n (omega arith) tables m ∙ mod-eq_of_lt small
  where
    small : plain_sum tables m < n
    small =
        omega (
          arith,
          total-bounded (multiplied bounds) (product_at tables) (λ (i : ℕ). product-bounded tables bounds i u) (count_from 0 (2 ^ m)),
          ap (λ (c : ℕ). c * multiplied bounds) (count_length 0 (2 ^ m)),
        )

pub right-shape : RightShape
unfolding RightShape
right-shape n h tables r rest = (polynomial_length n tables r rest, polynomial_elements n h tables r rest)

pub value_is_sum : ValueIsSum
unfolding ValueIsSum
value_is_sum = polynomial_value

pub no_other_lem : NoOther
unfolding NoOther
no_other_lem = polynomial_unique

pub adds_up : AddsUp
unfolding AddsUp
adds_up = polynomial_sum
