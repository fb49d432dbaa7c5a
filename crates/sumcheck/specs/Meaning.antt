-- What the true sum and the true polynomial are, said with no extension or with no coefficient, as statements. Their proofs are in proofs/Meaning.
--   ManyTables    the true sum of tables is the sum over places of the product of the tables' numbers there, as a remainder modulo n
--   OneTable      so that of one table is the plain total of its numbers, as a remainder
--   TotalItself   and where the plain total is below n, the total itself
--   CallersRule   which is sure if 2^m times the product of a bound for each table is below n
--   RightShape    the true polynomial is a list of k + 1 elements
--   ValueIsSum    the true polynomial's value at every x is the sum of f over the corners of the rest, with its variable at x
--   NoOther       with n prime and above k no other list of k + 1 elements has these values
--   AddsUp        its values at 0 and 1 add up to the true claim of the round
use Rattle.std.specs.Prelude.{◌≡◌, List, [], ◌∷◌, ◌++◌, map, ℕ, suc, ◌+◌, ◌*◌, ◌^◌, ◌%◌, ◌≤◌, ◌<◌, length, get_or}
use Rattle.arithmetic.specs.Modulo.{add}
use Rattle.arithmetic.specs.Prime.{Prime}
use Rattle.polynomial.specs.Elements.{Every, Elements, sum, count_from}
use Rattle.polynomial.specs.Polynomial.{value}
use Rattle.sumcheck.specs.Corners.{corners}
use Rattle.sumcheck.specs.Function.{f, true_sum, true_claim}
use Rattle.sumcheck.specs.TruePolynomial.{true_polynomial}

-- the plain total of numbers, and their plain product: no modulus
abbrev pub total : List ℕ → ℕ
total [] = 0
total (x ∷ xs) = x + total xs

abbrev pub multiplied : List ℕ → ℕ
multiplied [] = 1
multiplied (x ∷ xs) = x * multiplied xs

-- the product of the tables' numbers at place i
abbrev pub product_at : List (List ℕ) → ℕ → ℕ
product_at tables i = multiplied (map (λ (table : List ℕ). get_or table i 0) tables)

-- the sum of these products over the places 0, 1, .., 2^m - 1
abbrev pub plain_sum : List (List ℕ) → ℕ → ℕ
plain_sum tables m = total (map (product_at tables) (count_from 0 (2 ^ m)))

unfoldable pub ManyTables : Type 0
ManyTables = (n : ℕ) → 0 < n → (tables : List (List ℕ)) (m : ℕ) → true_sum n tables m ≡ plain_sum tables m % n

unfoldable pub OneTable : Type 0
OneTable = (n : ℕ) → 0 < n → (table : List ℕ) (m : ℕ) → length table ≡ 2 ^ m → true_sum n (table ∷ []) m ≡ total table % n

unfoldable pub TotalItself : Type 0
TotalItself = (n : ℕ) (table : List ℕ) (m : ℕ) → length table ≡ 2 ^ m → total table < n → true_sum n (table ∷ []) m ≡ total table

-- no number of a table is over its bound, table by table; there are as many bounds as tables
abbrev pub Bounded : List (List ℕ) → List ℕ → Type 0
Bounded [] [] = Unit {0}
Bounded [] (b ∷ bounds) = ⊥
Bounded (table ∷ tables) [] = ⊥
Bounded (table ∷ tables) (b ∷ bounds) = Every (λ (x : ℕ). x ≤ b) table × Bounded tables bounds

unfoldable pub CallersRule : Type 0
CallersRule = (n : ℕ) (tables : List (List ℕ)) (m : ℕ) (bounds : List ℕ) → Bounded tables bounds → 2 ^ m * multiplied bounds < n
    → true_sum n tables m ≡ plain_sum tables m

unfoldable pub RightShape : Type 0
RightShape = (n : ℕ) → 0 < n → (tables : List (List ℕ)) (r : List ℕ) (rest : ℕ)
    → (length (true_polynomial n tables r rest) ≡ suc (length tables)) × Elements n (true_polynomial n tables r rest)

unfoldable pub ValueIsSum : Type 0
ValueIsSum = (n : ℕ) → 0 < n → (tables : List (List ℕ)) (r : List ℕ) (rest x : ℕ)
    → value n (true_polynomial n tables r rest) x ≡ sum n (map (λ (b : List ℕ). f n tables (r ++ x ∷ b)) (corners rest))

unfoldable pub NoOther : Type 0
NoOther = (n : ℕ) → Prime n → (tables : List (List ℕ)) (r : List ℕ) (rest : ℕ) → length tables < n → (s : List ℕ)
    → length s ≡ suc (length tables) → Elements n s
    → ((x : ℕ) → x < n → value n s x ≡ sum n (map (λ (b : List ℕ). f n tables (r ++ x ∷ b)) (corners rest)))
    → s ≡ true_polynomial n tables r rest

unfoldable pub AddsUp : Type 0
AddsUp = (n : ℕ) → 0 < n → (tables : List (List ℕ)) (r : List ℕ) (rest : ℕ)
    → add n (value n (true_polynomial n tables r rest) 0) (value n (true_polynomial n tables r rest) 1) ≡ true_claim n tables r (suc rest)

-- the statements in numbers that can be worked out by hand (document 01, "Sums done by hand"); each is proved from the statement that its comment names
pub record MeaningWorked : Type 0 where
  -- ManyTables: 0·3 + 1·4 + 2·1 + 0·2 = 6, modulo 5; with no variables 5·7 = 35, modulo 11
  pub pairs : true_sum 5 ((0 ∷ 1 ∷ 2 ∷ 0 ∷ []) ∷ (3 ∷ 4 ∷ 1 ∷ 2 ∷ []) ∷ []) 2 ≡ 1
  pub pair : true_sum 11 ((5 ∷ []) ∷ (7 ∷ []) ∷ []) 0 ≡ 2
  -- OneTable: 3 + 4 + 1 + 2 = 10, modulo 7
  pub wrapped : true_sum 7 ((3 ∷ 4 ∷ 1 ∷ 2 ∷ []) ∷ []) 2 ≡ 3
  -- TotalItself: the same modulo 11 (P1), and a ledger of one balance
  pub whole : true_sum 11 ((3 ∷ 4 ∷ 1 ∷ 2 ∷ []) ∷ []) 2 ≡ 10
  pub balance : true_sum 11 ((9 ∷ []) ∷ []) 0 ≡ 9
  -- CallersRule: numbers up to 2 and up to 4 in four places add up to 32 at most; one place, up to 5 and up to 7
  pub bounded : true_sum 33 ((0 ∷ 1 ∷ 2 ∷ 0 ∷ []) ∷ (3 ∷ 4 ∷ 1 ∷ 2 ∷ []) ∷ []) 2 ≡ 6
  pub at_most : true_sum 36 ((5 ∷ []) ∷ (7 ∷ []) ∷ []) 0 ≡ 35
  -- RightShape: round 1 of three tables has four coefficients
  pub shape : length (true_polynomial 11 ((0 ∷ 1 ∷ []) ∷ (2 ∷ 3 ∷ []) ∷ (4 ∷ 5 ∷ []) ∷ []) [] 0) ≡ 4
  -- ValueIsSum: round 2 of P4, after challenge 5, is 4 + X; at 2 it is the extension of P2, 6
  pub second : value 11 (true_polynomial 11 ((3 ∷ 4 ∷ 1 ∷ 2 ∷ []) ∷ []) (5 ∷ []) 0) 2 ≡ 6
  -- NoOther: no other two elements modulo 11 make a list with the values of 4 + X
  pub only : (s : List ℕ) → length s ≡ 2 → Elements 11 s → ((x : ℕ) → x < 11 → value 11 s x ≡ value 11 (4 ∷ 1 ∷ []) x) → s ≡ 4 ∷ 1 ∷ []
  -- AddsUp: the values of 7 + 7X at 0 and 1 (P3) add up to the sum 10 (P1), and those of 4 + X to what is left after challenge 5
  pub first : add 11 (value 11 (7 ∷ 7 ∷ []) 0) (value 11 (7 ∷ 7 ∷ []) 1) ≡ true_claim 11 ((3 ∷ 4 ∷ 1 ∷ 2 ∷ []) ∷ []) [] 2
  pub last : add 11 (value 11 (4 ∷ 1 ∷ []) 0) (value 11 (4 ∷ 1 ∷ []) 1) ≡ true_claim 11 ((3 ∷ 4 ∷ 1 ∷ 2 ∷ []) ∷ []) (5 ∷ []) 1
