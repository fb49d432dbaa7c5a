-- The numbers of specs/Meaning, each from the statement that it is about, what is left being computed. Assumes nothing.
use mathlib.Core.Path.{◌≡◌, refl, sym, ap, ◌∙◌}
use mathlib.Core.List.{List, [], ◌∷◌}
use Prim.Native.Nat.{ℕ, suc, ◌<◌}
use native.Mathlib.Omega.{arith}
use lib.ListN.{length}
use Rattle.arithmetic.specs.Modulo.{add, pow}
use Rattle.arithmetic.specs.Prime.{Prime}
use Rattle.arithmetic.proofs.Trial.{undivided_from, prime_by_trial}
use Rattle.polynomial.specs.Elements.{Elements, count_from}
use Rattle.polynomial.specs.Polynomial.{value}
use Rattle.sumcheck.specs.Corners.{corners}
use Rattle.sumcheck.specs.Function.{true_sum, true_claim}
use Rattle.sumcheck.specs.TruePolynomial.{true_polynomial}
use Rattle.sumcheck.specs.Meaning.{ManyTables, OneTable, TotalItself, CallersRule, RightShape, ValueIsSum, NoOther, AddsUp, MeaningWorked}
use Rattle.sumcheck.proofs.Meaning.{many_tables, one_table, total_itself, callers_rule, right-shape, value_is_sum, no_other_lem, adds_up}

abbrev t : List ℕ
t = 3 ∷ 4 ∷ 1 ∷ 2 ∷ []

abbrev u : List ℕ
u = 0 ∷ 1 ∷ 2 ∷ 0 ∷ []

prime_11 : Prime 11
prime_11 = prime_by_trial 11 2 (omega arith) (omega arith) (unfold undivided_from in tt)

pair : true_sum 11 ((5 ∷ []) ∷ (7 ∷ []) ∷ []) 0 ≡ 2
unfolding ManyTables count_from
pair = many_tables 11 (omega arith) ((5 ∷ []) ∷ (7 ∷ []) ∷ []) 0

pairs : true_sum 5 (u ∷ t ∷ []) 2 ≡ 1
unfolding ManyTables count_from
pairs = many_tables 5 (omega arith) (u ∷ t ∷ []) 2

wrapped : true_sum 7 (t ∷ []) 2 ≡ 3
unfolding OneTable
wrapped = one_table 7 (omega arith) t 2 refl

balance : true_sum 11 ((9 ∷ []) ∷ []) 0 ≡ 9
unfolding TotalItself
balance = total_itself 11 (9 ∷ []) 0 refl (omega arith)

whole : true_sum 11 (t ∷ []) 2 ≡ 10
unfolding TotalItself
whole = total_itself 11 t 2 refl (omega arith)

at_most_lem : true_sum 36 ((5 ∷ []) ∷ (7 ∷ []) ∷ []) 0 ≡ 35
unfolding CallersRule count_from
at_most_lem = callers_rule 36 ((5 ∷ []) ∷ (7 ∷ []) ∷ []) 0 (5 ∷ 7 ∷ []) ((omega arith, tt), ((omega arith, tt), tt)) (omega arith)

bounded : true_sum 33 (u ∷ t ∷ []) 2 ≡ 6
unfolding CallersRule count_from
bounded =
    callers_rule 33 (u ∷ t ∷ []) 2 (2 ∷ 4 ∷ [])
    ((omega arith, (omega arith, (omega arith, (omega arith, tt)))), ((omega arith, (omega arith, (omega arith, (omega arith, tt)))), tt)) (omega arith)

-- P3 and P4
seven : true_polynomial 11 (t ∷ []) [] 1 ≡ 7 ∷ 7 ∷ []
unfolding corners pow
seven = refl

four : true_polynomial 11 (t ∷ []) (5 ∷ []) 0 ≡ 4 ∷ 1 ∷ []
unfolding corners pow
four = refl

shape : length (true_polynomial 11 ((0 ∷ 1 ∷ []) ∷ (2 ∷ 3 ∷ []) ∷ (4 ∷ 5 ∷ []) ∷ []) [] 0) ≡ 4
unfolding RightShape
shape = (right-shape 11 (omega arith) ((0 ∷ 1 ∷ []) ∷ (2 ∷ 3 ∷ []) ∷ (4 ∷ 5 ∷ []) ∷ []) [] 0).0

second : value 11 (true_polynomial 11 (t ∷ []) (5 ∷ []) 0) 2 ≡ 6
unfolding ValueIsSum corners pow
second = value_is_sum 11 (omega arith) (t ∷ []) (5 ∷ []) 0 2

only : (s : List ℕ) → length s ≡ 2 → Elements 11 s → ((x : ℕ) → x < 11 → value 11 s x ≡ value 11 (4 ∷ 1 ∷ []) x) → s ≡ 4 ∷ 1 ∷ []
unfolding NoOther ValueIsSum
only s l e same =
    no_other_lem 11 prime_11 (t ∷ []) (5 ∷ []) 0 (omega arith) s l e
    (λ (x : ℕ) (b : x < 11).
    same x b ∙ (ap (λ (q : List ℕ). value 11 q x) (sym four) ∙ value_is_sum 11 (omega arith) (t ∷ []) (5 ∷ []) 0 x))
    ∙ four

-- the values at 0 and 1 of a list that is a true polynomial
adds : (r : List ℕ) (rest : ℕ) (q : List ℕ) → true_polynomial 11 (t ∷ []) r rest ≡ q
    → add 11 (value 11 q 0) (value 11 q 1) ≡ true_claim 11 (t ∷ []) r (suc rest)
unfolding AddsUp
adds r rest q e = ap (λ (s : List ℕ). add 11 (value 11 s 0) (value 11 s 1)) (sym e) ∙ adds_up 11 (omega arith) (t ∷ []) r rest

pub meaning-worked : MeaningWorked
meaning-worked =
    record {
      pairs = pairs;
      pair = pair;
      wrapped = wrapped;
      whole = whole;
      balance = balance;
      bounded = bounded;
      at_most = at_most_lem;
      shape = shape;
      second = second;
      only = only;
      first = adds [] 1 (7 ∷ 7 ∷ []) seven;
      last = adds (5 ∷ []) 0 (4 ∷ 1 ∷ []) four;
    }
