-- Every case of the table holds: a test that is computed over the whole table, and a law that turns it into the statement. A line more in the table
-- changes nothing here. Assumes nothing.
use mathlib.Core.Path.{◌≡◌, refl, ap, ap₂}
use mathlib.Core.Bool.{Bool, true, false}
use mathlib.Core.List.{List, [], ◌∷◌}
use Prim.Native.Nat.{ℕ}
use lib.Dec.{T, eqb, eqb→eq}
use Rattle.arithmetic.specs.Modulo.{pow}
use Rattle.polynomial.specs.Elements.{Every}
use Rattle.sumcheck.specs.Corners.{corners}
use Rattle.sumcheck.specs.Function.{f, true_sum}
use Rattle.sumcheck.specs.TruePolynomial.{true_polynomial}
use Rattle.refusals.specs.First.{Answer, refused, given}
use Rattle.sumcheck.specs.Lent.{parts}
use Rattle.sumcheck.specs.Entries.{checker_answer}
use Rattle.sumcheck.specs.Protocol.{Rounds, reached, failed, rounds, Verdict, accepted, rejected, verdict}
use Rattle.layout.specs.Number.{decimal, digits}
use Rattle.layout.specs.Line.{line_at, form, numbers_of}
use Rattle.layout.specs.Reading.{reading, from_edition, from_field, from_vars, from_degree, from_claim, from_rounds, from_end, lines_at}
use Rattle.cases.specs.Cases.{Case, sum, at, round, check, lent, last, read, check_file, file_rounds, Holds, cases, EveryCase}

abbrev both : Bool → Bool → Bool
both true b = b
both false b = false

left : (a b : Bool) → T (both a b) → T a
left true b t = tt
left false b t = absurd t

right : (a b : Bool) → T (both a b) → T b
right true b t = t
right false b t = absurd t

abbrev same_list : List ℕ → List ℕ → Bool
same_list [] [] = true
same_list [] (y ∷ ys) = false
same_list (x ∷ xs) [] = false
same_list (x ∷ xs) (y ∷ ys) = both (eqb x y) (same_list xs ys)

same_list_equal : (xs ys : List ℕ) → T (same_list xs ys) → xs ≡ ys
same_list_equal [] [] t = refl
same_list_equal [] (y ∷ ys) t = absurd t
same_list_equal (x ∷ xs) [] t = absurd t
same_list_equal (x ∷ xs) (y ∷ ys) t =
    ap₂ {B = List ℕ} (λ (a : ℕ) (b : List ℕ). a ∷ b) (eqb→eq x y (left (eqb x y) (same_list xs ys) t))
    (same_list_equal xs ys (right (eqb x y) (same_list xs ys) t))

abbrev same_verdict : Verdict → Verdict → Bool
same_verdict accepted accepted = true
same_verdict accepted (rejected j) = false
same_verdict (rejected i) accepted = false
same_verdict (rejected i) (rejected j) = eqb i j

same_verdict_equal : (a b : Verdict) → T (same_verdict a b) → a ≡ b
same_verdict_equal accepted accepted t = refl
same_verdict_equal accepted (rejected j) t = absurd t
same_verdict_equal (rejected i) accepted t = absurd t
same_verdict_equal (rejected i) (rejected j) t = ap rejected (eqb→eq i j t)

abbrev same_rounds : Rounds → Rounds → Bool
same_rounds (reached a) (reached b) = eqb a b
same_rounds (reached a) (failed j) = false
same_rounds (failed i) (reached b) = false
same_rounds (failed i) (failed j) = eqb i j

same_rounds_equal : (a b : Rounds) → T (same_rounds a b) → a ≡ b
same_rounds_equal (reached a) (reached b) t = ap reached (eqb→eq a b t)
same_rounds_equal (reached a) (failed j) t = absurd t
same_rounds_equal (failed i) (reached b) t = absurd t
same_rounds_equal (failed i) (failed j) t = ap failed (eqb→eq i j t)

-- answers, by a test of what is given
abbrev same_answer : {A : Type 0} → (A → A → Bool) → Answer A → Answer A → Bool
same_answer same (given a) (given b) = same a b
same_answer same (given a) (refused j) = false
same_answer same (refused i) (given b) = false
same_answer same (refused i) (refused j) = eqb i j

same_answer_equal : {A : Type 0} (same : A → A → Bool) → ((a b : A) → T (same a b) → a ≡ b) → (a b : Answer A) → T (same_answer same a b) → a ≡ b
same_answer_equal same equal (given a) (given b) t = ap given (equal a b t)
same_answer_equal same equal (given a) (refused j) t = absurd t
same_answer_equal same equal (refused i) (given b) t = absurd t
same_answer_equal same equal (refused i) (refused j) t = ap refused (eqb→eq i j t)

-- the test of a case
abbrev test : Case → Bool
test (sum n ts vars answer) = eqb (true_sum n ts vars) answer
test (at n ts point answer) = eqb (f n ts point) answer
test (round n ts rs rest answer) = same_list (true_polynomial n ts rs rest) answer
test (check n ts claim rs ms answer) = same_verdict (verdict n ts claim rs ms) answer
test (lent n vars degree ts claim rs ms a) = same_answer same_verdict (checker_answer n vars degree ts claim rs ms) a
test (last n claim rs ms answer) = same_rounds (rounds n claim rs ms) answer
test (read n layout bytes ts rs a end) =
    both (same_answer same_verdict (check_file n layout bytes ts rs) a) (same_answer same_rounds (file_rounds n layout bytes rs) end)

tested : (c : Case) → T (test c) → Holds c
tested (sum n ts vars answer) t = eqb→eq (true_sum n ts vars) answer t
tested (at n ts point answer) t = eqb→eq (f n ts point) answer t
tested (round n ts rs rest answer) t = same_list_equal (true_polynomial n ts rs rest) answer t
tested (check n ts claim rs ms answer) t = same_verdict_equal (verdict n ts claim rs ms) answer t
tested (lent n vars degree ts claim rs ms a) t = same_answer_equal same_verdict same_verdict_equal (checker_answer n vars degree ts claim rs ms) a t
tested (last n claim rs ms answer) t = same_rounds_equal (rounds n claim rs ms) answer t
tested (read n layout bytes ts rs a end) t =
    let one = same_answer same_verdict (check_file n layout bytes ts rs) a in
    let two = same_answer same_rounds (file_rounds n layout bytes rs) end in (
      same_answer_equal same_verdict same_verdict_equal (check_file n layout bytes ts rs) a (left one two t),
      same_answer_equal same_rounds same_rounds_equal (file_rounds n layout bytes rs) end (right one two t),
    )

abbrev tests : List Case → Bool
tests [] = true
tests (c ∷ cs) = both (test c) (tests cs)

every-tested : (cs : List Case) → T (tests cs) → Every Holds cs
every-tested [] t = tt
every-tested (c ∷ cs) t = (tested c (left (test c) (tests cs) t), every-tested cs (right (test c) (tests cs) t))

pub every_case : EveryCase
unfolding EveryCase
every_case = every-tested cases
    (unfold corners pow parts reading from_edition from_field from_vars from_degree from_claim from_rounds from_end lines_at line_at form numbers_of
    decimal digits in tt)
