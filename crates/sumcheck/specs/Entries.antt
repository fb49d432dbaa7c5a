-- What each entry answers and what it leaves in what was lent, over the modulus n, refusals in document 01's order.
use Rattle.std.specs.Prelude.{List, [], ◌∷◌, ◌++◌, ℕ, eqb, drop, replicate}
use Rattle.refusals.specs.First.{Rule, ◌when◌, Answer, decide, first, choose, either, outside}
use Rattle.sumcheck.specs.Function.{f, true_sum}
use Rattle.sumcheck.specs.TruePolynomial.{true_polynomials}
use Rattle.sumcheck.specs.Protocol.{Verdict, verdict, Rounds, rounds}
use Rattle.sumcheck.specs.Lent.{join, tables_length, messages_length, tables_of, messages_of, bad_vars, bad_degree, not_long, too_short}

-- the true sum of lent tables: its refusals, and its answer
abbrev pub sum_rules : ℕ → ℕ → ℕ → List ℕ → List Rule
sum_rules n vars degree tables =
    1 when bad_vars vars
    ∷ 2 when bad_degree degree
    ∷ 3 when not_long (tables_length vars degree) tables
    ∷ 5 when outside n tables
    ∷ []

abbrev pub sum_answer : ℕ → ℕ → ℕ → List ℕ → Answer ℕ
sum_answer n vars degree tables = decide (sum_rules n vars degree tables) (true_sum n (tables_of vars degree tables) vars)

-- refusals 1, 2 and 3 for tables and a point, by number; 0 if none
abbrev pub lengths_refusal : ℕ → ℕ → List ℕ → List ℕ → ℕ
lengths_refusal vars degree tables point =
    first
    (1 when bad_vars vars
    ∷ 2 when bad_degree degree
    ∷ 3 when either (not_long (tables_length vars degree) tables) (not_long vars point)
    ∷ [])

-- for the entries that have judged the elements: the value of f where the lengths are right, 0 where they are not
abbrev pub value_or_zero : ℕ → ℕ → ℕ → List ℕ → List ℕ → ℕ
value_or_zero n vars degree tables point = choose (eqb (lengths_refusal vars degree tables point) 0) (f n (tables_of vars degree tables) point) 0

-- the value of f at a point: its refusals, and its answer
abbrev pub value_rules : ℕ → ℕ → ℕ → List ℕ → List ℕ → List Rule
value_rules n vars degree tables point =
    1 when bad_vars vars
    ∷ 2 when bad_degree degree
    ∷ 3 when either (not_long (tables_length vars degree) tables) (not_long vars point)
    ∷ 5 when outside n (tables ++ point)
    ∷ []

abbrev pub value_answer : ℕ → ℕ → ℕ → List ℕ → List ℕ → Answer ℕ
value_answer n vars degree tables point = decide (value_rules n vars degree tables point) (f n (tables_of vars degree tables) point)

-- the prover's refusals
abbrev pub prover_rules : ℕ → ℕ → ℕ → List ℕ → List ℕ → List ℕ → List ℕ → List Rule
prover_rules n vars degree tables challenges messages scratch =
    1 when bad_vars vars
    ∷ 2 when bad_degree degree
    ∷ 3 when either (not_long (tables_length vars degree) tables) (not_long vars challenges)
    ∷ 4 when either (too_short (messages_length vars degree) messages) (too_short (tables_length vars degree) scratch)
    ∷ 5 when outside n (tables ++ challenges)
    ∷ []

-- what the prover answers: done, or a refusal
abbrev pub prover_answer : ℕ → ℕ → ℕ → List ℕ → List ℕ → List ℕ → List ℕ → Answer (Unit {0})
prover_answer n vars degree tables challenges messages scratch = decide (prover_rules n vars degree tables challenges messages scratch) tt

-- what the lent message list holds afterwards: the true polynomials in its first m(k+1) places, its rest unchanged; all of it where refused
abbrev pub messages_after : ℕ → ℕ → ℕ → List ℕ → List ℕ → List ℕ → List ℕ → List ℕ
messages_after n vars degree tables challenges messages scratch =
    choose (eqb (first (prover_rules n vars degree tables challenges messages scratch)) 0)
    (join (true_polynomials n (tables_of vars degree tables) challenges) ++ drop (messages_length vars degree) messages)
    messages

-- what scratch holds afterwards: 0 in its first k·2^m places, its rest unchanged; all of it where refused
abbrev pub scratch_after : ℕ → ℕ → ℕ → List ℕ → List ℕ → List ℕ → List ℕ → List ℕ
scratch_after n vars degree tables challenges messages scratch =
    choose (eqb (first (prover_rules n vars degree tables challenges messages scratch)) 0)
    (replicate (tables_length vars degree) 0 ++ drop (tables_length vars degree) scratch)
    scratch

-- the checker with tables: its refusals, and its answer
abbrev pub checker_rules : ℕ → ℕ → ℕ → List ℕ → ℕ → List ℕ → List ℕ → List Rule
checker_rules n vars degree tables claim challenges messages =
    1 when bad_vars vars
    ∷ 2 when bad_degree degree
    ∷ 3 when either (not_long (tables_length vars degree) tables) (either (not_long vars challenges) (not_long (messages_length vars degree) messages))
    ∷ 5 when outside n (tables ++ (claim ∷ challenges ++ messages))
    ∷ []

abbrev pub checker_answer : ℕ → ℕ → ℕ → List ℕ → ℕ → List ℕ → List ℕ → Answer Verdict
checker_answer n vars degree tables claim challenges messages =
    decide (checker_rules n vars degree tables claim challenges messages)
    (verdict n (tables_of vars degree tables) claim challenges (messages_of vars degree messages))

-- the checker without tables
abbrev pub rounds_rules : ℕ → ℕ → ℕ → ℕ → List ℕ → List ℕ → List Rule
rounds_rules n vars degree claim challenges messages =
    1 when bad_vars vars
    ∷ 2 when bad_degree degree
    ∷ 3 when either (not_long vars challenges) (not_long (messages_length vars degree) messages)
    ∷ 5 when outside n (claim ∷ challenges ++ messages)
    ∷ []

abbrev pub rounds_answer : ℕ → ℕ → ℕ → ℕ → List ℕ → List ℕ → Answer Rounds
rounds_answer n vars degree claim challenges messages =
    decide (rounds_rules n vars degree claim challenges messages) (rounds n claim challenges (messages_of vars degree messages))
