-- The sums done by hand (document 01): one table, and one statement that covers it. To add a case is to add a line to the table.
use Rattle.std.specs.Prelude.{◌≡◌, List, [], ◌∷◌, ◌++◌, ℕ}
use Rattle.polynomial.specs.Elements.{Every}
use Rattle.sumcheck.specs.Function.{f, true_sum}
use Rattle.sumcheck.specs.TruePolynomial.{true_polynomial}
use Rattle.refusals.specs.First.{Answer, refused, given}
use Rattle.sumcheck.specs.Lent.{join}
use Rattle.sumcheck.specs.Entries.{checker_answer, rounds_answer}
use Rattle.sumcheck.specs.Protocol.{Rounds, reached, rounds, Verdict, accepted, rejected, verdict}
use Rattle.layout.specs.Reading.{Layout, Reading, file, refused_at, reading}
use Rattle.narrow_field.specs.Narrow.{p}
use Rattle.narrow_file.specs.Narrow.{narrow}
use Rattle.narrow_file.specs.Example.{whole_file}

-- a case: the modulus, the tables, what is asked, and the answer
pub data Case : Type 0 where
  -- the true sum over so many variables
  sum : (n : ℕ) (tables : List (List ℕ)) (vars answer : ℕ) → Case
  -- f at a point
  at : (n : ℕ) (tables : List (List ℕ)) (point : List ℕ) (answer : ℕ) → Case
  -- the true polynomial after so many challenges, with so many variables behind it
  round : (n : ℕ) (tables : List (List ℕ)) (challenges : List ℕ) (rest : ℕ) (answer : List ℕ) → Case
  -- the verdict on a claim, challenges and messages
  check : (n : ℕ) (tables : List (List ℕ)) (claim : ℕ) (challenges : List ℕ) (messages : List (List ℕ)) (answer : Verdict) → Case
  -- the checker's own answer on what is lent, refusals among it
  lent : (n vars degree : ℕ) (tables : List ℕ) (claim : ℕ) (challenges messages : List ℕ) (answer : Answer Verdict) → Case
  -- what the rounds come to, without tables
  last : (n claim : ℕ) (challenges : List ℕ) (messages : List (List ℕ)) (answer : Rounds) → Case
  -- a file's bytes, read and then checked: the checker's answer, and what the rounds come to
  read : (n : ℕ) (layout : Layout) (bytes tables challenges : List ℕ) (answer : Answer Verdict) (end : Answer Rounds) → Case

-- the checker's answers on what was read
abbrev pub on_file : {A : Type 0} → (ℕ → ℕ → ℕ → List ℕ → Answer A) → Reading → Answer A
on_file judged (file vars degree claim messages) = judged vars degree claim messages
on_file judged (refused_at number line) = refused number

abbrev pub check_file : ℕ → Layout → List ℕ → List ℕ → List ℕ → Answer Verdict
check_file n layout bytes tables challenges =
    on_file (λ vars degree claim messages. checker_answer n vars degree tables claim challenges messages) (reading layout bytes)

abbrev pub file_rounds : ℕ → Layout → List ℕ → List ℕ → Answer Rounds
file_rounds n layout bytes challenges = on_file (λ vars degree claim messages. rounds_answer n vars degree claim challenges messages) (reading layout bytes)

-- what a case says
abbrev pub Holds : Case → Type 0
Holds (sum n tables vars answer) = true_sum n tables vars ≡ answer
Holds (at n tables point answer) = f n tables point ≡ answer
Holds (round n tables challenges rest answer) = true_polynomial n tables challenges rest ≡ answer
Holds (check n tables claim challenges messages answer) = verdict n tables claim challenges messages ≡ answer
Holds (lent n vars degree tables claim challenges messages a) = checker_answer n vars degree tables claim challenges messages ≡ a
Holds (last n claim challenges messages answer) = rounds n claim challenges messages ≡ answer
Holds (read n layout bytes tables challenges a end) = (check_file n layout bytes tables challenges ≡ a) × (file_rounds n layout bytes challenges ≡ end)

-- the table 3, 4, 1, 2 of document 002
abbrev t : List ℕ
t = 3 ∷ 4 ∷ 1 ∷ 2 ∷ []

-- the table 0, 1, 2, 0 of document 002
abbrev u : List ℕ
u = 0 ∷ 1 ∷ 2 ∷ 0 ∷ []

-- the false claim's messages of P10 and P11
abbrev lie : List (List ℕ)
lie = (7 ∷ 2147483644 ∷ []) ∷ (3 ∷ 1 ∷ []) ∷ []

-- the messages of P9's file
abbrev proof : List (List ℕ)
proof = (4 ∷ 0 ∷ 2147483645 ∷ []) ∷ (2147483629 ∷ 30 ∷ 2147483639 ∷ []) ∷ []

abbrev pub cases : List Case
cases =
    -- P1, P2, P3, P4
    sum 11 (t ∷ []) 2 10
    ∷ at 11 (t ∷ []) (5 ∷ 2 ∷ []) 6
    ∷ round 11 (t ∷ []) [] 1 (7 ∷ 7 ∷ [])
    ∷ round 11 (t ∷ []) (5 ∷ []) 0 (4 ∷ 1 ∷ [])
    -- P5, P6
    ∷ at 13 (u ∷ []) (3 ∷ 1 ∷ []) 11
    ∷ sum 5 ((1 ∷ 2 ∷ 2 ∷ 3 ∷ []) ∷ []) 2 3
    ∷ at 5 ((1 ∷ 2 ∷ 2 ∷ 3 ∷ []) ∷ []) (2 ∷ 4 ∷ []) 2
    -- P7, P8
    ∷ sum p (u ∷ t ∷ []) 2 6
    ∷ round p (u ∷ t ∷ []) [] 1 (4 ∷ 0 ∷ 2147483645 ∷ [])
    ∷ round p (u ∷ t ∷ []) (3 ∷ []) 0 (2147483629 ∷ 30 ∷ 2147483639 ∷ [])
    -- P9: challenges 3, 1; the last value is 4
    ∷ check p (u ∷ t ∷ []) 6 (3 ∷ 1 ∷ []) proof accepted
    ∷ last p 6 (3 ∷ 1 ∷ []) proof (reached 4)
    -- P9 from the file's bytes
    ∷ read p narrow whole_file (u ++ t) (3 ∷ 1 ∷ []) (given accepted) (given (reached 4))
    -- P10: challenges 0, 9; P11: challenges 5, 9
    ∷ sum p (t ∷ []) 2 10
    ∷ check p (t ∷ []) 11 (0 ∷ 9 ∷ []) lie accepted
    ∷ check p (t ∷ []) 11 (5 ∷ 9 ∷ []) lie (rejected 2)
    -- P12
    ∷ check p ((5 ∷ []) ∷ (7 ∷ []) ∷ []) 35 [] [] accepted
    ∷ check p ((5 ∷ []) ∷ (7 ∷ []) ∷ []) 36 [] [] (rejected 0)
    -- P9 to P12 of the checker's own answer, and what it refuses: vars 17, degree 0 and 4, both wrong, a length, an element
    ∷ lent p 2 2 (u ++ t) 6 (3 ∷ 1 ∷ []) (join proof) (given accepted)
    ∷ lent p 2 1 t 11 (0 ∷ 9 ∷ []) (join lie) (given accepted)
    ∷ lent p 2 1 t 11 (5 ∷ 9 ∷ []) (join lie) (given (rejected 2))
    ∷ lent p 0 2 (5 ∷ 7 ∷ []) 35 [] [] (given accepted)
    ∷ lent p 0 2 (5 ∷ 7 ∷ []) 36 [] [] (given (rejected 0))
    ∷ lent p 17 1 t 11 (0 ∷ 9 ∷ []) (join lie) (refused 1)
    ∷ lent p 2 0 t 11 (0 ∷ 9 ∷ []) (join lie) (refused 2)
    ∷ lent p 2 4 t 11 (0 ∷ 9 ∷ []) (join lie) (refused 2)
    ∷ lent p 17 4 t 11 (0 ∷ 9 ∷ []) (join lie) (refused 1)
    ∷ lent p 2 1 t p (0 ∷ []) (join lie) (refused 3)
    ∷ lent p 2 1 t p (0 ∷ 9 ∷ []) (join lie) (refused 5)
    ∷ []

-- every case of the table holds
unfoldable pub EveryCase : Type 0
EveryCase = Every Holds cases
