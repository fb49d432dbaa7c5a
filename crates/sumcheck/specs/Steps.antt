-- The checker in steps (document 01, "What is offered" and "When a call is turned down"), over the modulus n: the state, opening, a step, closing.
-- Each call hands the state back with its outcome; a refused call hands it back unchanged.
use Rattle.std.specs.Prelude.{Bool, true, false, not, List, [], ◌∷◌, ℕ, suc, eqb, ltb}
use Rattle.polynomial.specs.Polynomial.{value}
use Rattle.refusals.specs.First.{Rule, ◌when◌, Answer, decide, first, choose, either, outside}
use Rattle.sumcheck.specs.Protocol.{fits, reached, Verdict, rejected, final}
use Rattle.sumcheck.specs.Lent.{bad_vars, bad_degree, not_long}

-- what the state holds: vars, degree, rounds taken, running claim and a rejected mark
pub record State : Type 0 where
  pub vars : ℕ
  pub degree : ℕ
  pub taken : ℕ
  pub claim : ℕ
  pub mark : Bool

-- what a call on a state hands back
pub record Back (A : Type 0) : Type 0 where
  pub state : State
  pub outcome : Answer A

-- all rounds are taken
abbrev pub complete : State → Bool
complete s = eqb s.taken s.vars

-- rejected or complete: no step is left
abbrev pub over : State → Bool
over s = either s.mark (complete s)

-- more rounds taken than vars, or rejected with all rounds taken: no steps lead there, and any use is refused by 7
abbrev pub forged : State → Bool
forged s = either (ltb s.vars s.taken) (choose s.mark (complete s) false)

-- opening answers no more than that it was not refused
pub data Opened : Type 0 where
  opened : Opened

-- the state that opening hands back. Where opening is refused, every use of that state is refused by the same number
abbrev pub fresh : ℕ → ℕ → ℕ → State
fresh vars degree claim = record { vars = vars; degree = degree; taken = 0; claim = claim; mark = false }

-- opening: 1, 2, 5
abbrev pub opening_rules : ℕ → ℕ → ℕ → ℕ → List Rule
opening_rules n vars degree claim = 1 when bad_vars vars ∷ 2 when bad_degree degree ∷ 5 when outside n (claim ∷ []) ∷ []

abbrev pub opening : ℕ → ℕ → ℕ → ℕ → Back Opened
opening n vars degree claim = record { state = fresh vars degree claim; outcome = decide (opening_rules n vars degree claim) opened }

-- a step's round: its sum fits, or it rejects, with its round
pub data Judged : Type 0 where
  fitted : Judged
  rejects : ℕ → Judged

-- a step doubts its state: 1, 2, 5 on the running claim, 7, then 3 and 5 on what is given
abbrev pub step_rules : ℕ → State → List ℕ → ℕ → List Rule
step_rules n s message challenge =
    1 when bad_vars s.vars
    ∷ 2 when bad_degree s.degree
    ∷ 5 when outside n (s.claim ∷ [])
    ∷ 7 when either (forged s) (over s)
    ∷ 3 when not_long (suc s.degree) message
    ∷ 5 when outside n (challenge ∷ message)
    ∷ []

-- the round is taken: one more, and the running claim is the message's value at the challenge
abbrev pub onward : ℕ → State → List ℕ → ℕ → State
onward n s message challenge =
    record { vars = s.vars; degree = s.degree; taken = suc s.taken; claim = value n message challenge; mark = false }

-- a rejecting step sets the mark and changes nothing else
abbrev pub marked : State → State
marked s = record { vars = s.vars; degree = s.degree; taken = s.taken; claim = s.claim; mark = true }

-- a step that is not refused: the rejecting round is rounds taken + 1
abbrev pub judged : ℕ → State → List ℕ → Judged
judged n s message = choose (fits n message s.claim) fitted (rejects (suc s.taken))

abbrev pub moved : ℕ → State → List ℕ → ℕ → State
moved n s message challenge = choose (fits n message s.claim) (onward n s message challenge) (marked s)

abbrev pub step : ℕ → State → List ℕ → ℕ → Back Judged
step n s message challenge =
    record {
      state = choose (eqb (first (step_rules n s message challenge)) 0) (moved n s message challenge) s;
      outcome = decide (step_rules n s message challenge) (judged n s message);
    }

-- closing doubts its state in the same order: 1, 2, 5 on the running claim, 7, then 5 on the value that is given
abbrev pub closing_rules : ℕ → State → ℕ → List Rule
closing_rules n s v =
    1 when bad_vars s.vars
    ∷ 2 when bad_degree s.degree
    ∷ 5 when outside n (s.claim ∷ [])
    ∷ 7 when either (forged s) (not (over s))
    ∷ 5 when outside n (v ∷ [])
    ∷ []

-- a closing that is not refused gives, for a rejected state, its round; else the final check with v for the value of f
abbrev pub closed : State → ℕ → Verdict
closed s v = choose s.mark (rejected (suc s.taken)) (final s.vars v (reached s.claim))

-- closing doesn't change the state
abbrev pub closing : ℕ → State → ℕ → Back Verdict
closing n s v = record { state = s; outcome = decide (closing_rules n s v) (closed s v) }
