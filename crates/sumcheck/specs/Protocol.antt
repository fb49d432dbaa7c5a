-- The checker (document 01, "What is offered"; document 003, "Sumcheck protocol"). Let c0 be the claim. In round j the message s must have
-- s(0) + s(1) = c(j-1), else that round rejects; then cj = s(rj). After round m the final check wants cm = f(r1, .., rm).
use Rattle.std.specs.Prelude.{Bool, List, [], ◌∷◌, ℕ, suc, eqb, length}
use Rattle.arithmetic.specs.Modulo.{add}
use Rattle.polynomial.specs.Polynomial.{value}
use Rattle.refusals.specs.First.{choose}
use Rattle.sumcheck.specs.Function.{f}

-- s(0) + s(1) = c
abbrev pub fits : ℕ → List ℕ → ℕ → Bool
fits n s c = eqb (add n (value n s 0) (value n s 1)) c

-- what the rounds come to: the last value cm, or the first round whose sum fails
pub data Rounds : Type 0 where
  reached : ℕ → Rounds
  failed : ℕ → Rounds

-- the rounds from j on, with the running claim c
abbrev pub rounds_from : ℕ → ℕ → ℕ → List ℕ → List (List ℕ) → Rounds
rounds_from n j c [] ss = reached c
rounds_from n j c (r ∷ rs) [] = failed j
rounds_from n j c (r ∷ rs) (s ∷ ss) = choose (fits n s c) (rounds_from n (suc j) (value n s r) rs ss) (failed j)

-- the form without tables
abbrev pub rounds : ℕ → ℕ → List ℕ → List (List ℕ) → Rounds
rounds n claim challenges messages = rounds_from n 1 claim challenges messages

-- a claim is accepted, or rejected with a round
pub data Verdict : Type 0 where
  accepted : Verdict
  rejected : ℕ → Verdict

-- the final check of m rounds, with v for the value of f; where it fails it is reported as round m
abbrev pub final : ℕ → ℕ → Rounds → Verdict
final m v (reached c) = choose (eqb c v) accepted (rejected m)
final m v (failed j) = rejected j

-- the checker's verdict
abbrev pub verdict : ℕ → List (List ℕ) → ℕ → List ℕ → List (List ℕ) → Verdict
verdict n tables claim challenges messages = final (length challenges) (f n tables challenges) (rounds n claim challenges messages)
