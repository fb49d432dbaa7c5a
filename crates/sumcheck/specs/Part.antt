-- The round part (document 01, "What is offered"): asked for round j, from 1, of a message list, the part of that list that is round j's message.
use Rattle.std.specs.Prelude.{List, [], ◌∷◌, ℕ, suc, ◌-◌, ◌*◌, eqb, ltb, take, drop}
use Rattle.refusals.specs.First.{Rule, ◌when◌, first, choose, either}
use Rattle.sumcheck.specs.Lent.{messages_length, bad_vars, bad_degree, not_long}

-- 1, 2, 3, 8: the round asked for is 0 or over m
abbrev pub part_rules : ℕ → ℕ → List ℕ → ℕ → List Rule
part_rules vars degree messages round =
    1 when bad_vars vars
    ∷ 2 when bad_degree degree
    ∷ 3 when not_long (messages_length vars degree) messages
    ∷ 8 when either (eqb round 0) (ltb vars round)
    ∷ []

-- the number of the refusal, 0 if none
abbrev pub part_refusal : ℕ → ℕ → List ℕ → ℕ → ℕ
part_refusal vars degree messages round = first (part_rules vars degree messages round)

-- where round j's part starts, (j-1)(k+1), and its length, k+1; where refused, the empty part at the list's start
abbrev pub part_start : ℕ → ℕ → List ℕ → ℕ → ℕ
part_start vars degree messages round = choose (eqb (part_refusal vars degree messages round) 0) ((round - 1) * suc degree) 0

abbrev pub part_length : ℕ → ℕ → List ℕ → ℕ → ℕ
part_length vars degree messages round = choose (eqb (part_refusal vars degree messages round) 0) (suc degree) 0

-- the part
abbrev pub part_of : ℕ → ℕ → List ℕ → ℕ → List ℕ
part_of vars degree messages round = take (part_length vars degree messages round) (drop (part_start vars degree messages round) messages)
