-- What is demanded of the prover's own answer and of what it leaves, as statements (document 01, "What is offered"). Their proofs are in proofs/Proving.
--   ProverKeeps    a refused prover leaves the message list and scratch as they were
--   ProverWrites   one that is not refused leaves the round's true polynomial in each round's part of the message list, and the rest of the list as it
--                  was; the first k·2^m places of scratch are 0, and its rest is as it was
use Rattle.std.specs.Prelude.{◌≡◌, List, [], ◌++◌, ℕ, suc, ◌-◌, ◌<◌, take, drop, get_or, replicate}
use Rattle.refusals.specs.First.{refused, given}
use Rattle.sumcheck.specs.TruePolynomial.{true_polynomial}
use Rattle.sumcheck.specs.Lent.{tables_length, messages_length, tables_of, messages_of}
use Rattle.sumcheck.specs.Entries.{prover_answer, messages_after, scratch_after}

unfoldable pub ProverKeeps : Type 0
ProverKeeps = (n vars degree : ℕ) (tables challenges messages scratch : List ℕ) (number : ℕ)
    → prover_answer n vars degree tables challenges messages scratch ≡ refused number
    → (messages_after n vars degree tables challenges messages scratch ≡ messages)
    × (scratch_after n vars degree tables challenges messages scratch ≡ scratch)

unfoldable pub ProverWrites : Type 0
ProverWrites = (n vars degree : ℕ) (tables challenges messages scratch : List ℕ)
    → prover_answer n vars degree tables challenges messages scratch ≡ given tt →
    let left = messages_after n vars degree tables challenges messages scratch in
    ((j : ℕ) → j < vars
    → get_or (messages_of vars degree left) j [] ≡ true_polynomial n (tables_of vars degree tables) (take j challenges) (vars - suc j))
    × (drop (messages_length vars degree) left ≡ drop (messages_length vars degree) messages)
    × (scratch_after n vars degree tables challenges messages scratch ≡ replicate (tables_length vars degree) 0 ++ drop (tables_length vars degree) scratch)
