-- The course of the rounds: every sum agrees, or there is a first that fails; and what the rounds come to in each case. Assumes nothing.
use mathlib.Core.Path.{◌≡◌, refl, sym, ap, ◌∙◌}
use mathlib.Core.Bool.{Bool, true, false}
use mathlib.Core.List.{List, [], ◌∷◌}
use Prim.Native.Nat.{ℕ, zero, suc, ◌+◌, ◌<◌}
use native.Mathlib.Nat.{add-zero}
use native.Mathlib.Omega.{arith}
use lib.ListN.{length}
use borrow.Author.Tests.{eq-eqb, ne_eqb, eqb-true, eqb-false}
use Rattle.arithmetic.specs.Modulo.{add}
use Rattle.polynomial.specs.Polynomial.{value}
use Rattle.refusals.proofs.First.{choose-true, choose-false}
use Rattle.sumcheck.specs.Protocol.{fits, reached, failed, rounds_from}
use Rattle.sumcheck.specs.Checker.{claim_after, SumAgrees, SumsAgree}

-- every sum agrees, or a first one fails
pub data Course (n claim : ℕ) (rs : List ℕ) (ms : List (List ℕ)) : Type 0 where
  fair : SumsAgree n claim rs ms (length rs) → Course n claim rs ms
  foul : (j : ℕ) → j < length rs → SumsAgree n claim rs ms j → (SumAgrees n claim rs ms j → ⊥) → Course n claim rs ms

-- the running claims of the rounds after the first one
pub later : (n c r : ℕ) (rs s : List ℕ) (ms : List (List ℕ)) (j : ℕ) → claim_after n c (r ∷ rs) (s ∷ ms) (suc j) ≡ claim_after n (value n s r) rs ms j
later n c r rs s ms zero = refl
later n c r rs s ms (suc j) = refl

-- a sum of the rounds after the first one
pub agrees_later : (n c r : ℕ) (rs s : List ℕ) (ms : List (List ℕ)) (j : ℕ) → SumAgrees n c (r ∷ rs) (s ∷ ms) (suc j) → SumAgrees n (value n s r) rs ms j
agrees_later n c r rs s ms j h = h ∙ later n c r rs s ms j

pub agrees_front : (n c r : ℕ) (rs s : List ℕ) (ms : List (List ℕ)) (j : ℕ) → SumAgrees n (value n s r) rs ms j → SumAgrees n c (r ∷ rs) (s ∷ ms) (suc j)
agrees_front n c r rs s ms j h = h ∙ sym (later n c r rs s ms j)

-- sums that agree, with one more in front and one less
pub sums_front : (n c r : ℕ) (rs s : List ℕ) (ms : List (List ℕ)) (count : ℕ) → SumAgrees n c (r ∷ rs) (s ∷ ms) 0 → SumsAgree n (value n s r) rs ms count
    → SumsAgree n c (r ∷ rs) (s ∷ ms) (suc count)
sums_front n c r rs s ms count h u zero l = h
sums_front n c r rs s ms count h u (suc j) l = agrees_front n c r rs s ms j (u j (omega arith))

pub sums_later : (n c r : ℕ) (rs s : List ℕ) (ms : List (List ℕ)) (count : ℕ) → SumsAgree n c (r ∷ rs) (s ∷ ms) (suc count)
    → SumsAgree n (value n s r) rs ms count
sums_later n c r rs s ms count u j l = agrees_later n c r rs s ms j (u (suc j) (omega arith))

-- the course is one of the two
pub course : (n c : ℕ) (rs : List ℕ) (ms : List (List ℕ)) → length ms ≡ length rs → Course n c rs ms
course n c [] ms e = fair (λ (j : ℕ) (l : j < 0). absurd (omega arith))
course n c (r ∷ rs) [] e = absurd (omega arith)
course n c (r ∷ rs) (s ∷ ms) e = go (fits n s c) refl (course n (value n s r) rs ms (omega arith))
  where
    go : (b : Bool) → fits n s c ≡ b → Course n (value n s r) rs ms → Course n c (r ∷ rs) (s ∷ ms)
    go true t (fair u) = fair (sums_front n c r rs s ms (length rs) (eqb-true (add n (value n s 0) (value n s 1)) c t) u)
    go true t (foul j l u w) =
        foul (suc j) (omega arith) (sums_front n c r rs s ms j (eqb-true (add n (value n s 0) (value n s 1)) c t) u)
        (λ (h : SumAgrees n c (r ∷ rs) (s ∷ ms) (suc j)). w (agrees_later n c r rs s ms j h))
    go false t k =
        foul 0 (omega arith) (λ (j : ℕ) (l : j < 0). absurd (omega arith)) (eqb-false (add n (value n s 0) (value n s 1)) c t)

-- the rounds of a fair course come to the last running claim
pub fair-reached : (n i c : ℕ) (rs : List ℕ) (ms : List (List ℕ)) → length ms ≡ length rs → SumsAgree n c rs ms (length rs)
    → rounds_from n i c rs ms ≡ reached (claim_after n c rs ms (length rs))
fair-reached n i c [] ms e u = refl
fair-reached n i c (r ∷ rs) [] e u = absurd (omega arith)
fair-reached n i c (r ∷ rs) (s ∷ ms) e u =
    choose-true (rounds_from n (suc i) (value n s r) rs ms) (failed i) (eq-eqb (add n (value n s 0) (value n s 1)) c (u 0 (omega arith)))
    ∙ (fair-reached n (suc i) (value n s r) rs ms (omega arith) (sums_later n c r rs s ms (length rs) u)
    ∙ ap reached (sym (later n c r rs s ms (length rs))))

-- those of a foul one to the first failing round
pub foul-failed : (n i c : ℕ) (rs : List ℕ) (ms : List (List ℕ)) → length ms ≡ length rs → (j : ℕ) → j < length rs → SumsAgree n c rs ms j
    → (SumAgrees n c rs ms j → ⊥) → rounds_from n i c rs ms ≡ failed (i + j)
foul-failed n i c [] ms e j l u w = absurd (omega arith)
foul-failed n i c (r ∷ rs) [] e j l u w = absurd (omega arith)
foul-failed n i c (r ∷ rs) (s ∷ ms) e zero l u w =
    choose-false (rounds_from n (suc i) (value n s r) rs ms) (failed i) (ne_eqb (add n (value n s 0) (value n s 1)) c w) ∙ ap failed (sym (add-zero i))
foul-failed n i c (r ∷ rs) (s ∷ ms) e (suc j) l u w =
    choose-true (rounds_from n (suc i) (value n s r) rs ms) (failed i) (eq-eqb (add n (value n s 0) (value n s 1)) c (u 0 (omega arith)))
    ∙ (foul-failed n (suc i) (value n s r) rs ms (omega arith) j (omega arith) (sums_later n c r rs s ms j u)
    (λ (h : SumAgrees n (value n s r) rs ms j). w (agrees_front n c r rs s ms j h))
    ∙ ap failed next)
  where
    next : suc i + j ≡ i + suc j
    next = omega arith
