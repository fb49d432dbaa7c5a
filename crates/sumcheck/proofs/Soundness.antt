-- A false claim that is accepted had a lucky round (specs/Demands, Sound; document 003, "Soundness analysis"). While the running claim is not the
-- true one, a message whose sum fits it is not the true polynomial, whose sum is the true claim. Either the two agree at the challenge, and the round
-- was lucky, or the next running claim is false too. After the last round a false one is not f at the challenges. Assumes nothing.
use mathlib.Core.Path.{◌≡◌, refl, sym, ap, ap₂, ◌∙◌}
use mathlib.Core.Bool.{Bool, true, false}
use mathlib.Core.List.{List, [], ◌∷◌, ◌++◌, append_assoc, append-nil}
use Prim.Native.Nat.{ℕ, zero, suc, ◌-◌, ◌<◌}
use native.Mathlib.Nat.{suc-sub-suc, sub-zero}
use native.Mathlib.Omega.{arith}
use lib.Dec.{eqb}
use lib.ListN.{length, take, get_or}
use borrow.Author.Tests.{eqb-true, eqb-false}
use Rattle.arithmetic.specs.Modulo.{add}
use Rattle.arithmetic.specs.Prime.{Prime}
use Rattle.polynomial.specs.Elements.{Every, Elements, Distinct}
use Rattle.polynomial.specs.Polynomial.{value}
use Rattle.polynomial.proofs.Roots.{agree_few}
use Rattle.refusals.specs.First.{choose}
use Rattle.sumcheck.specs.Function.{f, true_claim}
use Rattle.sumcheck.specs.TruePolynomial.{true_polynomial, polynomials_after, true_polynomials}
use Rattle.sumcheck.specs.Protocol.{Rounds, reached, failed, rounds, rounds_from, accepted, rejected, final, fits}
use Rattle.sumcheck.specs.Demands.{WellFormed, polynomial_of, Agree, Lucky, Sound, NeverMore, NoVariables}
use Rattle.sumcheck.proofs.TruePolynomial.{polynomial_claim, polynomial_sum, polynomial_length, polynomial_elements}
use Rattle.sumcheck.proofs.Completeness.{claim_last}

-- the message of round i and the true polynomial differ, and agree at the challenge
record Met (n : ℕ) (rs : List ℕ) (ms gs : List (List ℕ)) (i : ℕ) : Type 0 where
  within : i < length rs
  apart : get_or ms i [] ≡ get_or gs i [] → ⊥
  agree : Agree n (get_or ms i []) (get_or gs i []) (get_or rs i 0)

reached_same : (a b : ℕ) → reached a ≡ reached b → a ≡ b
reached_same a b e = cc

choose-true : (b : Bool) (x y : Rounds) → b ≡ true → choose b x y ≡ x
choose-true true x y e = refl
choose-true false x y e = cc

fits-reached : (b : Bool) (x : Rounds) (j v : ℕ) → choose b x (failed j) ≡ reached v → b ≡ true
fits-reached true x j v e = refl
fits-reached false x j v e = cc

-- a failed sum does not reach a last value
stuck : (j v : ℕ) → failed j ≡ reached v → ⊥
stuck j v e = cc

-- one round more in front
later : (n x : ℕ) (rs : List ℕ) (s g : List ℕ) (ms gs : List (List ℕ)) → (i : ℕ) × Met n rs ms gs i → (i : ℕ) × Met n (x ∷ rs) (s ∷ ms) (g ∷ gs) i
later n x rs s g ms gs l = (suc l.0, record { within = omega (arith, l.1.within); apart = l.1.apart; agree = l.1.agree })

-- one round whose sum fits a false claim: lucky, or the next claim is false too
round : (n : ℕ) → Prime n → (ts : List (List ℕ)) (rs r : List ℕ) (x c : ℕ) (s : List ℕ) (ss : List (List ℕ)) → (c ≡ true_claim n ts r (suc (length rs)) → ⊥)
    → add n (value n s 0) (value n s 1) ≡ c
    → ((value n s x ≡ true_claim n ts (r ++ x ∷ []) (length rs) → ⊥) → (i : ℕ) × Met n rs ss (polynomials_after n ts (r ++ x ∷ []) rs) i)
    → (i : ℕ) × Met n (x ∷ rs) (s ∷ ss) (polynomials_after n ts r (x ∷ rs)) i
round n h ts rs r x c s ss wrong fit next = go (eqb (value n s x) (value n g x)) refl
  where
    g : List ℕ
    g = true_polynomial n ts r (length rs)

    positive : 0 < n
    positive = omega (arith, h.above)

    go : (b : Bool) → eqb (value n s x) (value n (true_polynomial n ts r (length rs)) x) ≡ b → (i : ℕ)
        × Met n (x ∷ rs) (s ∷ ss) (polynomials_after n ts r (x ∷ rs)) i
    go true e = (
      0,
      record {
        within = omega arith;
        apart = λ (z : s ≡ g). wrong
            (sym fit ∙ (ap (λ (p : List ℕ). add n (value n p 0) (value n p 1)) z ∙ polynomial_sum n positive ts r (length rs)));
        agree =
            eqb-true (value n s x) (value n g x) e;
      },
    )
    go false e =
        later n x rs s g ss (polynomials_after n ts (r ++ x ∷ []) rs)
        (next (λ (z : value n s x ≡ true_claim n ts (r ++ x ∷ []) (length rs)). eqb-false (value n s x) (value n g x) e
        (z ∙ sym (polynomial_claim n positive ts r (length rs) x))))

lucky_from : (n : ℕ) → Prime n → (ts : List (List ℕ)) (rs r : List ℕ) (ms : List (List ℕ)) (j c v : ℕ) → (c ≡ true_claim n ts r (length rs) → ⊥)
    → rounds_from n j c rs ms ≡ reached v → v ≡ f n ts (r ++ rs) → (i : ℕ) × Met n rs ms (polynomials_after n ts r rs) i
lucky_from n h ts [] r ms j c v wrong e w =
    absurd (wrong (reached_same c v e ∙ (w ∙ (ap (f n ts) (append-nil r) ∙ sym (claim_last n ts r)))))
lucky_from n h ts (x ∷ rs) r [] j c v wrong e w = absurd (stuck j v e)
lucky_from n h ts (x ∷ rs) r (s ∷ ss) j c v wrong e w =
    let fit : fits n s c ≡ true = fits-reached (fits n s c) (rounds_from n (suc j) (value n s x) rs ss) j v e in
    round n h ts rs r x c s ss wrong (eqb-true (add n (value n s 0) (value n s 1)) c fit)
    (λ (next : value n s x ≡ true_claim n ts (r ++ x ∷ []) (length rs) → ⊥).
    lucky_from n h ts rs (r ++ x ∷ []) ss (suc j) (value n s x) v next
    (sym (choose-true (fits n s c) (rounds_from n (suc j) (value n s x) rs ss) (failed j) fit) ∙ e) (w ∙ ap (f n ts) (sym (append_assoc r (x ∷ []) rs))))

-- the true polynomial of round i, by its place among them
pub place : (n : ℕ) (ts : List (List ℕ)) (rs r : List ℕ) (i : ℕ) → i < length rs
    → get_or (polynomials_after n ts r rs) i [] ≡ true_polynomial n ts (r ++ take i rs) (length rs - suc i)
place n ts [] r i h = absurd (omega arith)
place n ts (x ∷ rs) r zero h = ap₂ (true_polynomial n ts) (sym (append-nil r)) (sym (suc-sub-suc (length rs) 0 ∙ sub-zero (length rs)))
place n ts (x ∷ rs) r (suc i) h =
    place n ts rs (r ++ x ∷ []) i (omega arith)
    ∙ ap₂ (true_polynomial n ts) (append_assoc r (x ∷ []) (take i rs)) (sym (suc-sub-suc (length rs) (suc i)))

-- what holds of every member holds of the one at i
every_at : {A : Type 0} (P : A → Type 0) (xs : List A) → Every P xs → (i : ℕ) → i < length xs → (d : A) → P (get_or xs i d)
every_at P [] u i h d = absurd (omega arith)
every_at P (x ∷ xs) u zero h d = u.0
every_at P (x ∷ xs) u (suc i) h d = every_at P xs u.1 i (omega arith) d

lucky : (n : ℕ) → Prime n → (ts : List (List ℕ)) (rs : List ℕ) (ms : List (List ℕ)) → WellFormed n ts rs ms → (i : ℕ) × Met n rs ms (true_polynomials n ts rs) i
    → (j : ℕ) × Lucky n ts rs ms j
lucky n h ts rs ms form l =
    let m : Met n rs ms (true_polynomials n ts rs) l.0 = l.1 in
    let here : get_or (true_polynomials n ts rs) l.0 [] ≡ polynomial_of n ts rs l.0 = place n ts rs [] l.0 m.within in
    let there : l.0 < length ms = omega (arith, m.within, form.rounds) in
    let apart : get_or ms l.0 [] ≡ polynomial_of n ts rs l.0 → ⊥ = λ (z : get_or ms l.0 [] ≡ polynomial_of n ts rs l.0). m.apart (z ∙ sym here) in
    let long : length (get_or ms l.0 []) ≡ suc (length ts) = every_at (λ (s : List ℕ). length s ≡ suc (length ts)) ms form.lengths l.0 there [] in (
      l.0,
      record {
        round = m.within;
        differs = apart;
        agrees = m.agree ∙ ap (λ (p : List ℕ). value n p (get_or rs l.0 0)) here;
        few = λ (xs : List ℕ) (u : Elements n xs) (d : Distinct xs) (a : Every (Agree n (get_or ms l.0 []) (polynomial_of n ts rs l.0)) xs).
            omega (
              arith,
              long,
              agree_few n h (get_or ms l.0 []) (polynomial_of n ts rs l.0) xs
                  (long ∙ sym (polynomial_length n ts (take l.0 rs) (length rs - suc l.0)))
                  (every_at (Elements n) ms form.elements l.0 there [])
                  (polynomial_elements n (omega (arith, h.above)) ts (take l.0 rs) (length rs - suc l.0))
                  apart u d a,
            );
      },
    )

-- what an accepted verdict says: the rounds came to f at the challenges
pub accepted-rounds : (m v : ℕ) (o : Rounds) → final m v o ≡ accepted → o ≡ reached v
accepted-rounds m v (reached c) e = ap reached (eqb-true c v (choose-accepted (eqb c v) m e))
  where
    choose-accepted : (b : Bool) (m : ℕ) → choose b accepted (rejected m) ≡ accepted → b ≡ true
    choose-accepted true m e = refl
    choose-accepted false m e = cc
accepted-rounds m v (failed j) e = cc

pub sound : Sound
unfolding Sound
sound n h ts claim rs ms form wrong e =
    lucky n h ts rs ms form
    (lucky_from n h ts rs [] ms 1 claim (f n ts rs) wrong (accepted-rounds (length rs) (f n ts rs) (rounds n claim rs ms) e) refl)

pub never_more : NeverMore
unfolding NeverMore
never_more n ts rs ms j l xs c u d a = omega (arith, c, l.few xs u d a)

pub no_variables : NoVariables
unfolding NoVariables
no_variables n ts claim ms wrong e =
    wrong (reached_same claim (f n ts []) (accepted-rounds 0 (f n ts []) (reached claim) e) ∙ sym (claim_last n ts []))
