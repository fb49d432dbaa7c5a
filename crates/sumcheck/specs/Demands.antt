-- What is demanded of the protocol, as statements, for tables, claims, challenges and messages of any number. Their proofs are in proofs/.
--   Complete     a true claim is accepted, whatever the challenges
--   Sound        a false claim that is accepted had a lucky round
--   NeverMore    of k + 1 different elements not all could have made a round lucky
--   NoVariables  with no variables a false claim is never accepted
use Rattle.std.specs.Prelude.{◌≡◌, List, [], ℕ, suc, ◌-◌, ◌≤◌, ◌<◌, length, take, get_or}
use Rattle.arithmetic.specs.Prime.{Prime}
use Rattle.polynomial.specs.Elements.{Every, Elements, Distinct}
use Rattle.polynomial.specs.Polynomial.{value}
use Rattle.sumcheck.specs.Function.{true_sum}
use Rattle.sumcheck.specs.TruePolynomial.{true_polynomial, true_polynomials}
use Rattle.sumcheck.specs.Protocol.{verdict, accepted}

-- a message for each challenge, each of k + 1 elements: what the checker has seen to before it judges
pub record WellFormed (n : ℕ) (tables : List (List ℕ)) (challenges : List ℕ) (messages : List (List ℕ)) : Type 0 where
  pub rounds : length messages ≡ length challenges
  pub lengths : Every (λ (s : List ℕ). length s ≡ suc (length tables)) messages
  pub elements : Every (Elements n) messages

-- the true polynomial of round j, counted from 0: from the tables and the challenges before it alone
abbrev pub polynomial_of : ℕ → List (List ℕ) → List ℕ → ℕ → List ℕ
polynomial_of n tables challenges j = true_polynomial n tables (take j challenges) (length challenges - suc j)

-- the two polynomials agree at x
abbrev pub Agree : ℕ → List ℕ → List ℕ → ℕ → Type 0
Agree n s g x = value n s x ≡ value n g x

-- round j, counted from 0, was lucky: its message differs from the true polynomial and agrees with it at the round's challenge; and among all
-- elements, message and earlier challenges held, at most k could do that
pub record Lucky (n : ℕ) (tables : List (List ℕ)) (challenges : List ℕ) (messages : List (List ℕ)) (j : ℕ) : Type 0 where
  pub round : j < length challenges
  pub differs : get_or messages j [] ≡ polynomial_of n tables challenges j → ⊥
  pub agrees : Agree n (get_or messages j []) (polynomial_of n tables challenges j) (get_or challenges j 0)
  pub few : (xs : List ℕ) → Elements n xs → Distinct xs → Every (Agree n (get_or messages j []) (polynomial_of n tables challenges j)) xs
      → length xs ≤ length tables

-- a true claim is accepted with the true polynomials, whatever the challenges
unfoldable pub Complete : Type 0
Complete = (n : ℕ) → 0 < n → (tables : List (List ℕ)) (challenges : List ℕ)
    → verdict n tables (true_sum n tables (length challenges)) challenges (true_polynomials n tables challenges) ≡ accepted

-- a false claim that is accepted had a lucky round
unfoldable pub Sound : Type 0
Sound = (n : ℕ) → Prime n → (tables : List (List ℕ)) (claim : ℕ) (challenges : List ℕ) (messages : List (List ℕ))
    → WellFormed n tables challenges messages → (claim ≡ true_sum n tables (length challenges) → ⊥)
    → verdict n tables claim challenges messages ≡ accepted → (j : ℕ) × Lucky n tables challenges messages j

-- of k + 1 different elements not all could have made a round lucky: at one at least the message and the true polynomial differ
unfoldable pub NeverMore : Type 0
NeverMore = (n : ℕ) (tables : List (List ℕ)) (challenges : List ℕ) (messages : List (List ℕ)) (j : ℕ) → Lucky n tables challenges messages j
    → (xs : List ℕ) → length xs ≡ suc (length tables) → Elements n xs → Distinct xs
    → Every (Agree n (get_or messages j []) (polynomial_of n tables challenges j)) xs → ⊥

-- with no variables a false claim is never accepted
unfoldable pub NoVariables : Type 0
NoVariables = (n : ℕ) (tables : List (List ℕ)) (claim : ℕ) (messages : List (List ℕ))
    → (claim ≡ true_sum n tables 0 → ⊥) → verdict n tables claim [] messages ≡ accepted → ⊥
