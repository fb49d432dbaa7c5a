-- A lent message list as messages: their elements; and the true polynomials as messages. How many parts a list has, and how long they are: Laid.
-- Assumes nothing.
use mathlib.Core.Path.{◌≡◌, refl, sym, ap, ◌∙◌}
use mathlib.Core.List.{List, [], ◌∷◌, ◌++◌}
use Prim.Native.Nat.{ℕ, zero, suc, ◌*◌, ◌^◌, ◌<◌}
use lib.ListN.{length, drop}
use Rattle.polynomial.specs.Elements.{Every, Elements}
use Rattle.polynomial.proofs.Lists.{every_append, every_take, every_drop}
use Rattle.sumcheck.specs.TruePolynomial.{polynomials_after, true_polynomials}
use Rattle.sumcheck.specs.Lent.{parts, join, messages_length, tables_of, messages_of}
use Rattle.sumcheck.proofs.Laid.{length-join, parts_count, parts_join}
use Rattle.sumcheck.proofs.TruePolynomial.{polynomial_length, polynomial_elements}

pub parts-elements : (n count size : ℕ) (xs : List ℕ) → Elements n xs → Every (Elements n) (parts count size xs)
unfolding parts
parts-elements n zero size xs u = tt
parts-elements n (suc count) size xs u =
    (every_take (λ (x : ℕ). x < n) size xs u, parts-elements n count size (drop size xs) (every_drop (λ (x : ℕ). x < n) size xs u))

pub join-elements : (n : ℕ) (ms : List (List ℕ)) → Every (Elements n) ms → Elements n (join ms)
join-elements n [] u = tt
join-elements n (s ∷ ms) u = every_append (λ (x : ℕ). x < n) s (join ms) u.0 (join-elements n ms u.1)

-- the true polynomials are messages of k + 1 elements, one for each challenge
pub polynomials_count : (n : ℕ) (ts : List (List ℕ)) (cs r : List ℕ) → length (polynomials_after n ts r cs) ≡ length cs
polynomials_count n ts [] r = refl
polynomials_count n ts (c ∷ cs) r = ap suc (polynomials_count n ts cs (r ++ c ∷ []))

pub polynomials_lengths : (n l : ℕ) (ts : List (List ℕ)) → suc (length ts) ≡ l → (cs r : List ℕ)
    → Every (λ (q : List ℕ). length q ≡ l) (polynomials_after n ts r cs)
polynomials_lengths n l ts e [] r = tt
polynomials_lengths n l ts e (c ∷ cs) r = (polynomial_length n ts r (length cs) ∙ e, polynomials_lengths n l ts e cs (r ++ c ∷ []))

pub polynomials_elements : (n : ℕ) → 0 < n → (ts : List (List ℕ)) (r rs : List ℕ) → Every (Elements n) (polynomials_after n ts r rs)
polynomials_elements n h ts r [] = tt
polynomials_elements n h ts r (x ∷ rs) = (polynomial_elements n h ts r (length rs), polynomials_elements n h ts (r ++ x ∷ []) rs)

-- the true polynomials of lent tables, one after the other in a lent list
module _ (n vars degree : ℕ) (tables challenges : List ℕ) (e : length challenges ≡ vars) where
  abbrev ps : List (List ℕ)
  ps = true_polynomials n (tables_of vars degree tables) challenges

  many : length ps ≡ vars
  many = polynomials_count n (tables_of vars degree tables) challenges [] ∙ e

  sizes : Every (λ (s : List ℕ). length s ≡ suc degree) ps
  sizes = polynomials_lengths n (suc degree) (tables_of vars degree tables) (ap suc (parts_count degree (2 ^ vars) tables)) challenges []

  pub proof-length : length (join ps) ≡ messages_length vars degree
  proof-length = length-join (suc degree) ps sizes ∙ ap (λ (m : ℕ). m * suc degree) many

  -- taken apart they are themselves again, whatever stands behind them
  pub proof-parts : (behind : List ℕ) → messages_of vars degree (join ps ++ behind) ≡ ps
  proof-parts behind = ap (λ (m : ℕ). parts m (suc degree) (join ps ++ behind)) (sym many) ∙ parts_join (suc degree) ps behind sizes
