-- The folding of tables that lie one after the other in one list, each in its lower half: the fronts of the parts are the folded fronts.
-- Assumes nothing.
use mathlib.Core.Path.{◌≡◌, sym, ap, ap₂, ◌∙◌}
use mathlib.Core.List.{List, [], ◌∷◌, ◌++◌, map}
use Prim.Native.Nat.{ℕ, suc, ◌+◌, ◌^◌, ◌≤◌, ◌<◌}
use native.Mathlib.Nat.{two-pow-succ}
use native.Mathlib.Omega.{arith}
use lib.ListN.{length, take, drop, get_or, length-append, length-drop, length-map}
use lib.Seq.{take_at, get_or-take}
use Rattle.polynomial.proofs.Lists.{every, map_same, map_twice}
use Rattle.polynomial.specs.Elements.{count_from}
use Rattle.sumcheck.specs.Folding.{between, fold}
use Rattle.sumcheck.proofs.Corners.{count_length, count_every}
use Rattle.sumcheck.proofs.Folded.{folded, folded_more}
use Rattle.sumcheck.proofs.RoundFolded.{line_at, term_at, round_of}

-- a part whose lower half is folded
abbrev pub folded_part : ℕ → ℕ → ℕ → List ℕ → List ℕ
folded_part n r half u = fold n r half u ++ drop half u

fold-length : (n r half : ℕ) (u : List ℕ) → length (fold n r half u) ≡ half
fold-length n r half u = length-map (count_from 0 half) (λ (i : ℕ). between n r (get_or u i 0) (get_or u (half + i) 0)) ∙ count_length 0 half

pub folded_part-length : (n r half places : ℕ) (u : List ℕ) → half ≤ places → length u ≡ places → length (folded_part n r half u) ≡ places
folded_part-length n r half places u h e = omega (arith, length-append (fold n r half u) (drop half u), fold-length n r half u, length-drop half u)

-- the front of a folded part is the fold of its front
front-folded : (n r half : ℕ) (u : List ℕ) → take half (folded_part n r half u) ≡ fold n r half (take (half + half) u)
front-folded n r half u =
    take_at (fold n r half u) (drop half u) half (fold-length n r half u)
    ∙ map_same (λ (i : ℕ). between n r (get_or u i 0) (get_or u (half + i) 0))
    (λ (i : ℕ). between n r (get_or (take (half + half) u) i 0) (get_or (take (half + half) u) (half + i) 0)) (count_from 0 half)
    (count_every (λ (i : ℕ). between n r (get_or u i 0) (get_or u (half + i) 0) ≡ between n r (get_or (take (half + half) u) i 0)
    (get_or (take (half + half) u) (half + i) 0)) 0 half
    (λ (i : ℕ) (l : 0 ≤ i) (h : i < 0 + half). ap₂ (between n r) (sym (get_or-take (half + half) u i 0 (omega arith)))
    (sym (get_or-take (half + half) u (half + i) 0 (omega arith)))))

-- the fronts of parts
abbrev pub fronts : ℕ → List (List ℕ) → List (List ℕ)
fronts size us = map (take size) us

-- one challenge more: fold every part, and the fronts are the tables folded by it too
pub fronts_more : (n r rest : ℕ) (rs : List ℕ) (us ts : List (List ℕ)) → fronts (2 ^ suc rest) us ≡ map (λ (t : List ℕ). folded n t rs (suc rest)) ts
    → fronts (2 ^ rest) (map (folded_part n r (2 ^ rest)) us) ≡ map (λ (t : List ℕ). folded n t (rs ++ r ∷ []) rest) ts
fronts_more n r rest rs us ts e =
    map_twice (take (2 ^ rest)) (folded_part n r (2 ^ rest)) us
    ∙ (map_same (λ (u : List ℕ). take (2 ^ rest) (folded_part n r (2 ^ rest) u)) (λ (u : List ℕ). fold n r (2 ^ rest) (take (2 ^ suc rest) u)) us
    (every (λ (u : List ℕ). take (2 ^ rest) (folded_part n r (2 ^ rest) u) ≡ fold n r (2 ^ rest) (take (2 ^ suc rest) u))
    (λ (u : List ℕ). front-folded n r (2 ^ rest) u ∙ ap (λ (k : ℕ). fold n r (2 ^ rest) (take k u)) (sym (two-pow-succ rest))) us)
    ∙ (sym (map_twice (fold n r (2 ^ rest)) (take (2 ^ suc rest)) us)
    ∙ (ap (map (fold n r (2 ^ rest))) e
    ∙ (map_twice (fold n r (2 ^ rest)) (λ (t : List ℕ). folded n t rs (suc rest)) ts
    ∙ map_same (λ (t : List ℕ). fold n r (2 ^ rest) (folded n t rs (suc rest))) (λ (t : List ℕ). folded n t (rs ++ r ∷ []) rest) ts
    (every (λ (t : List ℕ). fold n r (2 ^ rest) (folded n t rs (suc rest)) ≡ folded n t (rs ++ r ∷ []) rest)
    (λ (t : List ℕ). sym (folded_more n rs t r rest)) ts)))))

-- a round goes by the fronts alone
line-front : (n half i : ℕ) (u : List ℕ) → i < half → line_at n half i u ≡ line_at n half i (take (half + half) u)
line-front n half i u h =
    ap₂ (λ (a d : ℕ). a ∷ Rattle.arithmetic.specs.Modulo.sub n d a ∷ []) (sym (get_or-take (half + half) u i 0 (omega arith)))
    (sym (get_or-take (half + half) u (half + i) 0 (omega arith)))

pub round-fronts : (n half : ℕ) (us : List (List ℕ)) → round_of n half us ≡ round_of n half (fronts (half + half) us)
round-fronts n half us =
    ap (Rattle.polynomial.specs.Polynomial.plus_all n)
    (map_same (term_at n half us) (term_at n half (fronts (half + half) us)) (count_from 0 half)
    (count_every (λ (i : ℕ). term_at n half us i ≡ term_at n half (fronts (half + half) us) i) 0 half here))
  where
    here : (i : ℕ) → 0 ≤ i → i < 0 + half → term_at n half us i ≡ term_at n half (fronts (half + half) us) i
    here i l h =
        ap (Rattle.polynomial.specs.Polynomial.times_all n)
        (map_same (line_at n half i) (λ (u : List ℕ). line_at n half i (take (half + half) u)) us
        (every (λ (u : List ℕ). line_at n half i u ≡ line_at n half i (take (half + half) u)) (λ (u : List ℕ). line-front n half i u (omega arith)) us)
        ∙ sym (map_twice (line_at n half i) (take (half + half)) us))
