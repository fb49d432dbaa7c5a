-- Pieces of one length laid over the front of a list, one after the other: how a loop writes a lent list part by part. Assumes nothing.
use mathlib.Core.Path.{◌≡◌, refl, sym, ap, ap₂, ◌∙◌}
use mathlib.Core.List.{List, [], ◌∷◌, ◌++◌, map, append_assoc, append-nil, map-append}
use Prim.Native.Nat.{ℕ, zero, suc, ◌+◌, ◌-◌, ◌*◌, ◌≤◌}
use native.Mathlib.Nat.{zero-mul, add-sub_cancel_left}
use native.Mathlib.Numerals.{add-one}
use native.Mathlib.Omega.{arith}
use lib.ListN.{length, take, drop, length-append, length-take, length-drop, length-map}
use lib.Seq.{take_at, drop_at, drop-drop}
use Rattle.polynomial.specs.Elements.{Every}
use Rattle.polynomial.proofs.Lists.{every_map, every_of_map}
use Rattle.sumcheck.specs.Lent.{parts, join}

pub length-join : (l : ℕ) (ps : List (List ℕ)) → Every (λ (p : List ℕ). length p ≡ l) ps → length (join ps) ≡ length ps * l
length-join l [] u = sym (zero-mul l)
length-join l (p ∷ ps) u = omega (arith, length-append p (join ps), length-join l ps u.1, u.0)

pub join_more : (ps : List (List ℕ)) (p : List ℕ) → join (ps ++ p ∷ []) ≡ join ps ++ p
join_more [] p = append-nil p
join_more (q ∷ ps) p = ap (λ (r : List ℕ). q ++ r) (join_more ps p) ∙ sym (append_assoc q (join ps) p)

-- pieces of length l over the front of a list
abbrev pub laid : ℕ → List (List ℕ) → List ℕ → List ℕ
laid l ps xs = join ps ++ drop (length ps * l) xs

pub laid_none : (l : ℕ) (xs : List ℕ) → laid l [] xs ≡ xs
laid_none l xs = ap (λ (i : ℕ). drop i xs) (zero-mul l)

module _ (l : ℕ) (ps : List (List ℕ)) (xs : List ℕ) (u : Every (λ (p : List ℕ). length p ≡ l) ps) where
  -- the pieces are in front, the list's rest behind them
  pub laid-front : take (length ps * l) (laid l ps xs) ≡ join ps
  laid-front = take_at (join ps) (drop (length ps * l) xs) (length ps * l) (length-join l ps u)

  pub laid_rest : drop (length ps * l) (laid l ps xs) ≡ drop (length ps * l) xs
  laid_rest = drop_at (join ps) (drop (length ps * l) xs) (length ps * l) (length-join l ps u)

  pub laid-length : length ps * l ≤ length xs → length (laid l ps xs) ≡ length xs
  laid-length h = omega (arith, length-append (join ps) (drop (length ps * l) xs), length-join l ps u, length-drop (length ps * l) xs)

  -- one piece more, behind the others
  pub laid_more : (p : List ℕ) → take (length ps * l) (laid l ps xs) ++ (p ++ drop l (drop (length ps * l) (laid l ps xs))) ≡ laid l (ps ++ p ∷ []) xs
  laid_more p =
      ap₂ (λ (a b : List ℕ). a ++ (p ++ drop l b)) laid-front laid_rest
      ∙ (ap (λ (r : List ℕ). join ps ++ (p ++ r)) (drop-drop l (length ps * l) xs)
      ∙ (sym (append_assoc (join ps) p (drop (length ps * l + l) xs)) ∙ ap₂ (λ (a : List ℕ) (i : ℕ). a ++ drop i xs) (sym (join_more ps p)) (count ps p)))
    where
      count : (ps : List (List ℕ)) (p : List ℕ) → length ps * l + l ≡ length (ps ++ p ∷ []) * l
      count ps p = omega (arith, ap (λ (k : ℕ). k * l) (length-append ps (p ∷ [])))

-- as many parts as there are pieces are the pieces
pub parts_join : (l : ℕ) (ps : List (List ℕ)) (ys : List ℕ) → Every (λ (p : List ℕ). length p ≡ l) ps → parts (length ps) l (join ps ++ ys) ≡ ps
unfolding parts
parts_join l [] ys u = refl
parts_join l (p ∷ ps) ys u =
    ap₂ {B = List (List ℕ)} (λ (a : List ℕ) (b : List (List ℕ)). a ∷ b) (ap (take l) (append_assoc p (join ps) ys) ∙ take_at p (join ps ++ ys) l u.0)
    (ap (λ (zs : List ℕ). parts (length ps) l zs) (ap (drop l) (append_assoc p (join ps) ys) ∙ drop_at p (join ps ++ ys) l u.0) ∙ parts_join l ps ys u.1)

-- the parts of a list that is long enough have the part's length
pub parts_lengths : (c l : ℕ) (xs : List ℕ) → c * l ≤ length xs → Every (λ (p : List ℕ). length p ≡ l) (parts c l xs)
unfolding parts
parts_lengths zero l xs h = tt
parts_lengths (suc c) l xs h = (omega (arith, length-take l xs), parts_lengths c l (drop l xs) (omega (arith, length-drop l xs)))

pub parts_count : (c l : ℕ) (xs : List ℕ) → length (parts c l xs) ≡ c
unfolding parts
parts_count zero l xs = refl
parts_count (suc c) l xs = ap suc (parts_count c l (drop l xs))

-- one part more, behind the others
pub parts_more : (c l : ℕ) (xs : List ℕ) → parts (c + 1) l xs ≡ parts c l xs ++ take l (drop (c * l) xs) ∷ []
unfolding parts
parts_more c l xs = ap (λ (k : ℕ). parts k l xs) (add-one c) ∙ go c xs
  where
    place : (c : ℕ) → l + c * l ≡ suc c * l
    place c = omega arith

    go : (c : ℕ) (xs : List ℕ) → parts (suc c) l xs ≡ parts c l xs ++ take l (drop (c * l) xs) ∷ []
    go zero xs = ap (λ (i : ℕ). take l (drop i xs) ∷ []) (sym (zero-mul l))
    go (suc c) xs =
        ap (λ (r : List (List ℕ)). take l xs ∷ r)
        (go c (drop l xs) ∙ ap (λ (ys : List ℕ). parts c l (drop l xs) ++ take l ys ∷ []) (drop-drop (c * l) l xs ∙ ap (λ (i : ℕ). drop i xs) (place c)))

-- every part of a list changed in its place, one after the other: g keeps a part's length
module _ (g : List ℕ → List ℕ) (l : ℕ) (keeps : (u : List ℕ) → length u ≡ l → length (g u) ≡ l) (xs : List ℕ) where
  changed_lengths : (c : ℕ) → c * l ≤ length xs → Every (λ (p : List ℕ). length p ≡ l) (map g (parts c l xs))
  changed_lengths c h = every_of_map (λ (p : List ℕ). length p ≡ l) g (parts c l xs)
      (every_map (λ (p : List ℕ). length p ≡ l) (λ (p : List ℕ). length (g p) ≡ l) keeps (parts c l xs) (parts_lengths c l xs h))

  changed_count : (c : ℕ) → length (map g (parts c l xs)) ≡ c
  changed_count c = length-map (parts c l xs) g ∙ parts_count c l xs

  -- the list after so many parts
  abbrev pub changed : ℕ → List ℕ
  changed c = laid l (map g (parts c l xs)) xs

  pub changed_none : xs ≡ changed 0
  unfolding parts
  changed_none = sym (laid_none l xs)

  pub changed_length : (c : ℕ) → c * l ≤ length xs → length (changed c) ≡ length xs
  changed_length c h = laid-length l (map g (parts c l xs)) xs (changed_lengths c h) (omega (arith, ap (λ (k : ℕ). k * l) (changed_count c)))

  -- what is behind the changed parts is as it was
  pub changed_rest : (c : ℕ) → c * l ≤ length xs → drop (c * l) (changed c) ≡ drop (c * l) xs
  changed_rest c h =
      ap (λ (k : ℕ). drop (k * l) (changed c)) (sym (changed_count c))
      ∙ (laid_rest l (map g (parts c l xs)) xs (changed_lengths c h) ∙ ap (λ (k : ℕ). drop (k * l) xs) (changed_count c))

  -- the next part: the one from start on
  pub changed_more : (c start : ℕ) (ys : List ℕ) → (c + 1) * l ≤ length xs → start ≡ c * l → ys ≡ changed c
      → take start ys ++ (g (take (start + l - start) (drop start ys)) ++ drop (start + l - start) (drop start ys)) ≡ changed (c + 1)
  changed_more c start ys h e w =
      ap₂ (λ (s : ℕ) (zs : List ℕ). take s zs ++ (g (take (s + l - s) (drop s zs)) ++ drop (s + l - s) (drop s zs)))
      (e ∙ ap (λ (k : ℕ). k * l) (sym (changed_count c))) w
      ∙ (ap (λ (k : ℕ). take at (changed c) ++ (g (take k (drop at (changed c))) ++ drop k (drop at (changed c)))) (add-sub_cancel_left at l)
      ∙ (laid_more l (map g (parts c l xs)) xs (changed_lengths c (omega arith)) (g (take l (drop at (changed c))))
      ∙ ap (λ (ps : List (List ℕ)). laid l ps xs)
      (ap (λ (u : List ℕ). map g (parts c l xs) ++ g (take l u) ∷ []) here
      ∙ (sym (map-append g (parts c l xs) (take l (drop (c * l) xs) ∷ [])) ∙ ap (map g) (sym (parts_more c l xs))))))
    where
      at : ℕ
      at = length (map g (parts c l xs)) * l

      here : drop (length (map g (parts c l xs)) * l) (changed c) ≡ drop (c * l) xs
      here = ap (λ (k : ℕ). drop (k * l) (changed c)) (changed_count c) ∙ changed_rest c (omega arith)

  -- its parts are the changed parts
  pub changed_parts : (c : ℕ) → c * l ≤ length xs → parts c l (changed c) ≡ map g (parts c l xs)
  changed_parts c h =
      ap (λ (k : ℕ). parts k l (changed c)) (sym (changed_count c))
      ∙ parts_join l (map g (parts c l xs)) (drop (length (map g (parts c l xs)) * l) xs) (changed_lengths c h)
