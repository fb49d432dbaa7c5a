-- The numbers that the second pass takes out of the rounds are those that the first pass found there. Over the parts between commas the
-- second pass carries a value modulo 2^32, which is the part's value for every number below 2^32. Assumes nothing.
use mathlib.Core.Path.{◌≡◌, refl, sym, ap, ap₂, ◌∙◌}
use mathlib.Core.Bool.{Bool, true, false, ◌&&◌}
use mathlib.Core.List.{List, [], ◌∷◌, ◌++◌, map, append_assoc}
use Prim.Native.Nat.{ℕ, ◌+◌, ◌-◌, ◌*◌, ◌/◌, ◌%◌, ◌^◌, ◌≤◌}
use native.Mathlib.Nat.{mod-eq_of_lt, zero-mul, add-mul-mod_self_right, div-add-mod'}
use native.Mathlib.Omega.{arith}
use lib.ListN.{length, length-append, length-map}
use lib.Dec.{eqb, ltb}
use borrow.Author.Tests.{eqb-true, ltb-true}
use Rattle.layout.specs.Bytes.{class_of, is_digit, pieces, widen}
use Rattle.layout.specs.Number.{all, is_number, number_of, number_from}
use Rattle.layout.specs.Line.{found, line_at}
use Rattle.layout.specs.Reading.{lines_at, round_line}
use Rattle.layout.proofs.Tests.{both, between_holds}
use Rattle.layout.proofs.Classes.{class_digit, class_comma}
use Rattle.layout.proofs.Numbers.{pieces_some}
use Rattle.layout.proofs.Lines.{found_good, lines_induction}
use Rattle.narrow_field.specs.Narrow.{p}
use Rattle.narrow_file.specs.Narrow.{narrow}
use Rattle.narrow_file.specs.Passes.{collect}

-- the value carried over digits
abbrev over : ℕ → List ℕ → ℕ
over v [] = v
over v (b ∷ ds) = over ((v * 10 + (b - 48)) % 2 ^ 32) ds

over-value : (v : ℕ) (ds : List ℕ) → over (v % 2 ^ 32) ds ≡ number_from v ds % 2 ^ 32
over-value v [] = refl
over-value v (b ∷ ds) =
    let y = b - 48 in
    let f : v % 2 ^ 32 * 10 + y + v / 2 ^ 32 * 10 * 2 ^ 32 ≡ v * 10 + y = omega (arith, div-add-mod' v (2 ^ 32)) in
    let e : (v % 2 ^ 32 * 10 + y) % 2 ^ 32 ≡ (v * 10 + y) % 2 ^ 32 =
    sym (add-mul-mod_self_right (v % 2 ^ 32 * 10 + y) (v / 2 ^ 32 * 10) (2 ^ 32)) ∙ ap (λ (n : ℕ). n % 2 ^ 32) f in
    ap (λ (n : ℕ). over n ds) e ∙ over-value (v * 10 + (b - 48)) ds

-- the values carried over parts, the first after digits of the value v
abbrev overs : ℕ → List (List ℕ) → List ℕ
overs v [] = []
overs v (part ∷ more) = over v part ∷ map (over 0) more

overs-widen : (v b : ℕ) (ps : List (List ℕ)) → ((p : List ℕ) × (more : List (List ℕ)) × (ps ≡ p ∷ more))
    → overs v (widen b ps) ≡ overs ((v * 10 + (b - 48)) % 2 ^ 32) ps
overs-widen v b ps s = rw s.2

overs-zero : (ps : List (List ℕ)) → ((p : List ℕ) × (more : List (List ℕ)) × (ps ≡ p ∷ more)) → overs 0 ps ≡ map (over 0) ps
overs-zero ps s = rw s.2

-- the first byte of a part is a digit
first_digit : (b : ℕ) (ps : List (List ℕ)) → ((p : List ℕ) × (more : List (List ℕ)) × (ps ≡ p ∷ more)) → all (all is_digit) (widen b ps) ≡ true
    → (is_digit b ≡ true) × (all (all is_digit) ps ≡ true)
first_digit b ps s h =
    let p = s.0 in
    let h' : ((is_digit b && all is_digit p) && all (all is_digit) s.1) ≡ true = rw s.2 at h in
    let r = both (is_digit b && all is_digit p) (all (all is_digit) s.1) h' in
    let q = both (is_digit b) (all is_digit p) r.0 in
    (q.0, rw (s.2, q.1, r.1))

collect-parts : (text : List ℕ) (v : ℕ) (rest : List ℕ) → all (all is_digit) (pieces text) ≡ true
    → collect v (text ++ 10 ∷ rest) ≡ overs v (pieces text) ++ collect 0 rest
collect-parts [] v rest h = unfold class_of in refl
collect-parts (b ∷ text) v rest h =
    go (eqb b 44) refl h (pieces_some text) (λ w g. collect-parts text w rest g)
  where
    go : (t : Bool) → eqb b 44 ≡ t → all (all is_digit) (pieces (b ∷ text)) ≡ true → ((p : List ℕ) × (more : List (List ℕ)) × (pieces text ≡ p ∷ more))
        → ((w : ℕ) → all (all is_digit) (pieces text) ≡ true → collect w (text ++ 10 ∷ rest) ≡ overs w (pieces text) ++ collect 0 rest)
        → collect v (b ∷ text ++ 10 ∷ rest) ≡ overs v (pieces (b ∷ text)) ++ collect 0 rest
    go true e g s ih =
        let z = eqb-true b 44 e in
        let g' : all (all is_digit) (pieces text) ≡ true = rw e at g in
        rw (class_comma b z, e) (ap (λ (ns : List ℕ). v ∷ ns) (ih 0 g' ∙ ap (λ (ns : List ℕ). ns ++ collect 0 rest) (overs-zero (pieces text) s)))
    go false e g s ih =
        let d = first_digit b (pieces text) s (rw e at g) in
        let r = between_holds 48 57 b d.0 in
        rw (class_digit b r.0 (omega arith), e)
        (ih ((v * 10 + (b - 48)) % 2 ^ 32) d.1 ∙ ap (λ (ns : List ℕ). ns ++ collect 0 rest) (sym (overs-widen v b (pieces text) s)))

-- numbers are digits
numbers-digits : (most : ℕ) (ps : List (List ℕ)) → all (is_number most) ps ≡ true → all (all is_digit) ps ≡ true
numbers-digits most [] h = refl
numbers-digits most (p ∷ ps) h =
    let r = both (is_number most p) (all (is_number most) ps) h in
    rw (both (all is_digit p) _ r.0).0 (numbers-digits most ps r.1)

-- below 2^32 nothing is lost
overs_values : (n : ℕ) (ps : List (List ℕ)) → n ≤ 2 ^ 32 → all (λ m. ltb m n) (map number_of ps) ≡ true → map (over 0) ps ≡ map number_of ps
overs_values n [] l h = refl
overs_values n (p ∷ ps) l h =
    let r = both (ltb (number_of p) n) (all (λ m. ltb m n) (map number_of ps)) h in
    let u = ltb-true (number_of p) n r.0 in
    ap₂ (λ (m : ℕ) (ms : List ℕ). m ∷ ms) (over-value 0 p ∙ mod-eq_of_lt (omega arith)) (overs_values n ps l r.1)

-- one round that is found
round_collected : (n degree : ℕ) (s ns rest : List ℕ) → line_at n (round_line narrow degree) s ≡ found ns rest
    → (collect 0 s ≡ ns ++ collect 0 rest) × (length ns ≡ degree + 1)
round_collected n degree s ns rest e =
    let g = found_good n (round_line narrow degree) s ns rest e in
    let t = g.text in
    let digits = numbers-digits 10 (pieces t) g.parted.each in
    let small : all (λ m. ltb m p) (map number_of (pieces t)) ≡ true = rw g.parted.values at g.allowed in (
      ap (collect 0) g.bytes
          ∙ (word t rest
          ∙ (collect-parts t 0 rest digits
          ∙ ap (λ (ms : List ℕ). ms ++ collect 0 rest)
          (overs-zero (pieces t) (pieces_some t) ∙ (overs_values p (pieces t) (omega arith) small ∙ sym g.parted.values)))),
      ap length g.parted.values ∙ (length-map (pieces t) number_of ∙ g.parted.as_many),
    )
  where
    word : (t rest : List ℕ) → collect 0 (((114 ∷ 111 ∷ 117 ∷ 110 ∷ 100 ∷ []) ++ 61 ∷ []) ++ t ++ 10 ∷ rest) ≡ collect 0 (t ++ 10 ∷ rest)
    word t rest = unfold class_of in refl

-- all rounds
pub lines_collected : (m n degree : ℕ) (s cs rest : List ℕ) → lines_at n m (round_line narrow degree) s ≡ found cs rest
    → (collect 0 s ≡ cs ++ collect 0 rest) × (length cs ≡ m * (degree + 1))
lines_collected m n degree s cs rest e =
    lines_induction (round_line narrow degree) rest (λ m s cs. (collect 0 s ≡ cs ++ collect 0 rest) × (length cs ≡ m * (degree + 1)))
    (refl, sym (zero-mul (degree + 1)))
    (λ m n s ns s' ms f h.
    let g = round_collected n degree s ns s' f in (
      g.0 ∙ (ap (λ (x : List ℕ). ns ++ x) h.0 ∙ sym (append_assoc ns ms (collect 0 rest))),
      length-append ns ms ∙ omega (arith, g.1, h.1),
    ))
    m n s cs e
