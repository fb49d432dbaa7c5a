-- Exactly the files of well_formed parts are answered as files (`Exactly`), and a list of bytes is the file of one set of parts only
-- (`OneContent`). Line by line, what is found is what is written. Assumes nothing.
use mathlib.Core.Path.{◌≡◌, refl, sym, ap, subst, ◌∙◌}
use mathlib.Core.Bool.{true}
use mathlib.Core.List.{List, [], ◌∷◌, ◌++◌, append-nil}
use Prim.Native.Nat.{ℕ, ◌+◌, ◌≤◌}
use native.Mathlib.Omega.{arith}
use lib.ListN.{length}
use lib.Dec.{leb, ltb}
use borrow.Author.Tests.{eqb-true, leb-true, ltb-true, eq-eqb, le-leb, lt-ltb, le-ltb}
use Rattle.layout.specs.Number.{all, decimal}
use Rattle.layout.specs.Line.{Line, found, line_at}
use Rattle.layout.specs.Reading.{Layout, file, reading, only, edition_line, field_line, vars_line, degree_line, claim_line, round_line, end_line}
use Rattle.layout.specs.Reading.{from_end, from_rounds, from_claim, from_degree, from_vars, from_field, from_edition}
use Rattle.layout.specs.File.{line_of, lines_of, file_of, Writable, FileParts, Exactly, OneContent}
use Rattle.layout.proofs.Tests.{both, between_holds, between_in}
use Rattle.layout.proofs.Answers.{Whole, whole, found_count, lines_count}
use Rattle.layout.proofs.Written.{Fit, found-written, found-fit, found_allowed, written-found, lines_written, lines_allowed, lines_fit, written_lines}

-- a line with one number: that number, its test, its digits, and the line's bytes
record One (line : Line) (s ns rest : List ℕ) : Type 0 where
  wrote : s ≡ line_of line (only ns ∷ []) ++ rest
  passes : line.allowed (only ns) ≡ true
  fits : length (decimal (only ns)) ≤ line.most

single : (ns : List ℕ) → length ns ≡ 1 → ns ≡ only ns ∷ []
single [] h = absurd (omega arith)
single (n ∷ []) h = refl
single (n ∷ m ∷ ns) h = absurd (omega arith)

one : (n : ℕ) (line : Line) (s ns rest : List ℕ) → line.count ≡ 1 → line_at n line s ≡ found ns rest → One line s ns rest
one n line s ns rest c e =
    let q = single ns (found_count n line s ns rest e ∙ c) in
    record {
      wrote = found-written n line s ns rest e ∙ ap (λ (x : List ℕ). line_of line x ++ rest) q;
      passes = (both (line.allowed (only ns)) true (subst (λ (x : List ℕ). all line.allowed x ≡ true) q (found_allowed n line s ns rest e))).0;
      fits = (subst (Fit line.most) q (found-fit n line s ns rest e)).0;
    }

elements : (p most : ℕ) (ns : List ℕ) → all (λ n. ltb n p) ns ≡ true → Fit most ns → Writable p most ns
elements p most [] a f = tt
elements p most (n ∷ ns) a f =
    let r = both (ltb n p) (all (λ n. ltb n p) ns) a in
    (ltb-true n p r.0, f.0, elements p most ns r.1 f.1)

-- what is answered as a file is the file of its parts
module _ (layout : Layout) (v d c : ℕ) (cs bytes : List ℕ) (w : Whole layout v d c cs bytes) where
  first : One (edition_line layout) bytes w.first.numbers w.first.rest
  first = one 1 (edition_line layout) bytes w.first.numbers w.first.rest refl w.first.found_there

  second : One (field_line layout) w.first.rest w.second.numbers w.second.rest
  second = one 2 (field_line layout) w.first.rest w.second.numbers w.second.rest refl w.second.found_there

  third : One (vars_line layout) w.second.rest w.third.numbers w.third.rest
  third = one 3 (vars_line layout) w.second.rest w.third.numbers w.third.rest refl w.third.found_there

  fourth : One (degree_line layout) w.third.rest w.fourth.numbers w.fourth.rest
  fourth = one 4 (degree_line layout) w.third.rest w.fourth.numbers w.fourth.rest refl w.fourth.found_there

  fifth : One (claim_line layout) w.fourth.rest w.fifth.numbers w.fifth.rest
  fifth = one 5 (claim_line layout) w.fourth.rest w.fifth.numbers w.fifth.rest refl w.fifth.found_there

  last : One (end_line layout v) w.after_rounds w.last_numbers []
  last = one (v + 6) (end_line layout v) w.after_rounds w.last_numbers [] refl w.last

  -- a line whose number is known
  known : {line : Line} {s ns rest : List ℕ} (n : ℕ) → only ns ≡ n → One line s ns rest → s ≡ line_of line (n ∷ []) ++ rest
  known {line} {s} {ns} {rest} n e o = o.wrote ∙ ap (λ (m : ℕ). line_of line (m ∷ []) ++ rest) e

  is_edition : only w.first.numbers ≡ layout.edition
  is_edition = eqb-true _ _ first.passes

  is_field : only w.second.numbers ≡ layout.modulus
  is_field = eqb-true _ _ second.passes

  is_end_lem : only w.last_numbers ≡ v
  is_end_lem = eqb-true _ _ last.passes

  is_file : bytes ≡ file_of layout v d c cs
  unfolding file_of
  is_file =
      known layout.edition is_edition first
      ∙ ap (λ (x : List ℕ). line_of (edition_line layout) (layout.edition ∷ []) ++ x)
      (known layout.modulus is_field second
      ∙ ap (λ (x : List ℕ). line_of (field_line layout) (layout.modulus ∷ []) ++ x)
      (known v (sym w.vars) third
      ∙ ap (λ (x : List ℕ). line_of (vars_line layout) (v ∷ []) ++ x)
      (known d (sym w.degree) fourth
      ∙ ap (λ (x : List ℕ). line_of (degree_line layout) (d ∷ []) ++ x)
      (known c (sym w.claim) fifth
      ∙ ap (λ (x : List ℕ). line_of (claim_line layout) (c ∷ []) ++ x)
      (lines_written v 6 (round_line layout d) w.fifth.rest cs w.after_rounds w.rounds
      ∙ ap (λ (x : List ℕ). lines_of v (round_line layout d) cs ++ x)
      (known v is_end_lem last ∙ append-nil (line_of (end_line layout v) (v ∷ []))))))))

  well_formed : FileParts layout v d c cs
  well_formed =
      let k = between_holds 1 layout.most_degree d (subst (λ (n : ℕ). (degree_line layout).allowed n ≡ true) (sym w.degree) fourth.passes) in
      record {
        vars_allowed = leb-true v layout.most_vars (subst (λ (n : ℕ). leb n layout.most_vars ≡ true) (sym w.vars) third.passes);
        degree_not_none = k.0;
        degree_allowed = k.1;
        claim_element =
            subst (λ (n : ℕ). Writable layout.modulus layout.later_digits (n ∷ [])) (sym w.claim)
            (ltb-true _ _ fifth.passes, fifth.fits, tt);
        elements =
            elements layout.modulus layout.later_digits cs
            (lines_allowed v 6 (round_line layout d) w.fifth.rest cs w.after_rounds w.rounds)
            (lines_fit v 6 (round_line layout d) w.fifth.rest cs w.after_rounds w.rounds);
        as_many = lines_count v 6 (round_line layout d) w.fifth.rest cs w.after_rounds w.rounds;
        edition_fits = subst (λ (n : ℕ). length (decimal n) ≤ layout.edition_digits) is_edition first.fits;
        field_fits = subst (λ (n : ℕ). length (decimal n) ≤ layout.field_digits) is_field second.fits;
        vars_fit = subst (λ (n : ℕ). length (decimal n) ≤ layout.later_digits) (sym w.vars) third.fits;
        degree_fits = subst (λ (n : ℕ). length (decimal n) ≤ layout.later_digits) (sym w.degree) fourth.fits;
        file_fits = subst (λ (xs : List ℕ). length xs ≤ layout.most_bytes) is_file w.short;
      }

-- the file of well_formed parts is answered as that file
below : (p most : ℕ) (ns : List ℕ) → Writable p most ns → all (λ n. ltb n p) ns ≡ true
below p most [] e = refl
below p most (n ∷ ns) e = rw (lt-ltb n p e.0) (below p most ns e.2)

fit : (p most : ℕ) (ns : List ℕ) → Writable p most ns → Fit most ns
fit p most [] e = tt
fit p most (n ∷ ns) e = (e.1, fit p most ns e.2)

module _ (layout : Layout) (v d c : ℕ) (cs : List ℕ) (some : (k : ℕ) → 1 ≤ k → 1 ≤ layout.per_round k) (w : FileParts layout v d c cs) where
  from_edition_lem : (r : List ℕ) → from_edition layout (line_of (edition_line layout) (layout.edition ∷ []) ++ r) ≡ from_field layout r
  unfolding from_edition
  from_edition_lem r =
      let t = eq-eqb layout.edition layout.edition refl in
      rw (written-found 1 (edition_line layout) layout.edition [] r refl refl (w.edition_fits, tt) (rw t))

  from_field_lem : (r : List ℕ) → from_field layout (line_of (field_line layout) (layout.modulus ∷ []) ++ r) ≡ from_vars layout r
  unfolding from_field
  from_field_lem r =
      let t = eq-eqb layout.modulus layout.modulus refl in
      rw (written-found 2 (field_line layout) layout.modulus [] r refl refl (w.field_fits, tt) (rw t))

  from_vars_lem : (r : List ℕ) → from_vars layout (line_of (vars_line layout) (v ∷ []) ++ r) ≡ from_degree layout v r
  unfolding from_vars
  from_vars_lem r = rw (written-found 3 (vars_line layout) v [] r refl refl (w.vars_fit, tt) (rw (le-leb v layout.most_vars w.vars_allowed)))

  from_degree_lem : (r : List ℕ) → from_degree layout v (line_of (degree_line layout) (d ∷ []) ++ r) ≡ from_claim layout v d r
  unfolding from_degree
  from_degree_lem r =
      rw (written-found 4 (degree_line layout) d [] r refl refl (w.degree_fits, tt) (rw (between_in 1 layout.most_degree d w.degree_not_none w.degree_allowed)))

  from_claim_lem : (r : List ℕ) → from_claim layout v d (line_of (claim_line layout) (c ∷ []) ++ r) ≡ from_rounds layout v d c r
  unfolding from_claim
  from_claim_lem r =
      let e = w.claim_element in
      rw (written-found 5 (claim_line layout) c [] r refl refl (e.1, tt) (rw (lt-ltb c layout.modulus e.0)))

  from_rounds_lem : (r : List ℕ) → from_rounds layout v d c (lines_of v (round_line layout d) cs ++ r) ≡ from_end layout v d c cs r
  unfolding from_rounds
  from_rounds_lem r =
      rw (
      written_lines v 6 (round_line layout d) cs r refl (some d w.degree_not_none) w.as_many
      (fit layout.modulus layout.later_digits cs w.elements)
      (below layout.modulus layout.later_digits cs w.elements)
      )

  from_end_lem : from_end layout v d c cs (line_of (end_line layout v) (v ∷ [])) ≡ file v d c cs
  unfolding from_end
  from_end_lem =
      let t = eq-eqb v v refl in
      let l : line_at (v + 6) (end_line layout v) (line_of (end_line layout v) (v ∷ [])) ≡ found (v ∷ []) [] =
      ap (line_at (v + 6) (end_line layout v)) (sym (append-nil (line_of (end_line layout v) (v ∷ []))))
      ∙ written-found (v + 6) (end_line layout v) v [] [] refl refl (w.vars_fit, tt) (rw t) in
      rw l

  answered : reading layout (file_of layout v d c cs) ≡ file v d c cs
  unfolding reading
  answered =
      rw (le-ltb layout.most_bytes (length (file_of layout v d c cs)) w.file_fits)
      (unfold file_of in from_edition_lem _
      ∙ (from_field_lem _ ∙ (from_vars_lem _ ∙ (from_degree_lem _ ∙ (from_claim_lem _ ∙ (from_rounds_lem _ ∙ from_end_lem))))))

pub exactly : Exactly
exactly layout v d c cs bytes some = (
  λ e. let w = whole layout v d c cs bytes e in (is_file layout v d c cs bytes w, well_formed layout v d c cs bytes w),
  λ h. ap (reading layout) h.0 ∙ answered layout v d c cs some h.1,
)

pub one_content : OneContent
one_content layout v w d e c b ms ns some p q f =
    sym (answered layout v d c ms some p) ∙ (ap (reading layout) f ∙ answered layout w e b ns some q)
