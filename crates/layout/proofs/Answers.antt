-- A list of bytes that is answered as a file, line by line: what was found in each line. Assumes nothing.
use mathlib.Core.Path.{◌≡◌, refl, sym, ap, subst, ◌∙◌}
use mathlib.Core.Bool.{Bool, true, false}
use mathlib.Core.List.{List, [], ◌∷◌}
use Prim.Native.Nat.{ℕ, ◌+◌, ◌*◌, ◌≤◌}
use native.Mathlib.Nat.{zero-mul}
use native.Mathlib.Omega.{arith}
use lib.ListN.{length, length-append, length-map}
use lib.Dec.{ltb}
use borrow.Author.Tests.{ltb-false}
use Rattle.refusals.specs.First.{choose}
use Rattle.layout.specs.Bytes.{pieces}
use Rattle.layout.specs.Number.{number_of}
use Rattle.layout.specs.Line.{Line, Outcome, fault, found, line_at}
use Rattle.layout.specs.Reading.{Layout, Reading, file, refused_at, reading, reading_then, only, lines_at, edition_line, field_line, vars_line}
use Rattle.layout.specs.Reading.{degree_line, claim_line, round_line, end_line, from_after, from_end, from_rounds, from_claim, from_degree, from_vars}
use Rattle.layout.specs.Reading.{from_field, from_edition}
use Rattle.layout.proofs.Lines.{found_good, lines_induction}

-- what an answer that is a file went on from
went_on : (o : Outcome) (next : List ℕ → List ℕ → Reading) (v d c : ℕ) (cs : List ℕ) → reading_then o next ≡ file v d c cs
    → (ns : List ℕ) × (rest : List ℕ) × (o ≡ found ns rest) × (next ns rest ≡ file v d c cs)
went_on (fault a b) next v d c cs e = absurd (let z : ◌≡◌ {A = ℕ} 0 1 = cc in omega arith)
went_on (found ns rest) next v d c cs e = (ns, rest, refl, e)

-- one line of a file: its numbers and the bytes after it
pub record At (n : ℕ) (line : Line) (s : List ℕ) : Type 0 where
  pub numbers : List ℕ
  pub rest : List ℕ
  pub found_there : line_at n line s ≡ found numbers rest

-- the lines of a file
pub record Whole (layout : Layout) (v d c : ℕ) (cs bytes : List ℕ) : Type 0 where
  pub short : length bytes ≤ layout.most_bytes
  pub first : At 1 (edition_line layout) bytes
  pub second : At 2 (field_line layout) first.rest
  pub third : At 3 (vars_line layout) second.rest
  pub fourth : At 4 (degree_line layout) third.rest
  pub fifth : At 5 (claim_line layout) fourth.rest
  pub after_rounds : List ℕ
  pub rounds : lines_at 6 v (round_line layout d) fifth.rest ≡ found cs after_rounds
  pub last_numbers : List ℕ
  pub last : line_at (v + 6) (end_line layout v) after_rounds ≡ found last_numbers []
  pub vars : v ≡ only third.numbers
  pub degree : d ≡ only fourth.numbers
  pub claim : c ≡ only fifth.numbers

same_whole : (layout : Layout) (v v' d d' c c' : ℕ) (cs cs' bytes : List ℕ) → file v' d' c' cs' ≡ file v d c cs
    → Whole layout v' d' c' cs' bytes → Whole layout v d c cs bytes
same_whole layout v v' d d' c c' cs cs' bytes e w =
    let p : v' ≡ v = cc in
    let q : d' ≡ d = cc in
    let r : c' ≡ c = cc in
    let t : cs' ≡ cs = cc in
    subst (λ (x : ℕ). Whole layout x d c cs bytes) p
    (subst (λ (x : ℕ). Whole layout v' x c cs bytes) q
    (subst (λ (x : ℕ). Whole layout v' d' x cs bytes) r
    (subst (λ (x : List ℕ). Whole layout v' d' c' x bytes) t w)))

module _ (layout : Layout) (v d c : ℕ) (cs bytes : List ℕ) (l : length bytes ≤ layout.most_bytes) where
  conclude : (a : At 1 (edition_line layout) bytes) (b : At 2 (field_line layout) a.rest) (x : At 3 (vars_line layout) b.rest)
      (y : At 4 (degree_line layout) x.rest) (z : At 5 (claim_line layout) y.rest) (ms s ns rest : List ℕ)
      → lines_at 6 (only x.numbers) (round_line layout (only y.numbers)) z.rest ≡ found ms s
      → line_at (only x.numbers + 6) (end_line layout (only x.numbers)) s ≡ found ns rest
      → from_after (only x.numbers) (only y.numbers) (only z.numbers) ms rest ≡ file v d c cs
      → Whole layout v d c cs bytes
  conclude a b x y z ms s ns [] r e f =
      same_whole layout v (only x.numbers) d (only y.numbers) c (only z.numbers) cs ms bytes f
      (record {
        short = l;
        first = a;
        second = b;
        third = x;
        fourth = y;
        fifth = z;
        after_rounds = s;
        rounds = r;
        last_numbers = ns;
        last = e;
        vars = refl;
        degree = refl;
        claim = refl;
      })
  conclude a b x y z ms s ns (k ∷ rest) r e f = absurd (let w : ◌≡◌ {A = ℕ} 0 1 = cc in omega arith)

  lines : from_edition layout bytes ≡ file v d c cs → Whole layout v d c cs bytes
  unfolding from_edition from_field from_vars from_degree from_claim from_rounds from_end
  lines e =
      let a = went_on (line_at 1 (edition_line layout) bytes) _ v d c cs e in
      let b = went_on (line_at 2 (field_line layout) a.1) _ v d c cs a.3 in
      let x = went_on (line_at 3 (vars_line layout) b.1) _ v d c cs b.3 in
      let y = went_on (line_at 4 (degree_line layout) x.1) _ v d c cs x.3 in
      let z = went_on (line_at 5 (claim_line layout) y.1) _ v d c cs y.3 in
      let r = went_on (lines_at 6 (only x.0) (round_line layout (only y.0)) z.1) _ v d c cs z.3 in
      let k = went_on (line_at (only x.0 + 6) (end_line layout (only x.0)) r.1) _ v d c cs r.3 in
      conclude
      (record { numbers = a.0; rest = a.1; found_there = a.2 })
      (record { numbers = b.0; rest = b.1; found_there = b.2 })
      (record { numbers = x.0; rest = x.1; found_there = x.2 })
      (record { numbers = y.0; rest = y.1; found_there = y.2 })
      (record { numbers = z.0; rest = z.1; found_there = z.2 })
      r.0 r.1 k.0 k.1 r.2 k.2 k.3

pub whole : (layout : Layout) (v d c : ℕ) (cs bytes : List ℕ) → reading layout bytes ≡ file v d c cs → Whole layout v d c cs bytes
unfolding reading
whole layout v d c cs bytes e = size (ltb layout.most_bytes (length bytes)) refl e
  where
    size : (t : Bool) → ltb layout.most_bytes (length bytes) ≡ t
        → choose (ltb layout.most_bytes (length bytes)) (refused_at 9 0) (from_edition layout bytes) ≡ file v d c cs → Whole layout v d c cs bytes
    size true f g = absurd (let g' : refused_at 9 0 ≡ file v d c cs = rw f at g in let z : ◌≡◌ {A = ℕ} 0 1 = cc in omega arith)
    size false f g = lines layout v d c cs bytes (ltb-false layout.most_bytes (length bytes) f) (rw f at g)

-- a line that is found has as many numbers as it must
pub found_count : (n : ℕ) (line : Line) (s ns rest : List ℕ) → line_at n line s ≡ found ns rest → length ns ≡ line.count
found_count n line s ns rest e =
    let g = found_good n line s ns rest e in
    ap length g.parted.values ∙ (length-map (pieces g.text) number_of ∙ g.parted.as_many)

pub lines_count : (m n : ℕ) (line : Line) (s cs rest : List ℕ) → lines_at n m line s ≡ found cs rest → length cs ≡ m * line.count
lines_count m n line s cs rest e =
    lines_induction line rest (λ m s cs. length cs ≡ m * line.count) (sym (zero-mul line.count))
    (λ m n s ns s' ms f h. length-append ns ms ∙ omega (arith, found_count n line s ns s' f))
    m n s cs e

-- a file has as many coefficients as its vars and degree ask for
pub file_count : (layout : Layout) (v d c : ℕ) (cs bytes : List ℕ) → reading layout bytes ≡ file v d c cs → length cs ≡ v * layout.per_round d
file_count layout v d c cs bytes e =
    let w = whole layout v d c cs bytes e in
    lines_count v 6 (round_line layout d) w.fifth.rest cs w.after_rounds w.rounds
