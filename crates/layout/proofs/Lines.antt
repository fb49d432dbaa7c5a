-- What is known of bytes by what is found in them: a line that is found is the bytes up to a line end, its word, `=`, and numbers between
-- commas, all of them allowed. Assumes nothing.
use mathlib.Core.Path.{◌≡◌, refl, sym, ap, subst, ◌∙◌}
use mathlib.Core.Bool.{Bool, true, false, ◌&&◌}
use mathlib.Core.List.{List, [], ◌∷◌, ◌++◌, map}
use Prim.Native.Nat.{ℕ, zero, suc}
use native.Mathlib.Omega.{arith}
use lib.ListN.{length}
use lib.Dec.{eqb}
use borrow.Author.Tests.{eqb-true}
use Rattle.refusals.specs.First.{choose}
use Rattle.layout.specs.Bytes.{Cut, ended, unended, longer, first_line, pieces}
use Rattle.layout.specs.Number.{all, is_number, number_of}
use Rattle.layout.specs.Line.{Line, Form, formless, numbers, numbers_of, form_after, form, Outcome, fault, found, judged_line, outcome, line_at}
use Rattle.layout.specs.Line.{and_then, before}
use Rattle.layout.specs.Reading.{lines_at}
use Rattle.layout.proofs.Tests.{both}

-- a first line that has an end: the bytes before the first byte 10, and those after it
pub cut_ended : (s text rest : List ℕ) → first_line s ≡ ended text rest → s ≡ text ++ 10 ∷ rest
cut_ended [] text rest e = absurd (let z : ◌≡◌ {A = ℕ} 0 1 = cc in omega arith)
cut_ended (b ∷ s) text rest e = go (eqb b 10) refl e (cut_ended s)
  where
    again : (cut : Cut) → ((t r : List ℕ) → cut ≡ ended t r → s ≡ t ++ 10 ∷ r) → longer b cut ≡ ended text rest → b ∷ s ≡ text ++ 10 ∷ rest
    again (ended t r) ih f =
        let p : b ∷ t ≡ text = cc in
        let q : r ≡ rest = cc in
        ap (λ (xs : List ℕ). b ∷ xs) (ih t r refl) ∙ (ap (λ (xs : List ℕ). b ∷ (t ++ 10 ∷ xs)) q ∙ ap (λ (xs : List ℕ). xs ++ 10 ∷ rest) p)
    again (unended t) ih f = absurd (let z : ◌≡◌ {A = ℕ} 0 1 = cc in omega arith)

    go : (t : Bool) → eqb b 10 ≡ t → choose (eqb b 10) (ended [] s) (longer b (first_line s)) ≡ ended text rest
        → ((t r : List ℕ) → first_line s ≡ ended t r → s ≡ t ++ 10 ∷ r) → b ∷ s ≡ text ++ 10 ∷ rest
    go true f g ih =
        let g' : ended [] s ≡ ended text rest = rw f at g in
        let p : [] ≡ text = cc in
        let q : s ≡ rest = cc in
        ap (λ (n : ℕ). n ∷ s) (eqb-true b 10 f) ∙ (ap (λ (xs : List ℕ). 10 ∷ xs) q ∙ ap (λ (xs : List ℕ). xs ++ 10 ∷ rest) p)
    go false f g ih = again (first_line s) ih (rw f at g)

-- a text of right form after a beginning: the beginning, and numbers
pub form_after_lem : (line : Line) (beginning text ns : List ℕ) → form_after line beginning text ≡ numbers ns
    → (t : List ℕ) × (text ≡ beginning ++ t) × (numbers_of line t ≡ numbers ns)
form_after_lem line [] text ns e = (text, refl, e)
form_after_lem line (b ∷ beginning) [] ns e = absurd (let z : ◌≡◌ {A = ℕ} 0 1 = cc in omega arith)
form_after_lem line (b ∷ beginning) (c ∷ text) ns e = go (eqb c b) refl e (form_after_lem line beginning text ns)
  where
    go : (t : Bool) → eqb c b ≡ t → choose (eqb c b) (form_after line beginning text) formless ≡ numbers ns
        → (form_after line beginning text ≡ numbers ns → (t : List ℕ) × (text ≡ beginning ++ t) × (numbers_of line t ≡ numbers ns))
        → (t : List ℕ) × (c ∷ text ≡ b ∷ (beginning ++ t)) × (numbers_of line t ≡ numbers ns)
    go true f g ih =
        let r = ih (rw f at g) in
        (r.0, ap (λ (n : ℕ). n ∷ text) (eqb-true c b f) ∙ ap (λ (xs : List ℕ). b ∷ xs) r.1, r.2)
    go false f g ih = absurd (let g' : formless ≡ numbers ns = rw f at g in let z : ◌≡◌ {A = ℕ} 0 1 = cc in omega arith)

-- numbers of right form: the parts, as many as wanted, each a number
pub record Pieces (line : Line) (t ns : List ℕ) : Type 0 where
  pub as_many : length (pieces t) ≡ line.count
  pub each : all (is_number line.most) (pieces t) ≡ true
  pub values : ns ≡ map number_of (pieces t)

pub numbers-pieces : (line : Line) (t ns : List ℕ) → numbers_of line t ≡ numbers ns → Pieces line t ns
unfolding numbers_of
numbers-pieces line t ns e = go (eqb (length (pieces t)) line.count && all (is_number line.most) (pieces t)) refl e
  where
    go : (b : Bool) → (eqb (length (pieces t)) line.count && all (is_number line.most) (pieces t)) ≡ b
        → choose (eqb (length (pieces t)) line.count && all (is_number line.most) (pieces t)) (numbers (map number_of (pieces t))) formless ≡ numbers ns
        → Pieces line t ns
    go true f g =
        let r = both (eqb (length (pieces t)) line.count) (all (is_number line.most) (pieces t)) f in
        let g' : numbers (map number_of (pieces t)) ≡ numbers ns = rw f at g in
        record { as_many = eqb-true (length (pieces t)) line.count r.0; each = r.1; values = cc }
    go false f g = absurd (let g' : formless ≡ numbers ns = rw f at g in let z : ◌≡◌ {A = ℕ} 0 1 = cc in omega arith)

-- a line that is found
pub record Good (line : Line) (s ns rest : List ℕ) : Type 0 where
  pub text : List ℕ
  pub bytes : s ≡ (line.word ++ 61 ∷ []) ++ text ++ 10 ∷ rest
  pub parted : Pieces line text ns
  pub allowed : all line.allowed ns ≡ true

pub found_good : (n : ℕ) (line : Line) (s ns rest : List ℕ) → line_at n line s ≡ found ns rest → Good line s ns rest
unfolding line_at form
found_good n line s ns rest e = cut (first_line s) refl e
  where
    judge : (text : List ℕ) (r : List ℕ) (f : Form) → form line text ≡ f → s ≡ text ++ 10 ∷ r → judged_line n line r f ≡ found ns rest → Good line s ns rest
    judge text r formless f g h = absurd (let z : ◌≡◌ {A = ℕ} 0 1 = cc in omega arith)
    judge text r (numbers ms) f g h = test (all line.allowed ms) refl h
      where
        test : (t : Bool) → all line.allowed ms ≡ t → choose (all line.allowed ms) (found ms r) (fault 12 n) ≡ found ns rest → Good line s ns rest
        test true k l =
            let l' : found ms r ≡ found ns rest = rw k at l in
            let p : ms ≡ ns = cc in
            let q : r ≡ rest = cc in
            let a = form_after_lem line (line.word ++ 61 ∷ []) text ms f in
            record {
              text = a.0;
              bytes = g ∙ (ap (λ (xs : List ℕ). xs ++ 10 ∷ r) a.1 ∙ ap (λ (xs : List ℕ). (line.word ++ 61 ∷ []) ++ a.0 ++ 10 ∷ xs) q);
              parted = subst (Pieces line a.0) p (numbers-pieces line a.0 ms a.2);
              allowed = ap (all line.allowed) (sym p) ∙ k;
            }
        test false k l = absurd (let l' : fault 12 n ≡ found ns rest = rw k at l in let z : ◌≡◌ {A = ℕ} 0 1 = cc in omega arith)

    cut : (c : Cut) → first_line s ≡ c → outcome n line c ≡ found ns rest → Good line s ns rest
    cut (ended text r) f g = judge text r (form line text) refl (cut_ended s text r f) g
    cut (unended []) f g = absurd (let z : ◌≡◌ {A = ℕ} 0 1 = cc in omega arith)
    cut (unended (b ∷ text)) f g = absurd (let z : ◌≡◌ {A = ℕ} 0 1 = cc in omega arith)

-- what holds of no lines, and of one line more if it holds of the others, holds of lines that are found
pub lines_induction : (line : Line) (rest : List ℕ) (P : ℕ → List ℕ → List ℕ → Type 0) → P zero rest []
    → ((m n : ℕ) (s ns s' ms : List ℕ) → line_at n line s ≡ found ns s' → P m s' ms → P (suc m) s (ns ++ ms))
    → (m n : ℕ) (s cs : List ℕ) → lines_at n m line s ≡ found cs rest → P m s cs
unfolding lines_at
lines_induction line rest P none more zero n s cs e =
    let p : [] ≡ cs = cc in
    let q : rest ≡ s = cc in
    subst (P zero s) p (subst (λ (x : List ℕ). P zero x []) q none)
lines_induction line rest P none more (suc m) n s cs e =
    first (line_at n line s) refl e (λ s' ms. lines_induction line rest P none more m (suc n) s' ms)
  where
    later : (ns s' : List ℕ) (o : Outcome) → lines_at (suc n) m line s' ≡ o → before ns o ≡ found cs rest → line_at n line s ≡ found ns s'
        → ((ms : List ℕ) → lines_at (suc n) m line s' ≡ found ms rest → P m s' ms) → P (suc m) s cs
    later ns s' (fault a b) f g h ih = absurd (let z : ◌≡◌ {A = ℕ} 0 1 = cc in omega arith)
    later ns s' (found ms r) f g h ih =
        let p : ns ++ ms ≡ cs = cc in
        let q : r ≡ rest = cc in
        subst (P (suc m) s) p (more m n s ns s' ms h (ih ms (f ∙ ap (found ms) q)))

    first : (o : Outcome) → line_at n line s ≡ o → and_then o (λ s'. lines_at (suc n) m line s') ≡ found cs rest
        → ((s' ms : List ℕ) → lines_at (suc n) m line s' ≡ found ms rest → P m s' ms) → P (suc m) s cs
    first (fault a b) f g ih = absurd (let z : ◌≡◌ {A = ℕ} 0 1 = cc in omega arith)
    first (found ns s') f g ih = later ns s' (lines_at (suc n) m line s') refl g f (ih s')
