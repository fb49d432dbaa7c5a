-- The machine over a whole line comes to what the layout says of the line (`run_line`): letter by letter over the word, and from `=` on
-- by the law of the numbers. Assumes nothing.
use mathlib.Core.Path.{◌≡◌, refl, sym, ap, ◌∙◌}
use mathlib.Core.Bool.{Bool, true, false, ◌&&◌}
use mathlib.Core.List.{List, [], ◌∷◌, ◌++◌, map, append-nil, append_assoc}
use Prim.Native.Nat.{ℕ, ◌+◌, ◌-◌, ◌≤◌, ◌<◌}
use native.Mathlib.Omega.{arith}
use lib.ListN.{length, get_or, length-append}
use lib.Seq.{get_or-append_seam}
use lib.Dec.{eqb}
use borrow.Author.Tests.{ne_eqb, eq-eqb, eqb-true, eqb-false}
use Rattle.refusals.specs.First.{choose}
use Rattle.layout.specs.Bytes.{within, is_letter, class_of, Cut, ended, unended, longer, first_line, pieces}
use Rattle.layout.specs.Bytes as bytes
use Rattle.layout.specs.Number.{all, is_number, number_of}
use Rattle.layout.specs.Line.{numbers_of, form_after, form, fault, found, judged_line, outcome, line_at}
use Rattle.layout.specs.Reading.{only}
use Rattle.layout.proofs.Tests.{between_holds, both}
use Rattle.layout.proofs.Classes.{means, Means, class_letter}
use Rattle.file_line.specs.declared.line.Wanted.{Wanted}
use Rattle.file_line.specs.declared.state.State.{State}
use Rattle.file_line.specs.declared.state.State.TheVariants.{Letters, Bad}
use Rattle.file_line.specs.OneLine.{stopped, went, brief, line_with}
use Rattle.file_line.specs.Steps.{greatest, in_word, closed_of, run_of}
use Rattle.file_line.proofs.Paths.{letter_past, letter-right, letter_wrong, open_right, open_wrong}
use Rattle.file_line.proofs.Machine.{steps_of, on_cut, ran, closed_bad}
use Rattle.file_line.proofs.Verdict.{none, first_none, verdict, Law, numbers_law}

module _ (w : Wanted) (word : List ℕ) (limit : w.high ≤ greatest) (size : ℕ) where
  -- the verdict is what the layout says of the text after `=`
  verdict-form : (text rest : List ℕ)
      → verdict w w.commas true (size - length rest) (pieces text)
      ≡ brief size (judged_line w.line (line_with word w) rest (numbers_of (line_with word w) text))
  unfolding verdict numbers_of
  verdict-form text rest = go (eqb (length (pieces text)) (w.commas + 1) && all (is_number w.digits) (pieces text)) refl
    where
      allowed : (t : Bool) → all (within w.low w.high) (map number_of (pieces text)) ≡ t
          → choose t (went (only (map number_of (pieces text))) (size - length rest)) (stopped 12 w.line)
          ≡ brief size (choose t (found (map number_of (pieces text)) rest) (fault 12 w.line))
      allowed true e = refl
      allowed false e = refl

      go : (t : Bool) → (eqb (length (pieces text)) (w.commas + 1) && all (is_number w.digits) (pieces text)) ≡ t
          → verdict w w.commas true (size - length rest) (pieces text)
          ≡ brief size (judged_line w.line (line_with word w) rest (numbers_of (line_with word w) text))
      go true e = rw e (allowed (all (within w.low w.high) (map number_of (pieces text))) refl)
      go false e = rw e

  -- the machine over a text, from some letters of the word on, comes to what the layout says of the rest of the text
  Reads : List ℕ → List ℕ → List ℕ → List ℕ → Type 0
  Reads pre ks rest text =
      closed_of w (steps_of w word (Letters (length pre)) text) (size - length rest)
      ≡ brief size (judged_line w.line (line_with word w) rest (form_after (line_with word w) (ks ++ 61 ∷ []) text))

  reads_end : (pre ks rest : List ℕ) → Reads pre ks rest []
  unfolding Reads
  reads_end pre [] rest = refl
  reads_end pre (k ∷ ks) rest = refl

  reads_equals : (pre rest : List ℕ) (c : ℕ) (text : List ℕ) → word ≡ pre ++ [] → Reads pre [] rest (c ∷ text)
  unfolding Reads
  reads_equals pre rest c text e = go (class_of c) refl (means c)
    where
      bad : Bad ≡ in_word w word (length pre) c (class_of c) → (c ≡ 61 → ⊥) → Reads pre [] rest (c ∷ text)
      bad b z = closed_bad w word _ text (size - length rest) b ∙ rw (ne_eqb c 61 z)

      go : (k : bytes.Class) → class_of c ≡ k → Means (class_of c) c → Reads pre [] rest (c ∷ text)
      go bytes.equals f m =
          let r = rw f at m in
          ap (λ (k : bytes.Class). closed_of w (steps_of w word (in_word w word (length pre) c k) text) (size - length rest)) f
          ∙ (ap (λ (s : State). closed_of w (steps_of w word s text) (size - length rest))
          (sym (open_right w word (length pre) (sym (ap length (e ∙ append-nil pre)))))
          ∙ (unfold Law in numbers_law w word limit text w.commas true [] (size - length rest) (none refl) (omega arith)
          ∙ (ap (verdict w w.commas true (size - length rest)) (first_none text) ∙ (verdict-form text rest ∙ rw (eq-eqb c 61 r)))))
      go bytes.letter f m =
          let r = rw f at m in
          bad (rw f (letter_past word (length pre) c (omega (arith, ap length (e ∙ append-nil pre))))) (λ z. omega arith)
      go bytes.digit f m = let r = rw f at m in bad (rw f) (λ z. omega arith)
      go bytes.comma f m = let r = rw f at m in bad (rw f) (λ z. omega arith)
      go bytes.line_end f m = let r = rw f at m in bad (rw f) (λ z. omega arith)
      go bytes.other f m = let r = rw f at m in bad (rw f) r.2

  reads_letter : (pre ks rest : List ℕ) (k c : ℕ) (text : List ℕ) → word ≡ pre ++ k ∷ ks → is_letter k ≡ true
      → Reads (pre ++ k ∷ []) ks rest text → Reads pre (k ∷ ks) rest (c ∷ text)
  unfolding Reads
  reads_letter pre ks rest k c text e l ih = same (eqb c k) refl
    where
      place : length pre < length word
      place = omega (arith, ap length e, length-append pre (k ∷ ks))

      at : get_or word (length pre) 0 ≡ k
      at = ap (λ (xs : List ℕ). get_or xs (length pre) 0) e ∙ get_or-append_seam pre k ks 0

      bad : Bad ≡ in_word w word (length pre) c (class_of c) → eqb c k ≡ false → Reads pre (k ∷ ks) rest (c ∷ text)
      bad b z = closed_bad w word _ text (size - length rest) b ∙ rw z

      other : (x : bytes.Class) → class_of c ≡ x → eqb c k ≡ false → Reads pre (k ∷ ks) rest (c ∷ text)
      other bytes.letter f z = bad (rw f (letter_wrong word (length pre) c place (λ y. eqb-false c k z (y ∙ at)))) z
      other bytes.equals f z = bad (rw f (open_wrong w word (length pre) (λ y. omega (arith, place)))) z
      other bytes.digit f z = bad (rw f) z
      other bytes.comma f z = bad (rw f) z
      other bytes.line_end f z = bad (rw f) z
      other bytes.other f z = bad (rw f) z

      same : (t : Bool) → eqb c k ≡ t → Reads pre (k ∷ ks) rest (c ∷ text)
      same true z =
          let y = eqb-true c k z in
          let r = between_holds 97 122 k l in
          ap (λ (x : bytes.Class). closed_of w (steps_of w word (in_word w word (length pre) c x) text) (size - length rest))
          (class_letter c (omega arith) (omega arith))
          ∙ (ap (λ (s : State). closed_of w (steps_of w word s text) (size - length rest)) (sym (letter-right word (length pre) c place (y ∙ sym at)))
          ∙ (ap (λ (n : ℕ). closed_of w (steps_of w word (Letters n) text) (size - length rest)) (sym (length-append pre (k ∷ [])))
          ∙ (ih ∙ rw z)))
      same false z = other (class_of c) refl z

  word_law : (text pre ks rest : List ℕ) → word ≡ pre ++ ks → all is_letter ks ≡ true → Reads pre ks rest text
  word_law [] pre ks rest e l = reads_end pre ks rest
  word_law (c ∷ text) pre [] rest e l = reads_equals pre rest c text e
  word_law (c ∷ text) pre (k ∷ ks) rest e l =
      let r = both (is_letter k) (all is_letter ks) l in
      reads_letter pre ks rest k c text e r.0
      (word_law text (pre ++ k ∷ []) ks rest (e ∙ sym (append_assoc pre (k ∷ []) ks)) r.1)

  -- the machine's run over bytes of which there are some comes to what the layout says of them
  pub run_line : (b : ℕ) (s : List ℕ) → all is_letter word ≡ true
      → run_of size w word (Letters 0) (b ∷ s) ≡ brief size (line_at w.line (line_with word w) (b ∷ s))
  unfolding line_at
  run_line b s l = ran w word size (Letters 0) (b ∷ s) ∙ go (first_line (b ∷ s)) (some_cut (eqb b 10) (first_line s))
    where
      Some : Cut → Type 0
      Some (ended text rest) = Unit {0}
      Some (unended []) = ⊥
      Some (unended (c ∷ text)) = Unit {0}

      some_cut : (t : Bool) (cut : Cut) → Some (choose t (ended [] s) (longer b cut))
      some_cut true cut = tt
      some_cut false (ended text rest) = tt
      some_cut false (unended text) = tt

      go : (cut : Cut) → Some cut → on_cut w word size (Letters 0) cut ≡ brief size (outcome w.line (line_with word w) cut)
      go (ended text rest) y = unfold Reads form in word_law text [] word rest refl l
      go (unended []) y = absurd y
      go (unended (c ∷ text)) y = refl
