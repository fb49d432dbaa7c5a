-- What the answer to a line tells of the bytes: what the layout finds there (`told-refused`, `told-found`), and so the answer of a reader that goes on
-- from it. Assumes nothing.
use mathlib.Core.Path.{◌≡◌, refl, sym, ap, subst, ◌∙◌}
use mathlib.Core.Bool.{true}
use mathlib.Core.List.{List, [], ◌∷◌, ◌++◌, append_assoc}
use Prim.Native.Nat.{ℕ, ◌-◌, ◌≤◌}
use native.Mathlib.Omega.{arith}
use lib.ListN.{length, take, drop, length-append, take-append-drop}
use lib.Seq.{drop-append_seam}
use Rattle.std.specs.Prelude.{Result, Ok, Err}
use Rattle.refusals.specs.Said.{number_of}
use Rattle.layout.specs.Bytes.{within}
use Rattle.layout.specs.Number.{all}
use Rattle.layout.specs.Line.{Outcome, fault, found, line_at}
use Rattle.layout.specs.Line as layout
use Rattle.layout.specs.Reading.{Reading, refused_at, reading_then, only}
use Rattle.layout.proofs.Tests.{both, between_holds}
use Rattle.layout.proofs.Lines.{found_good}
use Rattle.file_line.specs.declared.line.Wanted.{Wanted}
use Rattle.file_line.specs.declared.line.Found.{Found}
use Rattle.file_line.specs.declared.line.Fault.{Fault}
use Rattle.file_line.specs.OneLine.{line_wanted, stopped, went, brief, said}

-- the bytes that are left start where the next line does
drop-end : (xs ys : List ℕ) → drop (length (xs ++ ys) - length ys) (xs ++ ys) ≡ ys
drop-end xs ys =
    let n : length (xs ++ ys) - length ys ≡ length xs = omega (arith, length-append xs ys) in
    ap (λ (k : ℕ). drop k (xs ++ ys)) n ∙ drop-append_seam xs ys

rest_there : (bytes : List ℕ) (at n : ℕ) (line : layout.Line) (ns rest : List ℕ) → line_at n line (drop at bytes) ≡ found ns rest
    → drop (length bytes - length rest) bytes ≡ rest
rest_there bytes at n line ns rest e =
    let g = found_good n line (drop at bytes) ns rest e in
    let text = (line.word ++ 61 ∷ []) ++ g.text in
    let there : (text ++ 10 ∷ []) ++ rest ≡ drop at bytes = append_assoc text (10 ∷ []) rest ∙ sym g.bytes in
    let whole : (take at bytes ++ (text ++ 10 ∷ [])) ++ rest ≡ bytes =
    append_assoc (take at bytes) (text ++ 10 ∷ []) rest
    ∙ (ap (λ (s : List ℕ). take at bytes ++ s) there ∙ take-append-drop at bytes) in
    subst (λ (xs : List ℕ). drop (length xs - length rest) xs ≡ rest) whole (drop-end (take at bytes ++ (text ++ 10 ∷ [])) rest)

module _ (bytes : List ℕ) (at n : ℕ) (line : layout.Line) (r : Result Found Fault)
    (says : said r ≡ brief (length bytes) (line_at n line (drop at bytes))) where
  pub told-refused : {x : Fault} → r ≡ Err x → line_at n line (drop at bytes) ≡ fault (number_of x.refusal) x.line
  told-refused {x} e = go (line_at n line (drop at bytes)) (sym says ∙ ap said e)
    where
      go : (o : Outcome) → brief (length bytes) o ≡ stopped (number_of x.refusal) x.line → o ≡ fault (number_of x.refusal) x.line
      go (fault a b) f = cc
      go (found ns rest) f = absurd (let z : ◌≡◌ {A = ℕ} 0 1 = cc in omega arith)

  pub told-found : {x : Found} → r ≡ Ok x
      → (ns : List ℕ) × (line_at n line (drop at bytes) ≡ found ns (drop x.next bytes)) × (only ns ≡ x.last)
  told-found {x} e = go (line_at n line (drop at bytes)) refl (sym says ∙ ap said e)
    where
      go : (o : Outcome) → line_at n line (drop at bytes) ≡ o → brief (length bytes) o ≡ went x.last x.next
          → (ns : List ℕ) × (line_at n line (drop at bytes) ≡ found ns (drop x.next bytes)) × (only ns ≡ x.last)
      go (fault a b) f g = absurd (let z : ◌≡◌ {A = ℕ} 0 1 = cc in omega arith)
      go (found ns rest) f g =
          let p : length bytes - length rest ≡ x.next = cc in
          (ns, f ∙ ap (found ns) (sym (rest_there bytes at n line ns rest f) ∙ ap (λ (k : ℕ). drop k bytes) p), cc)

  -- the answer that goes on from the line
  pub then_refused : {x : Fault} (next : List ℕ → List ℕ → Reading) → r ≡ Err x
      → refused_at (number_of x.refusal) x.line ≡ reading_then (line_at n line (drop at bytes)) next
  then_refused next e = rw (told-refused e)

  pub then_found : {x : Found} {reading : Reading} (next : ℕ → List ℕ → Reading) → r ≡ Ok x → reading ≡ next x.last (drop x.next bytes)
      → reading ≡ reading_then (line_at n line (drop at bytes)) (λ ns rest. next (only ns) rest)
  then_found next e f = let t = told-found e in rw (t.1, t.2) f

only_high : (low high : ℕ) (ns : List ℕ) → all (within low high) ns ≡ true → only ns ≤ high
only_high low high [] h = omega arith
only_high low high (n ∷ []) h = (between_holds low high n (both (within low high n) true h).0).1
only_high low high (n ∷ m ∷ ns) h = only_high low high (m ∷ ns) (both (within low high n) (all (within low high) (m ∷ ns)) h).1

-- a number that is found is not above the greatest that is wanted
pub last_high : (n : ℕ) (w : Wanted) (s ns rest : List ℕ) → line_at n (line_wanted w) s ≡ found ns rest → only ns ≤ w.high
last_high n w s ns rest e = only_high w.low w.high ns (found_good n (line_wanted w) s ns rest e).allowed
