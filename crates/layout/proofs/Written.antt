-- Lines found and lines written are the same: a line that is found is `line_of` of its numbers, and `line_of` of allowed numbers is found.
-- Between commas stand the parts, and joined by commas they are the text again. Assumes nothing.
use mathlib.Core.Path.{◌≡◌, refl, sym, ap, ap₂, subst, ◌∙◌}
use mathlib.Core.Bool.{Bool, true, false, not}
use mathlib.Core.List.{List, [], ◌∷◌, ◌++◌, map, append_assoc}
use Prim.Native.Nat.{ℕ, zero, suc, ◌*◌, ◌≤◌}
use native.Mathlib.Omega.{arith}
use lib.ListN.{length, take, drop, length-map, length-drop, take-append-drop}
use lib.Seq.{take_at, drop_at, length-take-le}
use lib.Dec.{eqb}
use borrow.Author.Tests.{eq-eqb, ne_eqb, eqb-true, not-true}
use Rattle.layout.specs.Bytes.{ended, longer, first_line, pieces, widen, is_digit, is_letter}
use Rattle.layout.specs.Number.{all, is_number, number_of, decimal}
use Rattle.layout.specs.Line.{Line, numbers, numbers_of, form_after, form, Outcome, found, judged_line, outcome, line_at, and_then, before}
use Rattle.layout.specs.Reading.{lines_at}
use Rattle.layout.specs.File.{list, line_of, lines_of}
use Rattle.layout.proofs.Tests.{both, between_holds}
use Rattle.layout.proofs.Numbers.{pieces_some, all_append}
use Rattle.layout.proofs.Lines.{found_good, lines_induction}
use Rattle.layout.proofs.Answers.{found_count}
use Rattle.layout.proofs.Decimal.{number_decimal, decimal-value, decimal-digits, decimal_number}

-- parts joined by commas
abbrev join : List (List ℕ) → List ℕ
join [] = []
join (p ∷ []) = p
join (p ∷ q ∷ ps) = p ++ 44 ∷ join (q ∷ ps)

list-join : (ns : List ℕ) → list ns ≡ join (map decimal ns)
list-join [] = refl
list-join (n ∷ []) = refl
list-join (n ∷ m ∷ ns) = ap (λ (t : List ℕ). decimal n ++ 44 ∷ t) (list-join (m ∷ ns))

join-widen : (b : ℕ) (ps : List (List ℕ)) → join (widen b ps) ≡ b ∷ join ps
join-widen b [] = refl
join-widen b (p ∷ []) = refl
join-widen b (p ∷ q ∷ ps) = refl

join-pieces : (text : List ℕ) → join (pieces text) ≡ text
join-pieces [] = refl
join-pieces (b ∷ text) = go (eqb b 44) refl (pieces_some text) (join-pieces text)
  where
    go : (t : Bool) → eqb b 44 ≡ t → ((p : List ℕ) × (ps : List (List ℕ)) × (pieces text ≡ p ∷ ps)) → join (pieces text) ≡ text
        → join (pieces (b ∷ text)) ≡ b ∷ text
    go true e s ih =
        let z = eqb-true b 44 e in
        rw e
        (ap (λ (ps : List (List ℕ)). join ([] ∷ ps)) s.2
        ∙ (ap (λ (ps : List (List ℕ)). 44 ∷ join ps) (sym s.2) ∙ (ap (λ (t : List ℕ). 44 ∷ t) ih ∙ ap (λ (c : ℕ). c ∷ text) (sym z))))
    go false e s ih = rw e (join-widen b (pieces text) ∙ ap (λ (t : List ℕ). b ∷ t) ih)

values_decimal : (most : ℕ) (ps : List (List ℕ)) → all (is_number most) ps ≡ true → map decimal (map number_of ps) ≡ ps
values_decimal most [] h = refl
values_decimal most (p ∷ ps) h =
    let r = both (is_number most p) (all (is_number most) ps) h in
    ap₂ (λ (q : List ℕ) (qs : List (List ℕ)). q ∷ qs) (sym (number_decimal most p r.0).0) (values_decimal most ps r.1)

-- a line's bytes, put together in two ways
shape : (word text rest : List ℕ) → (word ++ 61 ∷ []) ++ text ++ 10 ∷ rest ≡ (word ++ 61 ∷ (text ++ 10 ∷ [])) ++ rest
shape word text rest = simp append_assoc

-- a line that is found is the line of its numbers
pub found-written : (n : ℕ) (line : Line) (s ns rest : List ℕ) → line_at n line s ≡ found ns rest → s ≡ line_of line ns ++ rest
found-written n line s ns rest e =
    let g = found_good n line s ns rest e in
    let t = g.text in
    let w : t ≡ list ns =
    sym (join-pieces t)
    ∙ (ap join (sym (values_decimal line.most (pieces t) g.parted.each))
    ∙ (sym (list-join (map number_of (pieces t))) ∙ ap list (sym g.parted.values))) in
    g.bytes ∙ (ap (λ (x : List ℕ). (line.word ++ 61 ∷ []) ++ x ++ 10 ∷ rest) w ∙ shape line.word (list ns) rest)

-- numbers that have at most so many digits
abbrev pub Fit : ℕ → List ℕ → Type 0
Fit most [] = Unit {0}
Fit most (n ∷ ns) = (length (decimal n) ≤ most) × Fit most ns

-- the numbers of a found line have no more digits than they may
values_fit : (most : ℕ) (ps : List (List ℕ)) → all (is_number most) ps ≡ true → Fit most (map number_of ps)
values_fit most [] h = tt
values_fit most (p ∷ ps) h =
    let r = both (is_number most p) (all (is_number most) ps) h in
    let d = number_decimal most p r.0 in
    (subst (λ (q : List ℕ). length q ≤ most) d.0 d.1, values_fit most ps r.1)

pub found-fit : (n : ℕ) (line : Line) (s ns rest : List ℕ) → line_at n line s ≡ found ns rest → Fit line.most ns
found-fit n line s ns rest e =
    let g = found_good n line s ns rest e in
    subst (Fit line.most) (sym g.parted.values) (values_fit line.most (pieces g.text) g.parted.each)

pub found_allowed : (n : ℕ) (line : Line) (s ns rest : List ℕ) → line_at n line s ≡ found ns rest → all line.allowed ns ≡ true
found_allowed n line s ns rest e = (found_good n line s ns rest e).allowed

-- the parts of written numbers are their digits
digit-not-comma : (b : ℕ) → is_digit b ≡ true → eqb b 44 ≡ false
digit-not-comma b h = let r = between_holds 48 57 b h in ne_eqb b 44 (λ e. omega arith)

part_end : (p : List ℕ) → all is_digit p ≡ true → pieces p ≡ p ∷ []
part_end [] h = refl
part_end (b ∷ p) h =
    let r = both (is_digit b) (all is_digit p) h in
    rw (digit-not-comma b r.0) (ap (widen b) (part_end p r.1))

part_comma : (p text : List ℕ) → all is_digit p ≡ true → pieces (p ++ 44 ∷ text) ≡ p ∷ pieces text
part_comma [] text h = refl
part_comma (b ∷ p) text h =
    let r = both (is_digit b) (all is_digit p) h in
    rw (digit-not-comma b r.0) (ap (widen b) (part_comma p text r.1))

pieces-list : (n : ℕ) (ns : List ℕ) → pieces (list (n ∷ ns)) ≡ map decimal (n ∷ ns)
pieces-list n [] = part_end (decimal n) (decimal-digits n)
pieces-list n (m ∷ ns) =
    part_comma (decimal n) (list (m ∷ ns)) (decimal-digits n) ∙ ap (λ (ps : List (List ℕ)). decimal n ∷ ps) (pieces-list m ns)

fit-numbers : (most : ℕ) (ns : List ℕ) → Fit most ns → all (is_number most) (map decimal ns) ≡ true
fit-numbers most [] f = refl
fit-numbers most (n ∷ ns) f = rw (decimal_number most n f.0) (fit-numbers most ns f.1)

decimal_values : (ns : List ℕ) → map number_of (map decimal ns) ≡ ns
decimal_values [] = refl
decimal_values (n ∷ ns) = ap₂ (λ (m : ℕ) (ms : List ℕ). m ∷ ms) (decimal-value n) (decimal_values ns)

numbers-list : (line : Line) (n : ℕ) (ns : List ℕ) → length (n ∷ ns) ≡ line.count → Fit line.most (n ∷ ns) → numbers_of line (list (n ∷ ns)) ≡ numbers (n ∷ ns)
unfolding numbers_of
numbers-list line n ns c f =
    let ms = n ∷ ns in
    let l : eqb (length (map decimal ms)) line.count ≡ true = eq-eqb (length (map decimal ms)) line.count (length-map ms decimal ∙ c) in
    rw (pieces-list n ns, l, fit-numbers line.most ms f) (ap numbers (decimal_values ms))

-- bytes without a line end before a line end
abbrev no_end : List ℕ → Bool
no_end text = all (λ b. not (eqb b 10)) text

first_line_lem : (text rest : List ℕ) → no_end text ≡ true → first_line (text ++ 10 ∷ rest) ≡ ended text rest
first_line_lem [] rest h = refl
first_line_lem (b ∷ text) rest h =
    let r = both (not (eqb b 10)) (no_end text) h in
    rw (not-true (eqb b 10) r.0) (ap (longer b) (first_line_lem text rest r.1))

form_beginning : (line : Line) (beginning text : List ℕ) → form_after line beginning (beginning ++ text) ≡ numbers_of line text
form_beginning line [] text = refl
form_beginning line (b ∷ beginning) text = rw (eq-eqb b b refl) (form_beginning line beginning text)

letters-no_end : (word : List ℕ) → all is_letter word ≡ true → no_end word ≡ true
letters-no_end [] h = refl
letters-no_end (b ∷ word) h =
    let r = both (is_letter b) (all is_letter word) h in
    let l = between_holds 97 122 b r.0 in
    rw (ne_eqb b 10 (λ e. omega arith)) (letters-no_end word r.1)

digits-no_end : (ds : List ℕ) → all is_digit ds ≡ true → no_end ds ≡ true
digits-no_end [] h = refl
digits-no_end (b ∷ ds) h =
    let r = both (is_digit b) (all is_digit ds) h in
    let l = between_holds 48 57 b r.0 in
    rw (ne_eqb b 10 (λ e. omega arith)) (digits-no_end ds r.1)

list-no_end : (ns : List ℕ) → no_end (list ns) ≡ true
list-no_end [] = refl
list-no_end (n ∷ []) = digits-no_end (decimal n) (decimal-digits n)
list-no_end (n ∷ m ∷ ns) =
    all_append (λ b. not (eqb b 10)) (decimal n) (44 ∷ list (m ∷ ns))
    ∙ rw (digits-no_end (decimal n) (decimal-digits n)) (list-no_end (m ∷ ns))

-- a line of allowed numbers, as many as must be, is found
pub written-found : (at : ℕ) (line : Line) (n : ℕ) (ns rest : List ℕ) → all is_letter line.word ≡ true → length (n ∷ ns) ≡ line.count → Fit line.most (n ∷ ns)
    → all line.allowed (n ∷ ns) ≡ true → line_at at line (line_of line (n ∷ ns) ++ rest) ≡ found (n ∷ ns) rest
unfolding line_at form
written-found at line n ns rest w c f a =
    let text = (line.word ++ 61 ∷ []) ++ list (n ∷ ns) in
    let quiet : no_end text ≡ true =
    all_append (λ b. not (eqb b 10)) (line.word ++ 61 ∷ []) (list (n ∷ ns))
    ∙ rw (all_append (λ b. not (eqb b 10)) line.word (61 ∷ []), letters-no_end line.word w) (list-no_end (n ∷ ns)) in
    ap (line_at at line) (sym (shape line.word (list (n ∷ ns)) rest))
    ∙ (ap (outcome at line) (first_line_lem text rest quiet)
    ∙ (ap (judged_line at line rest) (form_beginning line (line.word ++ 61 ∷ []) (list (n ∷ ns)) ∙ numbers-list line n ns c f) ∙ rw a))

written_some : (at : ℕ) (line : Line) (ns rest : List ℕ) → all is_letter line.word ≡ true → 1 ≤ length ns → length ns ≡ line.count → Fit line.most ns
    → all line.allowed ns ≡ true → line_at at line (line_of line ns ++ rest) ≡ found ns rest
written_some at line [] rest w l c f a = absurd (omega arith)
written_some at line (n ∷ ns) rest w l c f a = written-found at line n ns rest w c f a

-- the same for several lines
one_more : (line : Line) (m : ℕ) (ns ms : List ℕ) → length ns ≡ line.count → lines_of (suc m) line (ns ++ ms) ≡ line_of line ns ++ lines_of m line ms
one_more line m ns ms h =
    ap₂ (λ (a b : List ℕ). line_of line a ++ lines_of m line b) (take_at ns ms line.count h) (drop_at ns ms line.count h)

pub lines_written : (m n : ℕ) (line : Line) (s cs rest : List ℕ) → lines_at n m line s ≡ found cs rest → s ≡ lines_of m line cs ++ rest
lines_written m n line s cs rest e =
    lines_induction line rest (λ m s cs. s ≡ lines_of m line cs ++ rest) refl
    (λ m n s ns s' ms f h.
    found-written n line s ns s' f
    ∙ (ap (λ (x : List ℕ). line_of line ns ++ x) h
    ∙ (sym (append_assoc (line_of line ns) (lines_of m line ms) rest)
    ∙ ap (λ (x : List ℕ). x ++ rest) (sym (one_more line m ns ms (found_count n line s ns s' f))))))
    m n s cs e

pub lines_allowed : (m n : ℕ) (line : Line) (s cs rest : List ℕ) → lines_at n m line s ≡ found cs rest → all line.allowed cs ≡ true
lines_allowed m n line s cs rest e =
    lines_induction line rest (λ m s cs. all line.allowed cs ≡ true) refl
    (λ m n s ns s' ms f h. all_append line.allowed ns ms ∙ rw (found_allowed n line s ns s' f) h)
    m n s cs e

fit_append : (most : ℕ) (ns ms : List ℕ) → Fit most ns → Fit most ms → Fit most (ns ++ ms)
fit_append most [] ms f g = g
fit_append most (n ∷ ns) ms f g = (f.0, fit_append most ns ms f.1 g)

pub lines_fit : (m n : ℕ) (line : Line) (s cs rest : List ℕ) → lines_at n m line s ≡ found cs rest → Fit line.most cs
lines_fit m n line s cs rest e =
    lines_induction line rest (λ m s cs. Fit line.most cs) tt
    (λ m n s ns s' ms f h. fit_append line.most ns ms (found-fit n line s ns s' f) h)
    m n s cs e

-- and the other way round
fit-take : (most k : ℕ) (ns : List ℕ) → Fit most ns → Fit most (take k ns)
fit-take most zero ns f = tt
fit-take most (suc k) [] f = tt
fit-take most (suc k) (n ∷ ns) f = (f.0, fit-take most k ns f.1)

fit-drop : (most k : ℕ) (ns : List ℕ) → Fit most ns → Fit most (drop k ns)
fit-drop most zero ns f = f
fit-drop most (suc k) [] f = tt
fit-drop most (suc k) (n ∷ ns) f = fit-drop most k ns f.1

all_take_drop : (test : ℕ → Bool) (k : ℕ) (ns : List ℕ) → all test ns ≡ true → (all test (take k ns) ≡ true) × (all test (drop k ns) ≡ true)
all_take_drop test k ns h =
    both (all test (take k ns)) (all test (drop k ns))
    (sym (all_append test (take k ns) (drop k ns)) ∙ (ap (all test) (take-append-drop k ns) ∙ h))

pub written_lines : (m at : ℕ) (line : Line) (cs rest : List ℕ) → all is_letter line.word ≡ true → 1 ≤ line.count → length cs ≡ m * line.count
    → Fit line.most cs
    → all line.allowed cs ≡ true → lines_at at m line (lines_of m line cs ++ rest) ≡ found cs rest
unfolding lines_at
written_lines zero at line [] rest w k c f a = refl
written_lines zero at line (n ∷ cs) rest w k c f a = absurd (omega (arith, c))
written_lines (suc m) at line cs rest w k c f a =
    let ns = take line.count cs in
    let ms = drop line.count cs in
    let l : length ns ≡ line.count = length-take-le line.count cs (omega (arith, c)) in
    let j : length ms ≡ m * line.count = length-drop line.count cs ∙ omega (arith, c) in
    let t = all_take_drop line.allowed line.count cs a in
    let one : line_at at line (line_of line ns ++ (lines_of m line ms ++ rest)) ≡ found ns (lines_of m line ms ++ rest) =
    written_some at line ns (lines_of m line ms ++ rest) w (omega arith) l (fit-take line.most line.count cs f) t.0 in
    ap (λ (x : List ℕ). and_then (line_at at line x) (λ y. lines_at (suc at) m line y)) (append_assoc (line_of line ns) (lines_of m line ms) rest)
    ∙ (ap (λ (o : Outcome). and_then o (λ y. lines_at (suc at) m line y)) one
    ∙ (ap (before ns) (written_lines m (suc at) line ms rest w k j (fit-drop line.most line.count cs f) t.1)
    ∙ ap (λ (x : List ℕ). found x rest) (take-append-drop line.count cs)))
