-- From line to line: each part of the layout's answer by the line that the code asks for. Assumes nothing.
use mathlib.Core.Path.{◌≡◌, refl, sym, ap, ◌∙◌}
use mathlib.Core.List.{List, [], ◌∷◌}
use Prim.Native.Nat.{ℕ, suc, ◌+◌, ◌-◌, ◌*◌, ◌≤◌, ◌<◌}
use native.Mathlib.Omega.{arith}
use native.Mathlib.Numerals.{add-one}
use lib.ListN.{length, take}
use lib.Seq.{take_at}
use borrow.Author.Tests.{lt-ltb, le-ltb}
use Rattle.refusals.specs.Limits.{max_vars, max_degree, max_file}
use Rattle.layout.specs.Line.{Outcome, fault, found, line_at, before, and_then}
use Rattle.layout.specs.Line as layout
use Rattle.layout.specs.Reading.{file, refused_at, reading_then, only, lines_at, reading, from_after, from_end, from_rounds, from_claim, from_degree, from_vars}
use Rattle.layout.specs.Reading.{from_field, from_edition, edition_line, field_line, vars_line, degree_line, claim_line, round_line, end_line}
use Rattle.layout.proofs.Answers.{found_count}
use Rattle.file_line.specs.declared.line.Word.TheVariants.{Sumproof, Field, Vars, Degree, Claim, Round, End}
use Rattle.file_line.specs.declared.line.Wanted.{Wanted}
use Rattle.file_line.specs.OneLine.{line_wanted}
use Rattle.file_line.proofs.Asked.{between-exact, between_upto, between-below, allowed_same}
use Rattle.narrow_field.specs.Narrow.{p}
use Rattle.narrow_file.specs.Narrow.{narrow}
use Rattle.narrow_file.specs.Passes.{one_number, lasts, bare, collect}
use Rattle.narrow_file.proofs.Collect.{lines_collected}

-- a line with one number has its last number alone
pub one_last : (n : ℕ) (line : layout.Line) (s : List ℕ) → line.count ≡ 1 → lasts (line_at n line s) ≡ line_at n line s
one_last n line s h = go (line_at n line s) refl
  where
    alone : (ns : List ℕ) → length ns ≡ 1 → only ns ∷ [] ≡ ns
    alone [] e = absurd (omega arith)
    alone (x ∷ []) e = refl
    alone (x ∷ y ∷ ns) e = absurd (omega arith)

    go : (o : Outcome) → line_at n line s ≡ o → lasts o ≡ o
    go (fault a b) e = refl
    go (found ns rest) e = ap (λ (xs : List ℕ). found xs rest) (alone ns (found_count n line s ns rest e ∙ h))

-- what the code wants of a round
abbrev pub round_wanted : ℕ → ℕ → Wanted
round_wanted n degree = record { word = Round; line = n; commas = degree; digits = 10; low = 0; high = p - 1 }

-- the lines of the layout, as the code asks for them
pub edition_line_lem : line_wanted (one_number Sumproof 1 1 1) ≡ edition_line narrow
edition_line_lem = allowed_same _ _ _ _ _ (between-exact 1)

pub field_line_lem : line_wanted (one_number Field 2 p p) ≡ field_line narrow
field_line_lem = allowed_same _ _ _ _ _ (between-exact p)

pub vars_line_lem : line_wanted (one_number Vars 3 0 max_vars) ≡ vars_line narrow
vars_line_lem = allowed_same _ _ _ _ _ (between_upto max_vars)

pub degree_line_lem : line_wanted (one_number Degree 4 1 max_degree) ≡ degree_line narrow
degree_line_lem = refl

pub claim_line_lem : line_wanted (one_number Claim 5 0 (p - 1)) ≡ claim_line narrow
claim_line_lem = allowed_same _ _ _ _ _ (λ n. between-below (p - 1) p n refl)

pub round_line_lem : (n degree : ℕ) → line_wanted (round_wanted n degree) ≡ round_line narrow degree
round_line_lem n degree = allowed_same _ _ _ _ _ (λ m. between-below (p - 1) p m refl)

pub end_line_lem : (n vars : ℕ) → line_wanted (one_number End n vars vars) ≡ end_line narrow vars
end_line_lem n vars = allowed_same _ _ _ _ _ (between-exact vars)

-- the answer from each line on, by the line that the code asks for
pub reading_long : (bytes : List ℕ) → max_file < length bytes → reading narrow bytes ≡ refused_at 9 0
unfolding reading
reading_long bytes h = rw (lt-ltb max_file (length bytes) h)

pub reading_short : (bytes : List ℕ) → length bytes ≤ max_file → reading narrow bytes ≡ from_edition narrow bytes
unfolding reading
reading_short bytes h = rw (le-ltb max_file (length bytes) h)

pub edition_read : (s : List ℕ) → from_edition narrow s
    ≡ reading_then (line_at 1 (line_wanted (one_number Sumproof 1 1 1)) s) (λ ns rest. from_field narrow rest)
unfolding from_edition
edition_read s = ap (λ (line : layout.Line). reading_then (line_at 1 line s) (λ ns rest. from_field narrow rest)) (sym edition_line_lem)

pub field_read : (s : List ℕ) → from_field narrow s ≡ reading_then (line_at 2 (line_wanted (one_number Field 2 p p)) s) (λ ns rest. from_vars narrow rest)
unfolding from_field
field_read s = ap (λ (line : layout.Line). reading_then (line_at 2 line s) (λ ns rest. from_vars narrow rest)) (sym field_line_lem)

pub vars_read : (s : List ℕ) → from_vars narrow s
    ≡ reading_then (line_at 3 (line_wanted (one_number Vars 3 0 max_vars)) s) (λ ns rest. from_degree narrow (only ns) rest)
unfolding from_vars
vars_read s = ap (λ (line : layout.Line). reading_then (line_at 3 line s) (λ ns rest. from_degree narrow (only ns) rest)) (sym vars_line_lem)

pub degree_read : (v : ℕ) (s : List ℕ) → from_degree narrow v s
    ≡ reading_then (line_at 4 (line_wanted (one_number Degree 4 1 max_degree)) s) (λ ns rest. from_claim narrow v (only ns) rest)
unfolding from_degree
degree_read v s = refl

pub claim_read : (v d : ℕ) (s : List ℕ) → from_claim narrow v d s
    ≡ reading_then (line_at 5 (line_wanted (one_number Claim 5 0 (p - 1))) s) (λ ns rest. from_rounds narrow v d (only ns) rest)
unfolding from_claim
claim_read v d s = ap (λ (line : layout.Line). reading_then (line_at 5 line s) (λ ns rest. from_rounds narrow v d (only ns) rest)) (sym claim_line_lem)

-- the numbers of the rounds are those that stand in the bytes from the first round on
pub rounds_read : (v d c : ℕ) (s : List ℕ) → from_rounds narrow v d c s
    ≡ reading_then (bare (lines_at 6 v (round_line narrow d) s)) (λ ns rest. from_end narrow v d c (take (v * (d + 1)) (collect 0 s)) rest)
unfolding from_rounds
rounds_read v d c s = go (lines_at 6 v (round_line narrow d) s) refl
  where
    go : (o : Outcome) → lines_at 6 v (round_line narrow d) s ≡ o → reading_then o (λ cs rest. from_end narrow v d c cs rest)
        ≡ reading_then (bare o) (λ ns rest. from_end narrow v d c (take (v * (d + 1)) (collect 0 s)) rest)
    go (fault a b) e = refl
    go (found cs rest) e =
        let k = lines_collected v 6 d s cs rest e in
        ap (λ (xs : List ℕ). from_end narrow v d c xs rest)
        (sym (ap (take (v * (d + 1))) k.0 ∙ take_at cs (collect 0 rest) (v * (d + 1)) k.1))

pub end_read : (v d c : ℕ) (cs s : List ℕ) → from_end narrow v d c cs s
    ≡ reading_then (line_at (v + 6) (line_wanted (one_number End (v + 6) v v)) s) (λ ns rest. from_after v d c cs rest)
unfolding from_end
end_read v d c cs s = ap (λ (line : layout.Line). reading_then (line_at (v + 6) line s) (λ ns rest. from_after v d c cs rest))
    (sym (end_line_lem (v + 6) v))

pub after_some : (v d c : ℕ) (cs s : List ℕ) → (length s ≡ 0 → ⊥) → from_after v d c cs s ≡ refused_at 13 (v + 7)
after_some v d c cs [] h = absurd (h refl)
after_some v d c cs (b ∷ s) h = refl

pub after_none : (v d c : ℕ) (cs s : List ℕ) → length s ≡ 0 → from_after v d c cs s ≡ file v d c cs
after_none v d c cs [] h = refl
after_none v d c cs (b ∷ s) h = absurd (omega arith)

pub ruleset judging =
    (reading_long, reading_short, edition_read, field_read, vars_read, degree_read, claim_read, rounds_read, end_read, after_some, after_none)

-- what comes after a line is looked at only if the line is good
abbrev pub then_rest : Outcome → (List ℕ → Outcome) → Outcome
then_rest (fault number line) next = fault number line
then_rest (found ns rest) next = next rest

bare-before : (ns : List ℕ) (o : Outcome) → bare (before ns o) ≡ bare o
bare-before ns (fault a b) = refl
bare-before ns (found ms rest) = refl

bare_then : (o : Outcome) (next : List ℕ → Outcome) → bare (and_then o next) ≡ then_rest (lasts o) (λ rest. bare (next rest))
bare_then (fault a b) next = refl
bare_then (found ns rest) next = bare-before ns (next rest)

-- the rounds from some line on: one more, or none
pub round_read : (vars degree n : ℕ) (s : List ℕ) → n < vars + 6 → bare (lines_at n (vars + 6 - n) (round_line narrow degree) s)
    ≡ then_rest (lasts (line_at n (line_wanted (round_wanted n degree)) s))
    (λ rest. bare (lines_at (n + 1) (vars + 6 - (n + 1)) (round_line narrow degree) rest))
unfolding lines_at
round_read vars degree n s h =
    let e : vars + 6 - n ≡ suc (vars + 6 - (n + 1)) = omega arith in
    rw (e, round_line_lem n degree, add-one n)
    (bare_then (line_at n (round_line narrow degree) s) (λ rest. lines_at (suc n) (vars + 6 - suc n) (round_line narrow degree) rest))

pub round-none : (vars degree n : ℕ) (s : List ℕ) → vars + 6 ≤ n → bare (lines_at n (vars + 6 - n) (round_line narrow degree) s) ≡ found [] s
unfolding lines_at
round-none vars degree n s h = let e : vars + 6 - n ≡ 0 = omega arith in rw e

pub ruleset rounds = (round_read, round-none)
