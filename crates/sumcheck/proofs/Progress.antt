-- The prover's progress, a round at a time: after j rounds the message list holds the first j true polynomials, and the fronts of scratch's parts are
-- the tables folded by the first j challenges. Assumes nothing.
use mathlib.Core.Path.{◌≡◌, refl, sym, ap, ap₂, ◌∙◌}
use mathlib.Core.List.{List, [], ◌∷◌, ◌++◌, map, append-nil, map-id}
use Prim.Native.Nat.{ℕ, zero, suc, ◌+◌, ◌-◌, ◌*◌, ◌/◌, ◌^◌, ◌≤◌, ◌<◌}
use native.Mathlib.Nat.{sub-zero, two-pow-succ, mul-le-mul_right, pow-le-pow_right, one-le-pow, sub-le}
use native.Mathlib.Numerals.{add-one}
use native.Mathlib.Omega.{arith}
use lib.ListN.{length, take, drop, get_or, length-append, length-take, length-drop, drop_of_length-le}
use lib.Seq.{take-suc, take_all, take-append-le, drop-append-le, drop_at}
use Rattle.polynomial.specs.Elements.{Every}
use Rattle.polynomial.proofs.Lists.{every_take}
use Rattle.sumcheck.specs.TruePolynomial.{true_polynomials}
use Rattle.sumcheck.specs.Lent.{parts, join}
use Rattle.sumcheck.proofs.Folded.{folded}
use Rattle.sumcheck.proofs.FoldedParts.{folded_part, folded_part-length, fronts, fronts_more, round-fronts}
use Rattle.sumcheck.proofs.Messages.{polynomials_count, polynomials_lengths}
use Rattle.sumcheck.proofs.Laid.{laid, laid_none, laid_more, laid-length, parts_lengths, parts_count, changed_length, changed_rest, changed_parts}
use Rattle.sumcheck.proofs.RoundFolded.{round_of, polynomial_folded}
use Rattle.sumcheck.proofs.Soundness.{place}

-- what the entry has seen to
pub record Setting (n count places : ℕ) (tables challenges messages scratch : List ℕ) : Type 0 where
  pub modulus : 0 < n
  pub places_are : places ≡ 2 ^ length challenges
  pub tables_are : length tables ≡ count * places
  pub room : length challenges * (count + 1) ≤ length messages
  pub scratch_room : count * places ≤ length scratch

-- the progress after j rounds
pub record Progress (n count places : ℕ) (tables challenges messages₀ scratch₀ messages scratch : List ℕ) (size j : ℕ) : Type 0 where
  pub turns : j ≤ length challenges
  pub size_is : size ≡ 2 ^ (length challenges - j)
  pub written : messages ≡ laid (count + 1) (take j (true_polynomials n (parts count places tables) challenges)) messages₀
  pub folded_so : fronts size (parts count places scratch) ≡ map (λ (t : List ℕ). folded n t (take j challenges) (length challenges - j))
      (parts count places tables)
  pub behind : drop (count * places) scratch ≡ drop (count * places) scratch₀
  pub long : length scratch ≡ length scratch₀

-- the parts of a list go by its front
parts-front : (c l : ℕ) (xs ys : List ℕ) → c * l ≤ length xs → parts c l (xs ++ ys) ≡ parts c l xs
unfolding parts
parts-front zero l xs ys h = refl
parts-front (suc c) l xs ys h =
    ap₂ {B = List (List ℕ)} (λ (a : List ℕ) (b : List (List ℕ)). a ∷ b) (take-append-le l xs ys (omega arith))
    (ap (parts c l) (drop-append-le l xs ys (omega arith)) ∙ parts-front c l (drop l xs) ys (omega (arith, length-drop l xs)))

-- parts of their own size are their fronts
fronts-whole : (l : ℕ) (us : List (List ℕ)) → Every (λ (u : List ℕ). length u ≡ l) us → fronts l us ≡ us
fronts-whole l [] h = refl
fronts-whole l (u ∷ us) h =
    ap₂ {B = List (List ℕ)} (λ (a : List ℕ) (b : List (List ℕ)). a ∷ b) (take_all l u (omega (arith, h.0))) (fronts-whole l us h.1)

module _ {n count places : ℕ} {tables challenges messages₀ scratch₀ : List ℕ} (s : Setting n count places tables challenges messages₀ scratch₀) where
  -- before the first round
  pub progress_start : {scratch : List ℕ} → scratch ≡ tables ++ drop (length tables) scratch₀
      → Progress n count places tables challenges messages₀ scratch₀ messages₀ scratch places 0
  progress_start e =
      record {
        turns = omega arith;
        size_is = s.places_are ∙ ap (λ (l : ℕ). 2 ^ l) (sym (sub-zero (length challenges)));
        written = sym (laid_none (count + 1) messages₀);
        folded_so =
            ap (λ (xs : List ℕ). fronts places (parts count places xs)) e
            ∙ (ap (fronts places) (parts-front count places tables (drop (length tables) scratch₀) (omega (arith, s.tables_are)))
            ∙ (fronts-whole places (parts count places tables) (parts_lengths count places tables (omega (arith, s.tables_are)))
            ∙ sym (map-id (parts count places tables))));
        behind =
            ap (drop (count * places)) e
            ∙ (drop_at tables (drop (length tables) scratch₀) (count * places) s.tables_are ∙ ap (λ (i : ℕ). drop i scratch₀) s.tables_are);
        long = ap length e ∙ omega (
          arith,
          length-append tables (drop (length tables) scratch₀),
          length-drop
              (length tables) scratch₀,
          s.tables_are,
          s.scratch_room,
        );
      }

  -- a round's lengths: before it size is twice half, and half is 2 to the number of variables behind it
  module _ {messages scratch : List ℕ} {size j : ℕ}
      (w : Progress n count places tables challenges messages₀ scratch₀ messages scratch size j) (l : j < length challenges) where
    -- where its part starts
    abbrev start : ℕ
    start = j * (count + 1)

    abbrev ts : List (List ℕ)
    ts = parts count places tables

    abbrev rest : ℕ
    rest = length challenges - suc j

    left : length challenges - j ≡ suc rest
    left = go (length challenges) j l
      where
        go : (m j : ℕ) → j < m → m - j ≡ suc (m - suc j)
        go m j l = omega arith

    pub half_is : size / 2 ≡ 2 ^ rest
    half_is = omega (arith, w.size_is, ap (λ (k : ℕ). 2 ^ k) left, two-pow-succ rest)

    pub double : size / 2 + size / 2 ≡ size
    double = omega (arith, half_is, w.size_is, ap (λ (k : ℕ). 2 ^ k) left, two-pow-succ rest)

    pub double_places : size / 2 + size / 2 ≤ places
    double_places = omega (
      arith,
      double,
      w.size_is,
      s.places_are,
      pow-le-pow_right {n = 2}
          (omega arith) {i = length challenges - j} {j = length challenges} (sub-le (length challenges) j),
    )

    pub half_some : 0 < size / 2
    half_some = omega (arith, half_is, one-le-pow rest 2 (omega arith))

    -- the round's polynomial is the true one
    pub round-true : round_of n (size / 2) (parts count places scratch) ≡ get_or (true_polynomials n ts challenges) j []
    round-true =
        round-fronts n (size / 2) (parts count places scratch)
        ∙ (ap₂ (λ (h k : ℕ). round_of n h (fronts k (parts count places scratch))) half_is double
        ∙ (ap (round_of n (2 ^ rest)) (w.folded_so ∙ ap (λ (k : ℕ). map (λ (t : List ℕ). folded n t (take j challenges) k) ts) left)
        ∙ (sym (polynomial_folded n s.modulus ts (take j challenges) rest) ∙ sym (place n ts challenges [] j l))))

    -- the polynomials that are written already
    abbrev done : List (List ℕ)
    done = take j (true_polynomials n ts challenges)

    polys_long : Every (λ (q : List ℕ). length q ≡ count + 1) (true_polynomials n ts challenges)
    polys_long = polynomials_lengths n (count + 1) ts (ap suc (parts_count count places tables) ∙ sym (add-one count)) challenges []

    done_long : Every (λ (q : List ℕ). length q ≡ count + 1) done
    done_long = every_take (λ (q : List ℕ). length q ≡ count + 1) j (true_polynomials n ts challenges) polys_long

    done_count : length done ≡ j
    done_count = omega (arith, length-take j (true_polynomials n ts challenges), polynomials_count n ts challenges [])

    done_start : start ≡ length done * (count + 1)
    done_start = ap (λ (k : ℕ). k * (count + 1)) (sym done_count)

    more_room : (j + 1) * (count + 1) ≤ length messages₀
    more_room = omega (arith, mul-le-mul_right {m = j + 1} {n = length challenges} (count + 1) (omega arith), s.room)

    -- the place for it is there
    pub place-room : start + (count + 1) ≤ length messages
    place-room = omega (
      arith,
      more_room,
      ap length w.written,
      laid-length (count + 1) done messages₀ done_long
          (omega (arith, done_start, more_room)),
    )

    -- one polynomial more is written behind the others
    written_so : take start messages ++ ((round_of n (size / 2) (parts count places scratch) ++ drop (count + 1)
        (take (length messages - start) (drop start messages))) ++ drop (length messages - start) (drop start messages))
        ≡ laid (count + 1) (take (j + 1) (true_polynomials n ts challenges)) messages₀
    written_so =
        ap₂ (λ (r e : List ℕ). take start messages ++ ((round_of n (size / 2) (parts count places scratch) ++ drop (count + 1) r) ++ e))
        (take_all (length messages - start) (drop start messages) (omega (arith, length-drop start messages)))
        (drop_of_length-le (drop start messages) {i = length messages - start} (omega (arith, length-drop start messages)))
        ∙ (ap (λ (e : List ℕ). take start messages ++ e)
        (append-nil (round_of n (size / 2) (parts count places scratch) ++ drop (count + 1) (drop start messages)))
        ∙ (ap₂ (λ (i : ℕ) (xs : List ℕ). take i xs ++ (round_of n (size / 2) (parts count places scratch) ++ drop (count + 1) (drop i xs))) done_start w.written
        ∙ (laid_more (count + 1) done messages₀ done_long (round_of n (size / 2) (parts count places scratch))
        ∙ ap (λ (ps : List (List ℕ)). laid (count + 1) ps messages₀)
        (ap (λ (q : List ℕ). done ++ q ∷ []) round-true
        ∙ (sym (take-suc (true_polynomials n ts challenges) j [] (omega (arith, polynomials_count n ts challenges [])))
        ∙ ap (λ (k : ℕ). take k (true_polynomials n ts challenges)) (sym (add-one j)))))))

    keeps : (u : List ℕ) → length u ≡ places → length (folded_part n (get_or challenges j 0) (size / 2) u) ≡ places
    keeps u e = folded_part-length n (get_or challenges j 0) (size / 2) places u (omega (arith, double_places)) e

    scratch_long : count * places ≤ length scratch
    scratch_long = omega (arith, w.long, s.scratch_room)

    -- after it
    pub progress_turn : {messages' scratch' : List ℕ}
        → messages' ≡ take start messages ++ ((round_of n (size / 2) (parts count places scratch) ++ drop (count + 1)
        (take (length messages - start) (drop start messages))) ++ drop (length messages - start) (drop start messages))
        → scratch' ≡ laid places (map (folded_part n (get_or challenges j 0) (size / 2)) (parts count places scratch)) scratch
        → Progress n count places tables challenges messages₀ scratch₀ messages' scratch' (size / 2) (j + 1)
    progress_turn em es =
        record {
          turns = omega arith;
          size_is = half_is ∙ ap (λ (i : ℕ). 2 ^ (length challenges - i)) (sym (add-one j));
          written = em ∙ written_so;
          folded_so =
              ap₂ (λ (h : ℕ) (xs : List ℕ). fronts h (parts count places xs)) half_is es
              ∙ (ap (fronts (2 ^ rest)) (changed_parts (folded_part n (get_or challenges j 0) (size / 2)) places keeps scratch count scratch_long
              ∙ ap (λ (h : ℕ). map (folded_part n (get_or challenges j 0) h) (parts count places scratch)) half_is)
              ∙ (fronts_more n (get_or challenges j 0) rest (take j challenges) (parts count places scratch) ts
              (ap (λ (k : ℕ). fronts k (parts count places scratch)) (ap (λ (k : ℕ). 2 ^ k) (sym left) ∙ sym w.size_is)
              ∙ (w.folded_so ∙ ap (λ (k : ℕ). map (λ (t : List ℕ). folded n t (take j challenges) k) ts) left))
              ∙ ap₂ (λ (rs : List ℕ) (k : ℕ). map (λ (t : List ℕ). folded n t rs k) ts)
              (sym (take-suc challenges j 0 l) ∙ ap (λ (k : ℕ). take k challenges) (sym (add-one j)))
              (ap (λ (i : ℕ). length challenges - i) (sym (add-one j)))));
          behind = ap (drop (count * places)) es
              ∙ (changed_rest (folded_part n (get_or challenges j 0) (size / 2)) places keeps scratch count scratch_long ∙ w.behind);
          long = ap length es ∙ (changed_length (folded_part n (get_or challenges j 0) (size / 2)) places keeps scratch count scratch_long ∙ w.long);
        }

  -- after the last round
  pub progress_end : {messages scratch : List ℕ} {size j : ℕ}
      → Progress n count places tables challenges messages₀ scratch₀ messages scratch size j → length challenges ≤ j
      → messages ≡ join (true_polynomials n (parts count places tables) challenges) ++ drop (length challenges * (count + 1)) messages₀
  progress_end {j = j} w h =
      w.written
      ∙ (ap (λ (ps : List (List ℕ)). laid (count + 1) ps messages₀)
      (take_all j (true_polynomials n (parts count places tables) challenges)
      (omega (arith, polynomials_count n (parts count places tables) challenges [])))
      ∙ ap (λ (k : ℕ). join (true_polynomials n (parts count places tables) challenges) ++ drop (k * (count + 1)) messages₀)
      (polynomials_count n (parts count places tables) challenges []))
