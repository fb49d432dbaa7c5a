-- The rounds taken one by one from a lent message list: what a walker knows who has taken a number of rounds. Assumes nothing.
use mathlib.Core.Path.{◌≡◌, sym, ap, ap₂, ◌∙◌}
use mathlib.Core.Bool.{true, false}
use mathlib.Core.List.{List}
use Prim.Native.Nat.{ℕ, suc, ◌+◌, ◌-◌, ◌*◌, ◌≤◌, ◌<◌}
use native.Mathlib.Numerals.{add-one}
use native.Mathlib.Omega.{arith}
use lib.Dec.{eqb}
use lib.ListN.{length, get_or, take, drop, length-take}
use lib.Seq.{drop-cons, drop-drop}
use Rattle.arithmetic.specs.Modulo.{add}
use Rattle.polynomial.specs.Polynomial.{value}
use Rattle.polynomial.specs.Array.{padded}
use Rattle.polynomial.proofs.Array.{padded-value}
use Rattle.refusals.specs.Limits.{max_degree}
use Rattle.refusals.specs.First.{choose}
use Rattle.refusals.proofs.First.{choose-true, choose-false}
use Rattle.sumcheck.specs.Protocol.{fits, Rounds, failed, rounds_from, rounds}
use Rattle.sumcheck.specs.Lent.{parts}
use Rattle.sumcheck.proofs.Parts.{part_of}

-- a message in an array has its values and its sum
pub array_value : (n : ℕ) (message cs : List ℕ) (x : ℕ) → cs ≡ padded (suc max_degree) message → length message ≤ suc max_degree
    → value n cs x ≡ value n message x
array_value n message cs x e h = ap (λ (l : List ℕ). value n l x) e ∙ padded-value n (suc max_degree) message x h

pub array_fits : (n : ℕ) (message cs : List ℕ) (c : ℕ) → cs ≡ padded (suc max_degree) message → length message ≤ suc max_degree → fits n cs c ≡ fits n message c
array_fits n message cs c e h = ap₂ (λ (a b : ℕ). eqb (add n a b) c) (array_value n message cs 0 e h) (array_value n message cs 1 e h)

-- so many rounds are taken, and the running claim is c: what is left are the rounds of the rest
abbrev pub Walked : ℕ → ℕ → List ℕ → ℕ → List ℕ → ℕ → ℕ → Type 0
Walked n claim rs width xs j c =
    rounds n claim rs (parts (length rs) width xs) ≡ rounds_from n (suc j) c (drop j rs) (parts (length rs - j) width (drop (j * width) xs))

-- the message of round j, from 0
abbrev pub message_at : ℕ → List ℕ → ℕ → List ℕ
message_at width xs j = take width (drop (j * width) xs)

pub message_short : (width : ℕ) (xs : List ℕ) (j : ℕ) → length (message_at width xs j) ≤ width
message_short width xs j = omega (arith, length-take width (drop (j * width) xs))

-- the part that is lent for it
pub message_part : (width : ℕ) (xs : List ℕ) (j : ℕ) → take (j * width + width - j * width) (drop (j * width) xs) ≡ message_at width xs j
message_part width xs j = part_of (j * width) width xs

-- the round that comes next is judged by its message
next : (n claim : ℕ) (rs : List ℕ) (width : ℕ) (xs : List ℕ) (j c : ℕ) → j < length rs → Walked n claim rs width xs j c
    → rounds n claim rs (parts (length rs) width xs)
    ≡ choose (fits n (message_at width xs j) c)
    (rounds_from n (suc (suc j)) (value n (message_at width xs j) (get_or rs j 0)) (drop (suc j) rs)
    (parts (length rs - suc j) width (drop (suc j * width) xs)))
    (failed (suc j))
unfolding parts
next n claim rs width xs j c h w =
    w
    ∙ (ap₂ (λ (l : List ℕ) (m : ℕ). rounds_from n (suc j) c l (parts m width (drop (j * width) xs))) (drop-cons rs j 0 h) one_more
    ∙ ap (λ (l : List ℕ). choose (fits n (message_at width xs j) c)
    (rounds_from n (suc (suc j)) (value n (message_at width xs j) (get_or rs j 0)) (drop (suc j) rs) (parts (length rs - suc j) width l)) (failed (suc j)))
    (drop-drop width (j * width) xs ∙ ap (λ (i : ℕ). drop i xs) over))
  where
    one_more : length rs - j ≡ suc (length rs - suc j)
    one_more = omega arith

    over : j * width + width ≡ suc j * width
    over = omega arith

-- a round whose sum fits is taken
pub walked_more : (n claim : ℕ) (rs : List ℕ) (width : ℕ) (xs : List ℕ) (j c v : ℕ) → j < length rs → Walked n claim rs width xs j c
    → fits n (message_at width xs j) c ≡ true → v ≡ value n (message_at width xs j) (get_or rs j 0) → Walked n claim rs width xs (j + 1) v
walked_more n claim rs width xs j c v h w e f =
    next n claim rs width xs j c h w
    ∙ (choose-true (rest (suc j) (value n (message_at width xs j) (get_or rs j 0))) (failed (suc j)) e ∙ ap₂ rest (sym (add-one j)) (sym f))
  where
    rest : ℕ → ℕ → Rounds
    rest i x = rounds_from n (suc i) x (drop i rs) (parts (length rs - i) width (drop (i * width) xs))

-- a round whose sum fails is where the rounds end
pub walked_failed : (n claim : ℕ) (rs : List ℕ) (width : ℕ) (xs : List ℕ) (j c : ℕ) → j < length rs → Walked n claim rs width xs j c
    → fits n (message_at width xs j) c ≡ false → failed (suc j) ≡ rounds n claim rs (parts (length rs) width xs)
walked_failed n claim rs width xs j c h w e =
    sym
    (next n claim rs width xs j c h w
    ∙ choose-false
    (rounds_from n (suc (suc j)) (value n (message_at width xs j) (get_or rs j 0)) (drop (suc j) rs)
    (parts (length rs - suc j) width (drop (suc j * width) xs)))
    (failed (suc j))
    e)
