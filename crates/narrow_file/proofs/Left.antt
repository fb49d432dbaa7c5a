-- What the second pass leaves in the lent list, whose first places it was lent: the file's coefficients, and the rest unchanged. Assumes
-- nothing.
use mathlib.Core.Path.{◌≡◌, sym}
use mathlib.Core.List.{List, [], ◌++◌, append-nil}
use Prim.Native.Nat.{ℕ, ◌+◌, ◌*◌, ◌≤◌}
use native.Mathlib.Omega.{arith}
use lib.ListN.{length, take, drop, length-take, drop_of_length-le}
use borrow.Author.Tests.{le-ltb}
use Rattle.layout.specs.Reading.{file, reading}
use Rattle.layout.proofs.Answers.{file_count}
use Rattle.narrow_file.specs.Narrow.{narrow, read_answer, after}
use Rattle.narrow_file.specs.Passes.{collect, put}

pub left_in : (bytes list rounds : List ℕ) (v d c : ℕ)
    → file v d c (take (v * (d + 1)) (collect 0 rounds)) ≡ reading narrow bytes
    → v * (d + 1) ≤ length list
    → put (take (length (take (v * (d + 1)) list)) (collect 0 rounds)) (take (v * (d + 1)) list) ++ drop (v * (d + 1)) list
    ≡ after (read_answer bytes (length list)) list
unfolding read_answer
left_in bytes list rounds v d c e h =
    let k = v * (d + 1) in
    let cs = take k (collect 0 rounds) in
    let room : length (take k list) ≡ k = omega (arith, length-take k list) in
    let full : length cs ≡ k = file_count narrow v d c cs bytes (sym e) in
    let none : drop (length cs) (take k list) ≡ [] = drop_of_length-le (take k list) (omega (arith, room, full)) in
    rw (← e, le-ltb (length list) k h, room, none, append-nil cs)
