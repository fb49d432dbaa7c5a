-- Where a part of a list lies in memory: a part that starts so many numbers after the list's start, each of 4 bytes, is no copy.
use Rattle.std.specs.Prelude.{ℕ, ◌+◌, ◌*◌}

-- a place is a block of memory and an offset in bytes
abbrev pub place_at : ℕ × ℕ → ℕ → ℕ × ℕ
place_at list start = (list.0, list.1 + 4 * start)
