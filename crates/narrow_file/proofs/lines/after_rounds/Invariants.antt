-- `narrow_file::lines::after_rounds`: the loop's invariant is that the rounds from here on come to what all rounds from the first one do.
-- Assumes nothing.
use Rattle.std.proofs.Common.{◌≡◌, ◌+◌, ◌-◌}
use Rattle.layout.specs.Reading.{lines_at, round_line}
use Rattle.narrow_file.specs.Narrow.{narrow}
use Rattle.narrow_file.specs.Passes.{bare}
use Rattle.narrow_file.proofs.lines.after_rounds.Given as goal

abbrev pub invariant-loop-line : goal.invariant-loop-line
invariant-loop-line l =
    bare (lines_at l.line (l.vars + 6 - l.line) (round_line narrow l.degree) l.rest) ≡ bare (lines_at 6 l.vars (round_line narrow l.degree) l.bytes)
