-- `file_line::line::line_at`: the loop's invariant is that the machine's run from here on comes to what the layout says of the line. Assumes
-- nothing.
use Rattle.std.proofs.Common.{◌≡◌, length, drop}
use Rattle.layout.specs.Line.{line_at}
use Rattle.file_line.specs.OneLine.{letters, brief, line_wanted}
use Rattle.file_line.specs.Steps.{run_of}
use Rattle.file_line.proofs.line.line_at.Given as goal

abbrev pub invariant-loop-i : goal.invariant-loop-i
invariant-loop-i l =
    run_of (length l.bytes) l.wanted (letters l.wanted.word) l.state (drop l.i l.rest)
    ≡ brief (length l.bytes) (line_at l.wanted.line (line_wanted l.wanted) l.rest)
