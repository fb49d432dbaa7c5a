-- `file_line::line::line_at`: what the line's end makes of the machine is what the layout says of the line. Assumes nothing.
use Rattle.std.proofs.Common.{List, ℕ, length, length-drop, sym, ap, ◌∙◌, arith}
use Rattle.layout.specs.Line.{line_at}
use Rattle.file_line.specs.OneLine.{letters, brief, line_wanted}
use Rattle.file_line.proofs.Runs.{run_end, from_place}
use Rattle.file_line.proofs.line.line_at.Goals as goal

pub returns-in-LineEnd : goal.returns-in-LineEnd
returns-in-LineEnd c =
    let xs = c.args.bytes.now in
    let w = c.args.wanted in
    let rest = from_place xs c.args.at in
    c.closed.ensures
    ∙ (sym (run_end (length xs) w (letters w.word) _ c.loop-i.state c.loop-i.i _ (omega (arith, ap length rest, length-drop c.args.at xs))
    c.loop-i-test.true (sym c.in-LineEnd.ensures))
    ∙ (c.loop-i.invariant ∙ ap (λ (s : List ℕ). brief (length xs) (line_at w.line (line_wanted w) s)) rest))
