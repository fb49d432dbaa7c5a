-- `narrow_file::lines::one_line`: what the answer tells of the bytes is what the layout finds there. Assumes nothing.
use Rattle.std.proofs.Common.{subst, ◌≤◌, ℕ}
use Rattle.file_line.specs.OneLine.{line_wanted}
use Rattle.file_line.proofs.Runs.{from_place}
use Rattle.file_line.proofs.Told.{told-found, last_high}
use Rattle.narrow_file.proofs.lines.one_line.Goals as goal

pub returns : goal.returns
returns c =
    let w = c.args.wanted in
    let xs = c.args.bytes.now in
    let t = told-found xs 0 w.line (line_wanted w) c.line_at.result c.line_at.ensures c.in_ok-found.was in
    record {
      found = rw (t.1, t.2, from_place xs c.in_ok-found.found.next);
      at_most = subst (λ (n : ℕ). n ≤ w.high) t.2 (last_high w.line w xs t.0 _ t.1);
    }
