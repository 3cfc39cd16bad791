-- `program::lines::put_line` meets its contract: what is copied is the front of the bytes.
use mathlib.Core.Path.{sym, ap, ◌∙◌}
use native.Mathlib.Omega.{arith}
use lib.ListN.{length, replicate}
use Rattle.text.proofs.Laws.{front_wrote}
use Rattle.program.specs.Lines.{longest_line, line_of}
use Rattle.program.proofs.LineLaws.{line_short}
use Rattle.program.proofs.lines.put_line.Goals as goal

pub slice_bounds-bytes-end : goal.slice_bounds-bytes-end
slice_bounds-bytes-end c = let a = c.args in
    let s = line_short a.k a.line in
    omega (arith, (front_wrote (line_of a.k a.line) (replicate longest_line 0) s (c.write_line-end.ensures.value, c.write_line-end.ensures.out_after)).0)

pub slice_bounds-put-end : goal.slice_bounds-put-end
slice_bounds-put-end c = let a = c.args in
    let f = front_wrote (line_of a.k a.line) (replicate longest_line 0) (line_short a.k a.line) (c.write_line-end.ensures.value, c.write_line-end.ensures.out_after) in
    f.0 ∙ sym (ap length f.1)

pub returns : goal.returns
returns c = let a = c.args in
    let e = (front_wrote (line_of a.k a.line) (replicate longest_line 0) (line_short a.k a.line) (c.write_line-end.ensures.value, c.write_line-end.ensures.out_after)).1 in
    let p = c.put.ensures in
    record {
      value = rw e at p.value;
      out_after = rw e at p.out_after;
    }
