-- `program::lines::put_count` meets its contract: what is copied is the front of the bytes.
use mathlib.Core.Path.{sym, ap, ◌∙◌}
use native.Mathlib.Omega.{arith}
use lib.ListN.{length, replicate}
use Rattle.text.proofs.Laws.{front_wrote}
use Rattle.program.specs.Lines.{longest_line, datagrams_word, entry_of, count_line}
use Rattle.program.proofs.LineLaws.{entry_short}
use Rattle.program.proofs.lines.put_count.Goals as goal

pub slice_bounds-bytes-end : goal.slice_bounds-bytes-end
slice_bounds-bytes-end c = let a = c.args in
    let s = entry_short datagrams_word a.n in
    omega (arith, (front_wrote (entry_of datagrams_word a.n) (replicate longest_line 0) (omega arith) (c.put_entry-end.ensures.value, c.put_entry-end.ensures.out_after)).0)

pub slice_bounds-put-end : goal.slice_bounds-put-end
slice_bounds-put-end c = let a = c.args in
    let f = front_wrote (entry_of datagrams_word a.n) (replicate longest_line 0) (omega (arith, entry_short datagrams_word a.n)) (c.put_entry-end.ensures.value, c.put_entry-end.ensures.out_after) in
    f.0 ∙ sym (ap length f.1)

pub returns : goal.returns
unfolding count_line
returns c = let a = c.args in
    let e = (front_wrote (entry_of datagrams_word a.n) (replicate longest_line 0) (omega (arith, entry_short datagrams_word a.n)) (c.put_entry-end.ensures.value, c.put_entry-end.ensures.out_after)).1 in
    let p = c.put.ensures in
    record {
      value = rw e at p.value;
      out_after = rw e at p.out_after;
    }
