-- `put_text` meets its contract: the first line, and then the lines of the datagrams.
use mathlib.Core.Path.{◌≡◌, sym, ◌∙◌}
use native.Mathlib.Omega.{arith}
use lib.ListN.{length, length-append}
use Rattle.program.specs.Lines.{count_line, lines_from, text_of}
use Rattle.program.specs.Program.{own_memory, lines_of}
use Rattle.text.proofs.Laws.{behind-fits, wrote_more}
use Rattle.program.proofs.Lengths.{many_lines}
use Rattle.program.proofs.put_text.Goals as goal

pub slice_bounds-put_lines-end : goal.slice_bounds-put_lines-end
slice_bounds-put_lines-end c = c.own_memory-memory.ensures.memory_room_value

pub put_lines-requires : goal.put_lines-requires
unfolding text_of
put_lines-requires c = let a = c.args in
    let ls = lines_of a.node own_memory a.r.now in
    let n : c.count.result ≡ length ls = c.count.ensures ∙ sym (many_lines a.node own_memory a.r.now) in
    let l = length-append (count_line (length ls)) (lines_from 1 ls) in
    let e = rw n at c.put_count-at.ensures.value in
    let b = behind-fits 0 (count_line (length ls)) a.out.now (omega (arith, c.requires)) in
    rw c.own_memory-memory.ensures.value (omega (arith, c.requires))

pub returns : goal.returns
unfolding text_of
returns c = let a = c.args in
    let ls = lines_of a.node own_memory a.r.now in
    let n : c.count.result ≡ length ls = c.count.ensures ∙ sym (many_lines a.node own_memory a.r.now) in
    let p = rw n at c.put_count-at.ensures in
    let q = rw c.own_memory-memory.ensures.value at c.put_lines.ensures in
    let all = wrote_more 0 (count_line (length ls)) (lines_from 1 ls) a.out.now (omega (arith, c.requires))
    (p.value, p.out_after) (q.value, q.out_after) in
    record { value = all.0; out_after = all.1 }
