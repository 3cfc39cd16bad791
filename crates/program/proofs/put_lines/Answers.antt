-- `put_lines` meets its contract: the walk has come to the datagram of number k, and the lines before it are written.
use Rattle.std.specs.Prelude.{Err}
use Prim.Native.Nat.{◌+◌, ◌<◌}
use mathlib.Core.Path.{◌≡◌}
use native.Mathlib.Omega.{arith}
use lib.ListN.{length, get_or}
use Rattle.input.specs.Section.{count_of}
use Rattle.refusals.specs.declared.Refusal.TheVariants.{Settings}
use Rattle.program.proofs.LineLaws.{lines_none, lines_turn, lines_end, lines_front}
use Rattle.program.specs.Program.{receipt_of, memory_after, lines_of}
use Rattle.program.proofs.Lengths.{many_lines}
use Rattle.program.proofs.Laws.{walked-first, walked_line, walked_next}
use Rattle.program.proofs.put_lines.Goals as goal

pub loop-k-init : goal.loop-k-init
loop-k-init c = let a = c.args in
    let ls = lines_of a.node a.memory.now a.r.now in
    (rw c.first-rest.ensures (walked-first a.node a.memory.now a.r.now), omega arith, omega arith, lines_none ls a.from a.out.now (omega arith))

pub loop-k-preserved : goal.loop-k-preserved
unfolding receipt_of memory_after
loop-k-preserved c = let a = c.args in
    let node = a.node in
    let memory = a.memory.now in
    let r = a.r.now in
    let ls = lines_of node memory r in
    let t = c.loop-k in
    let h : t.k < count_of r = omega (arith, c.count-n.ensures, c.loop-k-test.true) in
    let m = many_lines node memory r in
    let front = lines_front ls (t.k + 1) in
    let i = c.interface.ensures in
    let b = c.datagram.ensures in
    let line : c.line_with.result ≡ get_or ls t.k (Err Settings) =
    rw (c.line_with.ensures, c.receive-receipt.ensures.value, i, b) (walked_line node memory r t.k (Err Settings) h t.next t.memory t.rest.now t.invariant.0) in (
      rw (c.next-rest.ensures, c.receive-receipt.ensures.value, c.receive-receipt.ensures.memory_after, i, b) (walked_next node memory r t.k (Err Settings) h t.next t.memory t.rest.now t.invariant.0),
      omega arith,
      omega arith,
      lines_turn ls t.k c.line_with.result (Err Settings) a.from a.out.now (omega arith) line (omega (arith, c.requires)) t.invariant.3 (c.put_line-at.ensures.value, c.put_line-at.ensures.out_after),
    )

pub returns : goal.returns
returns c = let l = c.loop-k in
    let a = c.args in
    let ls = lines_of a.node a.memory.now a.r.now in
    let e : l.k ≡ length ls = omega (arith, many_lines a.node a.memory.now a.r.now) in
    let all = lines_end ls in
    record {
      value = rw (e, all) at l.invariant.3.0;
      out_after = rw (e, all) at l.invariant.3.1;
    }
