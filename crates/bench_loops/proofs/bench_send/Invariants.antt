-- Before turn i the node, the sum and the output are those after the first i packets.
use Rattle.std.proofs.Common.{◌≡◌, ◌≤◌, length}
use Rattle.bench_loops.specs.Loops.{after_sending, sent_many, sent_many_output}
use Rattle.bench_loops.proofs.bench_send.Given as goal

abbrev pub invariant-loop-i : goal.invariant-loop-i
invariant-loop-i l =
    (l.i ≤ l.count)
    × (length l.out ≡ length l.initial.out)
    × (l.next ≡ after_sending l.initial.next l.packets l.size l.hop l.locator l.time (length l.initial.out) l.i)
    × (l.sum ≡ sent_many l.initial.next l.packets l.size l.hop l.locator l.time (length l.initial.out) l.i)
    × (l.out ≡ sent_many_output l.initial.next l.packets l.size l.hop l.locator l.time l.initial.out l.i)
