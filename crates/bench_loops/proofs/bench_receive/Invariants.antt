-- Before turn i the node, the memory and the sum are those after the first i datagrams.
use Rattle.std.proofs.Common.{◌≡◌, ◌≤◌}
use Rattle.bench_loops.specs.Loops.{received_many}
use Rattle.bench_loops.proofs.bench_receive.Given as goal

abbrev pub invariant-loop-i : goal.invariant-loop-i
invariant-loop-i l =
    (l.i ≤ l.count)
    × (l.next ≡ (received_many l.initial.next l.datagrams l.size l.interface l.time l.initial.memory l.i).node)
    × (l.memory ≡ (received_many l.initial.next l.datagrams l.size l.interface l.time l.initial.memory l.i).memory)
    × (l.sum ≡ (received_many l.initial.next l.datagrams l.size l.interface l.time l.initial.memory l.i).sum)
