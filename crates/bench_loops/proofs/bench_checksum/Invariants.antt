-- Before turn i the total is that of the first i turns.
use Rattle.std.proofs.Common.{◌≡◌, ◌≤◌}
use Rattle.bench_loops.specs.Loops.{sums_from}
use Rattle.bench_loops.proofs.bench_checksum.Given as goal

abbrev pub invariant-loop-i : goal.invariant-loop-i
invariant-loop-i l = (l.i ≤ l.count) × (l.total ≡ sums_from l.start l.bytes l.size l.i)
