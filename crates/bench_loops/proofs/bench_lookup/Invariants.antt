-- Before turn i the sum is that of the first i neighbours, and at most 65535 for each.
use Rattle.std.proofs.Common.{◌≡◌, ◌*◌, ◌≤◌}
use Rattle.bench_loops.specs.Loops.{sizes_toward}
use Rattle.bench_loops.proofs.bench_lookup.Given as goal

abbrev pub invariant-loop-i : goal.invariant-loop-i
invariant-loop-i l = (l.i ≤ l.count) × (l.sum ≤ 65535 * l.i) × (l.sum ≡ sizes_toward l.table l.link l.first l.now l.i)
