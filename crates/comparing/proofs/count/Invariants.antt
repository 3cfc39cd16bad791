-- `comparing::count` meets its contract: a turn counts the runs of one pair.
use Prim.Native.Nat.{◌+◌, ◌≤◌, min}
use mathlib.Core.Path.{◌≡◌}
use lib.ListN.{length}
use Rattle.input.specs.Section.{count_of}
use Rattle.comparing.specs.Runs.{runs_of}
use Rattle.comparing.proofs.Pairing.{left_pairs}
use Rattle.comparing.proofs.count.Given as goal

abbrev pub invariant-loop-i : goal.invariant-loop-i
invariant-loop-i l = (l.n ≤ l.limit) × (min (l.n + length (left_pairs l.masked (count_of l.first) (count_of l.second) (l._i + 1) l.a l.b)) l.limit ≡ min (length (runs_of l.masked l.first l.second)) l.limit)
