-- `comparing::write` meets its contract: a turn writes the runs of one pair behind what was written.
use Prim.Native.Nat.{◌+◌, ◌-◌, ◌*◌}
use mathlib.Core.Path.{◌≡◌}
use lib.ListN.{length}
use Rattle.input.specs.Section.{count_of}
use Rattle.comparing.specs.Runs.{runs_of}
use Rattle.comparing.proofs.Pairing.{left_pairs}
use Rattle.comparing.proofs.Writing.{Done}
use Rattle.comparing.proofs.write.Given as goal

abbrev pub invariant-loop-at : goal.invariant-loop-at
invariant-loop-at l = (length l.out ≡ length l.initial.out) × (l.at + 6 * length (left_pairs l.masked (count_of l.first) (count_of l.second) l.number l.a l.b) ≡ l.size)
    × Done (runs_of l.masked l.first l.second) (left_pairs l.masked (count_of l.first) (count_of l.second) l.number l.a l.b) l.initial.out 0 l.out l.at

abbrev pub decreases-loop-at : goal.decreases-loop-at
decreases-loop-at l = count_of l.first + 1 - l.number
