use Prim.Native.Nat.{◌-◌}
use lib.ListN.{length}
use Rattle.paths.specs.Search.{Passed}
use Rattle.paths.proofs.rows.row_in_lent.Given as goal

abbrev pub invariant-loop-i : goal.invariant-loop-i
invariant-loop-i l = Passed l.neighbour l.rows l.i

abbrev pub decreases-loop-i : goal.decreases-loop-i
decreases-loop-i l = length l.rows - l.i
