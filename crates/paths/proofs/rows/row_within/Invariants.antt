use Rattle.paths.specs.Search.{Within}
use Rattle.paths.proofs.rows.row_within.Given as goal

abbrev pub invariant-loop-width : goal.invariant-loop-width
invariant-loop-width l = Within l.neighbour l.rows l.i l.width

abbrev pub decreases-loop-width : goal.decreases-loop-width
decreases-loop-width l = l.width
