use native.Mathlib.Omega.{arith}
use Rattle.paths.proofs.Scan.{row_left}
use Rattle.paths.proofs.rows.row_within.Goals as goal

pub nearer-i-requires : goal.nearer-i-requires
nearer-i-requires c = (c.loop-width.invariant, omega arith)

pub returns : goal.returns
returns c = let a = c.args in
    row_left a.neighbour a.rows.now c.loop-width.i c.loop-width.width c.loop-width.invariant (omega arith)
