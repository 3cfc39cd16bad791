use mathlib.Core.Path.{sym}
use lib.Seq.{length-take-le}
use Rattle.paths.proofs.rows.row_of.Goals as goal

pub slice_bounds-row_in_turn-end : goal.slice_bounds-row_in_turn-end
slice_bounds-row_in_turn-end c = sym (length-take-le c.args.count c.args.neighbours.now c.requires)
