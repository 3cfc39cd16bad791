use mathlib.Core.Path.{sym, ◌∙◌}
use native.Mathlib.Omega.{arith}
use Rattle.paths.proofs.Scan.{among_turn, among-end}
use Rattle.paths.proofs.rows.among.Goals as goal

pub loop-number-preserved : goal.loop-number-preserved
loop-number-preserved c = let a = c.args in
    among_turn a.neighbour a.numbers.now c.loop-number.number-index c.loop-number.found (omega arith) ∙ c.loop-number.invariant

pub returns : goal.returns
returns c = let a = c.args in
    sym (among-end a.neighbour a.numbers.now c.loop-number.number-index c.loop-number.found (omega arith)) ∙ c.loop-number.invariant
