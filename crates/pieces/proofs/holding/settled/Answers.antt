use mathlib.Core.Path.{sym, ◌∙◌}
use Rattle.pieces.proofs.Carried.{settles, waits}
use Rattle.pieces.proofs.holding.settled.Goals as goal

pub returns-then-whole : goal.returns-then-whole
returns-then-whole c = let a = c.args in
    settles a.k a.d c.freed-free.result (sym c.whole.ensures ∙ c.if-whole.true) c.freed-free.ensures

pub returns-else-whole : goal.returns-else-whole
returns-else-whole c = let a = c.args in
    c.refused.ensures ∙ waits a.k a.d (sym c.whole.ensures ∙ c.if-whole.false)
