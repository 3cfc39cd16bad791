-- `routers::due_among`: none of those passed has the address.
use native.Mathlib.Omega.{arith}
use mathlib.Core.Path.{sym, ◌∙◌}
use Rattle.routers.specs.Routers.{due_or}
use Rattle.routers.proofs.Laws.{held-past, due-here, due-later}
use Rattle.routers.proofs.due_among.Goals as goal

pub returns-then-addresses-i : goal.returns-then-addresses-i
returns-then-addresses-i c = let a = c.args in
    sym (c.loop-i.invariant ∙ due-here a.count c.loop-i.i a.addresses.now a.dues.now (omega arith) a.other a.address c.if-addresses-i.true)

pub loop-i-preserved : goal.loop-i-preserved
loop-i-preserved c = let a = c.args in
    c.loop-i.invariant ∙ due-later a.count c.loop-i.i a.addresses.now a.dues.now (omega arith) a.other a.address c.if-addresses-i.false

pub returns : goal.returns
unfolding due_or
returns c = let a = c.args in
    sym (c.loop-i.invariant ∙ rw (held-past a.count c.loop-i.i a.addresses.now a.dues.now (omega arith)))
