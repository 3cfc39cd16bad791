-- `comparing::more_in` meets its contract: a recording has as many datagrams as its count says.
use Rattle.std.proofs.Common.{arith}
use Rattle.comparing.proofs.Pairing.{more-first, more-second, more-neither}
use Rattle.comparing.proofs.more_in.Goals as goal

pub returns-in-Greater : goal.returns-in-Greater
returns-in-Greater c = let a = c.args in
    more-first a.first.now a.second.now c.count-n.ensures c.count-m.ensures (grind arith)

pub returns-in-Less : goal.returns-in-Less
returns-in-Less c = let a = c.args in
    more-second a.first.now a.second.now c.count-n.ensures c.count-m.ensures (grind arith)

pub returns-in-Equal : goal.returns-in-Equal
returns-in-Equal c = let a = c.args in
    more-neither a.first.now a.second.now c.count-n.ensures c.count-m.ensures (grind arith) (grind arith)
