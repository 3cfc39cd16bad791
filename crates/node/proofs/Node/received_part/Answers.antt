-- `node::Node::received_part` meets its contract: the part that the number call names, or an empty one.
use Rattle.node.specs.Receive.{part_in}
use Rattle.node.proofs.Node.received_part.Goals as goal

pub returns-then-has : goal.returns-then-has
unfolding part_in
returns-then-has c = simp (← c.has.ensures, c.if-has.true, ← c.service-service.ensures, ← c.receive-received.ensures) c.part.ensures

pub returns : goal.returns
unfolding part_in
returns c = simp (← c.has.ensures, c.if-has.false) c.part-2.ensures
