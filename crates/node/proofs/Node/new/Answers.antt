-- `node::Node::new` meets its contract: the rules decide which node is made.
use Rattle.node.specs.Node.{setup_of, node_of}
use Rattle.node.proofs.Node.new.Goals as goal

pub returns-then-accepted : goal.returns-then-accepted
unfolding setup_of node_of
returns-then-accepted c = simp (← c.accepted.ensures, c.if-accepted.true, c.of-node.ensures, c.no_settings.ensures)

pub returns-else-accepted : goal.returns-else-accepted
unfolding setup_of node_of
returns-else-accepted c = simp (← c.accepted.ensures, c.if-accepted.false, c.of-node-else-accepted.ensures, c.no_settings-empty.ensures)
