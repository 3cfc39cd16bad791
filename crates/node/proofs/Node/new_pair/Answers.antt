-- `node::Node::new_pair` meets its contract: the rules decide which node is made.
use Rattle.node.specs.Node.{setup_pair_of, pair_of, node_of}
use Rattle.node.proofs.Node.new_pair.Goals as goal

pub returns-then-accepted_with : goal.returns-then-accepted_with
unfolding setup_pair_of pair_of
returns-then-accepted_with c = simp (← c.accepted_with.ensures, c.if-accepted_with.true, c.of-node.ensures)

pub returns-else-accepted_with : goal.returns-else-accepted_with
unfolding setup_pair_of node_of
returns-else-accepted_with c = simp (← c.accepted_with.ensures, c.if-accepted_with.false, c.of-node-else-accepted_with.ensures, c.no_settings-empty.ensures)
