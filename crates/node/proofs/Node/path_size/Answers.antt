-- `node::Node::path_size` meets its contract: the size at the latest time, where the node has the service.
use Rattle.node.specs.Size.{path_size_of}
use Rattle.node.proofs.Node.path_size.Goals as goal

pub returns-then-has : goal.returns-then-has
unfolding path_size_of
returns-then-has c = simp (← c.has.ensures, c.if-has.true, c.size_at.ensures)

pub returns-else-has : goal.returns-else-has
unfolding path_size_of
returns-else-has c = simp (← c.has.ensures, c.if-has.false)
