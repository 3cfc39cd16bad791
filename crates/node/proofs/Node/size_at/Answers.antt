-- `node::Node::size_at` meets its contract: the kept size, over the link of the service.
use Rattle.node.specs.Node.{path_size_at}
use Rattle.node.proofs.Node.size_at.Goals as goal

pub returns : goal.returns
unfolding path_size_at
returns c = rw (c.in_force.ensures, c.kept.ensures, c.service-service.ensures)
