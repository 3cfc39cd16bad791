-- `node::Node::replace_routers` meets its contract: the service takes the list or keeps its own.
use Rattle.node.specs.RouterList.{replace_of}
use Rattle.node.proofs.Node.replace_routers.Goals as goal

pub returns : goal.returns
unfolding replace_of
returns c = rw (c.put_back-node.ensures.value, c.replaced_by-step.ensures, c.max.ensures, c.has.ensures, c.service-service.ensures)
