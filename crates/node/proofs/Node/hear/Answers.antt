-- `node::Node::hear` meets its contract: the service hears with the routers of its list.
use Rattle.node.specs.Hear.{hear_of}
use Rattle.node.proofs.Node.hear.Goals as goal

pub returns : goal.returns
unfolding hear_of
returns c = rw (c.put_back-node.ensures.value, c.heard_by-heard.ensures, c.max.ensures, c.has.ensures, c.service-service.ensures)
