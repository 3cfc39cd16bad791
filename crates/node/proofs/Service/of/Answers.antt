-- `node::Service::of` meets its contract: each call's result is put in its place.
use Rattle.node.specs.Node.{service_from}
use Rattle.node.proofs.Service.of.Goals as goal

pub returns : goal.returns
unfolding service_from
returns c = rw (c.new-pieces.ensures, c.new-routers.ensures)
