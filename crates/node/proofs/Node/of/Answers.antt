-- `node::Node::of` meets its contract: each call's result is put in its place.
use Rattle.node.proofs.Node.of.Goals as goal

pub returns : goal.returns
returns c = rw (c.new-paths.ensures, c.of-second.ensures, c.of-first.ensures)
