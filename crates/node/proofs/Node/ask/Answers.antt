-- `node::Node::ask` meets its contract: the service asks with the routers of its list.
use Rattle.node.specs.Ask.{ask_of, ask_output}
use Rattle.node.proofs.Node.ask.Goals as goal

pub returns : goal.returns
unfolding ask_of ask_output
returns c = let at = c.max.ensures in
    let has = c.has.ensures in
    let service = c.service-service.ensures in
    record {
      value = rw (c.put_back-node.ensures.value, c.asked_by-asked.ensures.value, at, has, service);
      out_after = rw (c.asked_by-asked.ensures.out_after, at, has, service);
    }
