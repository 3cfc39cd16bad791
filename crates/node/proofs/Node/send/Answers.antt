-- `node::Node::send` meets its contract: the service sends over its path size in force.
use Rattle.node.specs.Send.{send_of, send_output}
use Rattle.node.proofs.Node.send.Goals as goal

pub returns : goal.returns
unfolding send_of send_output
returns c = let has = c.has.ensures in
    let service = c.service-service.ensures in
    let size = c.size_at-size.ensures in
    let end = c.last_quad.ensures in
    let at = c.max-now.ensures in
    record {
      value = rw (c.put_back-node.ensures.value, c.sent_by-sent.ensures.value, has, service, size, end, at);
      out_after = rw (c.sent_by-sent.ensures.out_after, has, service, size, end, at);
    }
