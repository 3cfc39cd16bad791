-- `node::Node::advertise` meets its contract: the service of that name advertises, or 11.
use Rattle.node.specs.Advertise.{advertise_of, advertise_output}
use Rattle.node.proofs.Node.advertise.Goals as goal

pub returns : goal.returns
unfolding advertise_of advertise_output
returns c = let has = c.has.ensures in
    let service = c.service-service.ensures in
    record {
      value = rw (c.advertised_by.ensures.value, has, service);
      out_after = rw (c.advertised_by.ensures.out_after, has, service);
    }
