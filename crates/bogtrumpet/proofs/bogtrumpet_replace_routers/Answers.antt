-- Of the node the router list of the service and the latest time alone are changed.
use Rattle.bogtrumpet.proofs.Same.{replaced-same}
use Rattle.bogtrumpet.proofs.bogtrumpet_replace_routers.Goals as goal

pub returns : goal.returns
returns c =
    let a = c.args in
    rw (c.replaced-step.ensures, c.named-named.ensures.value) (replaced-same a.node.now a.service a.list.routers a.list.count a.time)
