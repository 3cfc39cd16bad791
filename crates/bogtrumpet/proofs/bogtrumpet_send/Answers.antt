-- A sending over a path of the size toward the tunnel end is the node's.
use Rattle.std.proofs.Common.{◌∙◌}
use Rattle.bogtrumpet.specs.Plain.{bytes_of}
use Rattle.bogtrumpet.proofs.Same.{sent-same}
use Rattle.bogtrumpet.proofs.bogtrumpet_send.Goals as goal

pub returns : goal.returns
returns c =
    let a = c.args in
    let s = sent-same a.node.now a.service a.packet.now (bytes_of a.next_hop) a.locator a.time a.out.now c.size_toward-size.result c.size_toward-size.ensures in
    (c.send_over.ensures.0 ∙ s.0, c.send_over.ensures.1 ∙ s.1, c.send_over.ensures.2 ∙ s.2)
