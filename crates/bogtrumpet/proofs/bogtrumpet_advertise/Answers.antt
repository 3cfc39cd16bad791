-- Of the service of that number, or of none.
use Rattle.bogtrumpet.specs.Plain.{advertisement_from}
use Rattle.bogtrumpet.proofs.Same.{advertised-same}
use Rattle.bogtrumpet.proofs.bogtrumpet_advertise.Goals as goal

pub returns : goal.returns
returns c =
    let h = c.args.node.now in
    let k = c.args.service in
    let e = c.service_at-named.ensures in
    let s = advertised-same h k c.args.packet.now c.args.locator (advertisement_from c.args.advertisement) c.args.out.now in
    (rw (c.advertised.ensures.0, e) s.0, rw (c.advertised.ensures.1, e) s.1)
