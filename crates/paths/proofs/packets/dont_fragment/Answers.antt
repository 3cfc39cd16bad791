use mathlib.Core.Path.{ap}
use lib.Dec.{ltb}
use Rattle.paths.specs.Packets.{least_mtu, dont_fragment}
use Rattle.paths.proofs.packets.dont_fragment.Goals as goal

pub returns : goal.returns
unfolding dont_fragment
returns c = ap (ltb least_mtu) c.without_header.ensures
