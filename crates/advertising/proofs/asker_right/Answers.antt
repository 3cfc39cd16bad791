-- `advertising::asker_right` meets its contract.
use Rattle.advertising.specs.Advertise.{is_asker_right}
use Rattle.advertising.proofs.asker_right.Goals as goal

pub returns : goal.returns
unfolding is_asker_right
returns c = rw (c.link_local_prefixed.ensures, c.identifier.ensures)
