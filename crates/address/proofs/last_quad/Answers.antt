-- `address::last_quad` meets its contract: the last four bytes are put together.
use Rattle.address.specs.Address.{last_quad}
use Rattle.address.proofs.last_quad.Goals as goal

pub returns : goal.returns
unfolding last_quad
returns c = c.quad.ensures
