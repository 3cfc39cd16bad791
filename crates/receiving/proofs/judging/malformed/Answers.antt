-- `receiving::judging::malformed` meets its contract.
use Rattle.header.specs.Inner.{is_inner_malformed}
use Rattle.receiving.proofs.judging.malformed.Goals as goal

pub returns : goal.returns
unfolding is_inner_malformed
returns c = c.inner_malformed.ensures
