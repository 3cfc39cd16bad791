-- `header::chain::later_fragment`: its tests are those of the definition.
use Rattle.header.specs.Fields.{word_at}
use Rattle.header.proofs.chain.later_fragment.Goals as goal

pub returns : goal.returns
unfolding word_at
returns c = rw c.pair.ensures
