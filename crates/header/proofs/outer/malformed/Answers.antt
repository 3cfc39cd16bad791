-- `header::outer::malformed` meets its contract: the tests are the definition's but for two that follow from the others.
use Rattle.header.specs.Outer.{is_outer_malformed}
use Rattle.header.proofs.Implied.{implied}
use Rattle.header.proofs.outer.malformed.Goals as goal

pub returns : goal.returns
unfolding is_outer_malformed
returns c = let a = c.args in implied a.n a.o
