-- `header::outer::malformed_by` meets its contract: the tests are the definition's, but for those that follow from the others.
use Rattle.header.proofs.Implied.{by_first_lem}
use Rattle.header.proofs.outer.malformed_by.Goals as goal

pub returns : goal.returns
returns c = let a = c.args in by_first_lem a.n a.first a.o c.requires.0 c.requires.1
