-- `header::inner::inner_malformed` meets its contract: the tests are the definition.
use borrow.Author.Rules.{rules}
use Rattle.header.specs.Inner.{is_inner_malformed}
use Rattle.header.proofs.inner.inner_malformed.Goals as goal

pub returns : goal.returns
unfolding is_inner_malformed
returns c = search rules
