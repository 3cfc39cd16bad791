-- `header::outer::quote_malformed` meets its contract: the tests are the definition.
use borrow.Author.Rules.{rules}
use Rattle.header.specs.Outer.{is_quote_malformed}
use Rattle.header.proofs.outer.quote_malformed.Goals as goal

pub returns : goal.returns
unfolding is_quote_malformed
returns c = search rules
