-- `header::inner::packet_malformed` meets its contract: the tests are the definition.
use borrow.Author.Rules.{rules}
use Rattle.header.specs.Inner.{is_packet_malformed}
use Rattle.header.proofs.inner.packet_malformed.Goals as goal

pub returns : goal.returns
unfolding is_packet_malformed
returns c = search rules
