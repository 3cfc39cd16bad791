-- `header::inner::full_header` meets its contract: each field is read at its place.
use Rattle.header.specs.Fields.{word_at}
use Rattle.header.specs.Inner.{inner_of}
use Rattle.header.proofs.inner.full_header.Goals as goal

pub returns : goal.returns
unfolding inner_of word_at
returns c = rw (c.address-source.ensures, c.pair-payload.ensures)
