-- `header::fields::address` meets its contract: the bytes are those of the tail.
use Rattle.header.specs.Fields.{address_at}
use Rattle.header.proofs.fields.address.Goals as goal

pub returns-then-t-lt16 : goal.returns-then-t-lt16
unfolding address_at
returns-then-t-lt16 c = rw (c.padded.ensures, c.tail-t.ensures)

pub returns-else-t-lt16 : goal.returns-else-t-lt16
unfolding address_at
returns-else-t-lt16 c = rw (c.full_address.ensures, c.tail-t.ensures)
