-- `header::outer::payload` meets its contract: the part ends at the total length or where the bytes end.
use Rattle.header.specs.Outer.{payload_of}
use Rattle.lists.proofs.Parts.{take-least}
use Rattle.header.proofs.outer.payload.Goals as goal

pub returns : goal.returns
unfolding payload_of
returns c = rw (c.tail.ensures, c.min.ensures, take-least)
