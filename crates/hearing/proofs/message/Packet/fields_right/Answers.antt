-- `hearing::message::Packet::fields_right` meets its contract.
use Rattle.hearing.specs.Message.{has_fields}
use Rattle.hearing.proofs.message.Packet.fields_right.Goals as goal

pub returns : goal.returns
unfolding has_fields
returns c = rw (c.byte-2.ensures, c.byte.ensures, c.tail-message.ensures)
