-- `sending::judging::packet_malformed` meets its contract: a packet without a whole header is malformed whatever that says.
use Rattle.std.proofs.Common.{lt-ltb}
use Rattle.header.specs.Inner.{is_packet_malformed}
use Rattle.sending.proofs.judging.packet_malformed.Goals as goal

pub returns-then-packet-lt-INNER_HEADER : goal.returns-then-packet-lt-INNER_HEADER
unfolding is_packet_malformed
returns-then-packet-lt-INNER_HEADER c = simp (lt-ltb _ _ c.if-packet-lt-INNER_HEADER.true)

pub returns : goal.returns
returns c = rw (c.packet_malformed.ensures, c.inner_header.ensures)
