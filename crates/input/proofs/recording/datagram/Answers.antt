-- `input::recording::datagram` meets its contract.
use Rattle.input.proofs.recording.datagram.Goals as goal

pub returns : goal.returns
returns c = rw (c.front.ensures, c.length_of.ensures.0, c.tail.ensures)
