-- `input::recording::next` meets its contract.
use Rattle.input.proofs.recording.next.Goals as goal

pub returns : goal.returns
returns c = rw (c.tail.ensures, c.size_of.ensures)
