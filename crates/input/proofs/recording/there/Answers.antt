-- `input::recording::there` meets its contract.
use Rattle.input.proofs.recording.there.Goals as goal

pub returns : goal.returns
returns c = rw c.size_of.ensures
