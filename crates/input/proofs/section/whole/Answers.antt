-- `input::section::whole` meets its contract.
use Rattle.input.proofs.section.whole.Goals as goal

pub returns : goal.returns
returns c = rw c.size_of.ensures
