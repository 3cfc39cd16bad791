-- `input::section::behind` meets its contract.
use Rattle.input.proofs.section.behind.Goals as goal

pub returns : goal.returns
returns c = rw (c.tail.ensures, c.size_of.ensures)
