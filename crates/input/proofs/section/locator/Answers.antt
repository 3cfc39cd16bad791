-- `input::section::locator` meets its contract.
use Rattle.input.specs.Section.{locator_of}
use Rattle.input.proofs.section.locator.Goals as goal

pub returns : goal.returns
unfolding locator_of
returns c = rw (c.byte.ensures, c.quad.ensures)
