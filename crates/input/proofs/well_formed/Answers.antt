-- `input::well_formed` meets its contract.
use Rattle.input.specs.Input.{is_well_formed}
use Rattle.input.proofs.well_formed.Goals as goal

pub returns : goal.returns
unfolding is_well_formed
returns c = rw (c.well_formed-2.ensures, c.behind_settings.ensures, c.sections_whole.ensures)
