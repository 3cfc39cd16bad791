-- `settings::Settings::forbidden_to` meets its contract: it is the plain set.
use Rattle.settings.specs.Settings.{forbidden_to}
use Rattle.settings.proofs.Settings.forbidden_to.Goals as goal

pub returns : goal.returns
unfolding forbidden_to
returns c = c.forbidden.ensures
