-- `settings::Settings::ours` meets its contract: the locators that count are asked.
use Rattle.settings.specs.Settings.{is_ours}
use Rattle.settings.proofs.Settings.ours.Goals as goal

pub returns : goal.returns
unfolding is_ours
returns c = c.has_address.ensures
