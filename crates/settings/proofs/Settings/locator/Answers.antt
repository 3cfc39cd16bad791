-- `settings::Settings::locator` meets its contract: the locators that count are asked.
use Rattle.settings.specs.Settings.{locator_of}
use Rattle.settings.proofs.Settings.locator.Goals as goal

pub returns : goal.returns
unfolding locator_of
returns c = c.locator_address.ensures
