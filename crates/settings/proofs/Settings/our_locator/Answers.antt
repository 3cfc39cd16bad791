-- `settings::Settings::our_locator` meets its contract: the locators that count are asked.
use Rattle.settings.specs.Settings.{is_our_locator}
use Rattle.settings.proofs.Settings.our_locator.Goals as goal

pub returns : goal.returns
unfolding is_our_locator
returns c = c.has_locator.ensures
