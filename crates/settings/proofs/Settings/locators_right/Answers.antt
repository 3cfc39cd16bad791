-- `settings::Settings::locators_right` meets its contract: each call gives its part of the test.
use Rattle.settings.specs.Settings.{are_locators_right}
use Rattle.settings.proofs.Settings.locators_right.Goals as goal

pub returns : goal.returns
unfolding are_locators_right
returns c = rw (c.some_locator_forbidden.ensures, c.repeated.ensures)
