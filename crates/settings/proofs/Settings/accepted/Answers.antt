-- `settings::Settings::accepted` meets its contract: each call gives its part of the test.
use Rattle.settings.specs.Settings.{is_accepted}
use Rattle.settings.proofs.Settings.accepted.Goals as goal

pub returns : goal.returns
unfolding is_accepted
returns c = rw (c.multicast_or_unspecified.ensures, c.numbers_right.ensures, c.routers_right.ensures, c.locators_right.ensures)
