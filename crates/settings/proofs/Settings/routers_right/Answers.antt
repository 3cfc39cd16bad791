-- `settings::Settings::routers_right` meets its contract: each call gives its part of the test.
use Rattle.settings.specs.Settings.{are_routers_right}
use Rattle.settings.proofs.Settings.routers_right.Goals as goal

pub returns : goal.returns
unfolding are_routers_right
returns c = rw (c.some_router_bad.ensures, c.distinct.ensures)
