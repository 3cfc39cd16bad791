-- `settings::Settings::new` meets its contract: the reporting address is formed of locator 0.
use Rattle.settings.specs.Settings.{defaults_for}
use Rattle.settings.proofs.Settings.new.Goals as goal

pub returns : goal.returns
unfolding defaults_for
returns c = rw c.link_local-reporting.ensures
