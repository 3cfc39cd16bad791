-- `settings::Settings::bad_end` meets its contract: each call gives its part of the test.
use Rattle.settings.specs.Settings.{is_bad_end}
use Rattle.settings.proofs.Settings.bad_end.Goals as goal

pub returns-then-forbidden_to : goal.returns-then-forbidden_to
unfolding is_bad_end
returns-then-forbidden_to c = rw (← c.forbidden_to.ensures, c.if-forbidden_to.true)

pub returns : goal.returns
unfolding is_bad_end
returns c = rw (← c.forbidden_to.ensures, c.if-forbidden_to.false) c.ours.ensures
