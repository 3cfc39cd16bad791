-- `settings::Settings::accepted_with` meets its contract: each call gives its part of the test.
use Rattle.settings.specs.Settings.{are_pair_accepted}
use Rattle.settings.proofs.Settings.accepted_with.Goals as goal

pub returns : goal.returns
unfolding are_pair_accepted
returns c = rw (c.shares_address.ensures, c.accepted-2.ensures, c.accepted.ensures)
