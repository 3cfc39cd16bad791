-- `settings::Settings::numbers_right` meets its contract: the tests are the definition.
use borrow.Author.Rules.{rules}
use Rattle.settings.specs.Settings.{are_numbers_right}
use Rattle.settings.proofs.Settings.numbers_right.Goals as goal

pub returns : goal.returns
unfolding are_numbers_right
returns c = search rules
