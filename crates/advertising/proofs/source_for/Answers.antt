-- `advertising::source_for` meets its contract: at each return the steps that led there say which row holds.
use Rattle.std.proofs.Common.{rules}
use Rattle.settings.specs.Locators.{is_no_locator}
use Rattle.advertising.specs.Advertise.{asker_check, source_for}
use Rattle.advertising.proofs.source_for.Goals as goal

pub returns-then-inner_malformed : goal.returns-then-inner_malformed
unfolding asker_check source_for
returns-then-inner_malformed c = search rules

pub returns-in_err-source : goal.returns-in_err-source
unfolding asker_check source_for is_no_locator
returns-in_err-source c = search rules

pub returns-then-not-solicitation : goal.returns-then-not-solicitation
unfolding asker_check source_for is_no_locator
returns-then-not-solicitation c = search rules

pub returns-then-not-asker_right : goal.returns-then-not-asker_right
unfolding asker_check source_for is_no_locator
returns-then-not-asker_right c = search rules

pub returns : goal.returns
unfolding asker_check source_for is_no_locator
returns c = search rules
