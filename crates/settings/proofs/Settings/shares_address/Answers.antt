-- `settings::Settings::shares_address` meets its contract: the chain asks the locators that count.
use mathlib.Core.Path.{◌∙◌}
use lib.ListN.{take}
use borrow.Author.Tests.{tests}
use Rattle.std.proofs.Common.{rules}
use Rattle.std.proofs.lemmas.Iterator.{YieldsList-from_slice, YieldsList-from_take}
use Rattle.std.proofs.lemmas.Iterator.Search.{any_from_yields_List}
use Rattle.lists.proofs.Chains.{list-any}
use Rattle.settings.specs.Settings.{is_ours, locators_of, share_address}
use Rattle.settings.specs.declared.locators.Locator.{Locator}
use Rattle.settings.proofs.Settings.shares_address.Goals as goal

pub returns : goal.returns
unfolding share_address
returns c = let s = c.args.self in
    let test = λ (l : Locator). is_ours c.args.other l.address in
    any_from_yields_List test _ _ _ c.any.ensures.ran (YieldsList-from_take s.locator_count (YieldsList-from_slice s.locators cc) cc) (λ x b q k. search (rules, tests))
    ∙ list-any test (locators_of s)
