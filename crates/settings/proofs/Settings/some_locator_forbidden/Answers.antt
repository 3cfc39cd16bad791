-- `settings::Settings::some_locator_forbidden` meets its contract: the chain asks the locators that count.
use mathlib.Core.Path.{◌∙◌}
use lib.ListN.{take}
use borrow.Author.Tests.{tests}
use Rattle.std.proofs.Common.{rules}
use Rattle.std.proofs.lemmas.Iterator.{YieldsList-from_slice, YieldsList-from_take}
use Rattle.std.proofs.lemmas.Iterator.Search.{any_from_yields_List}
use Rattle.lists.proofs.Chains.{list-any}
use Rattle.settings.specs.Settings.{is_forbidden_locator, locators_of}
use Rattle.settings.proofs.Settings.some_locator_forbidden.Goals as goal

pub returns : goal.returns
returns c = let s = c.args.self in
    any_from_yields_List (is_forbidden_locator s) _ _ _ c.any.ensures.ran (YieldsList-from_take s.locator_count (YieldsList-from_slice s.locators cc) cc) (λ x b q k. search (rules, tests))
    ∙ list-any (is_forbidden_locator s) (locators_of s)
