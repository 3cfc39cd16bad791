-- `settings::locators::repeated` meets its contract: the chain asks each locator whether a later one is the same.
use mathlib.Core.Path.{refl, ◌∙◌}
use lib.ListN.{take}
use borrow.Author.Tests.{tests}
use Rattle.std.proofs.Common.{rules}
use Rattle.std.proofs.lemmas.Iterator.{YieldsList-from_slice, YieldsList-from_take}
use Rattle.std.proofs.lemmas.Iterator.Consumers.{YieldsList-from_enumerate}
use Rattle.std.proofs.lemmas.Iterator.Search.{any_from_yields_List}
use Rattle.settings.specs.Locators.{same_locator}
use Rattle.settings.proofs.Twice.{later_same, any-later_same}
use Rattle.settings.proofs.locators.repeated.Goals as goal

pub returns : goal.returns
returns c = let a = c.args in
    any_from_yields_List (later_same same_locator (take a.count a.all)) _ _ _ c.any.ensures.ran
    (YieldsList-from_enumerate (YieldsList-from_take a.count (YieldsList-from_slice a.all cc) cc) cc) (λ x b q k. search (rules, tests))
    ∙ any-later_same same_locator (take a.count a.all) 0 (take a.count a.all) refl
