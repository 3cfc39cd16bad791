-- `advertisements::Advertisement::some_too_long` meets its contract: the chains ask those that count.
use mathlib.Core.Path.{◌≡◌, ◌∙◌}
use borrow.Author.Tests.{tests}
use Rattle.std.proofs.Common.{rules}
use Rattle.std.proofs.lemmas.Iterator.{YieldsList-from_slice}
use Rattle.std.proofs.lemmas.Iterator.Search.{any_from_yields_List}
use Rattle.lists.specs.Any.{any_of}
use Rattle.lists.proofs.Chains.{list-any}
use Rattle.advertisements.specs.Advertisement.{prefixes_of, routes_of, is_prefix_too_long, is_route_too_long}
use Rattle.advertisements.proofs.Advertisement.some_too_long.Goals as goal

pub returns : goal.returns
returns c = let a = c.args.self.now in
    let p : c.any-prefix.result ≡ any_of is_prefix_too_long (prefixes_of a) =
    any_from_yields_List is_prefix_too_long _ _ c.any-prefix.result c.any-prefix.ensures.ran (YieldsList-from_slice (prefixes_of a) cc) (λ x b q k. search (rules, tests))
    ∙ list-any is_prefix_too_long (prefixes_of a) in
    let r : c.any-route.result ≡ any_of is_route_too_long (routes_of a) =
    any_from_yields_List is_route_too_long _ _ c.any-route.result c.any-route.ensures.ran (YieldsList-from_slice (routes_of a) cc) (λ x b q k. search (rules, tests))
    ∙ list-any is_route_too_long (routes_of a) in
    rw (p, r)
