-- `settings::locators::has_locator` meets its contract: none of the locators passed fits, so what is left to ask is the rest of them.
use native.Mathlib.Omega.{arith}
use Prim.Native.Nat.{min}
use mathlib.Core.Path.{◌≡◌, sym, ◌∙◌}
use lib.ListN.{length}
use Rattle.lists.proofs.AnyLaws.{any_here, any-later, front-end}
use Rattle.lists.proofs.Parts.{take-least, unmapped}
use Rattle.settings.specs.Locators.{no_locator, is_locator}
use Rattle.settings.proofs.Pairs.{pairs-same, pairs-other}
use Rattle.settings.proofs.locators.has_locator.Goals as goal

pub loop-i-init : goal.loop-i-init
loop-i-init c = let a = c.args in
    let full : length a.all ≡ 8 = search unmapped in
    let e : min a.count 8 ≡ min a.count (length a.all) = omega arith in
    rw (e, take-least a.count a.all)

pub returns-then-pair-sought : goal.returns-then-pair-sought
returns-then-pair-sought c = let a = c.args in
    let full : length a.all ≡ 8 = search unmapped in
    sym (c.loop-i.invariant ∙ any_here a.all (min a.count 8) c.loop-i.i no_locator (omega arith) (omega arith) (is_locator a.a a.interface) (pairs-same c.pair.result c.pair-sought.result _ _ _ _ c.pair.ensures.0 c.pair.ensures.1 c.pair-sought.ensures.0 c.pair-sought.ensures.1 c.if-pair-sought.true))

pub loop-i-preserved : goal.loop-i-preserved
loop-i-preserved c = let a = c.args in
    let full : length a.all ≡ 8 = search unmapped in
    c.loop-i.invariant ∙ any-later a.all (min a.count 8) c.loop-i.i no_locator (omega arith) (omega arith) (is_locator a.a a.interface) (pairs-other c.pair.result c.pair-sought.result _ _ _ _ c.pair.ensures.0 c.pair.ensures.1 c.pair-sought.ensures.0 c.pair-sought.ensures.1 c.if-pair-sought.false)

pub returns : goal.returns
returns c = sym (rw (front-end c.args.all (min c.args.count 8) c.loop-i.i (omega arith)) at c.loop-i.invariant)
