-- `settings::locators::has_address` meets its contract: none of the locators passed fits, so what is left to ask is the rest of them.
use borrow.Author.Tests.{eq-eqb, ne_eqb}
use native.Mathlib.Omega.{arith}
use Prim.Native.Nat.{min}
use mathlib.Core.Path.{◌≡◌, sym, ◌∙◌}
use lib.ListN.{length}
use Rattle.lists.proofs.AnyLaws.{any_here, any-later, front-end}
use Rattle.lists.proofs.Parts.{take-least, unmapped}
use Rattle.settings.specs.Locators.{no_locator, is_at}
use Rattle.settings.proofs.locators.has_address.Goals as goal

pub loop-i-init : goal.loop-i-init
loop-i-init c = let a = c.args in
    let full : length a.all ≡ 8 = search unmapped in
    let e : min a.count 8 ≡ min a.count (length a.all) = omega arith in
    rw (e, take-least a.count a.all)

pub returns-then-l-a : goal.returns-then-l-a
returns-then-l-a c = let a = c.args in
    let full : length a.all ≡ 8 = search unmapped in
    sym (c.loop-i.invariant ∙ any_here a.all (min a.count 8) c.loop-i.i no_locator (omega arith) (omega arith) (is_at a.a) (eq-eqb _ _ c.if-l-a.true))

pub loop-i-preserved : goal.loop-i-preserved
loop-i-preserved c = let a = c.args in
    let full : length a.all ≡ 8 = search unmapped in
    c.loop-i.invariant ∙ any-later a.all (min a.count 8) c.loop-i.i no_locator (omega arith) (omega arith) (is_at a.a) (ne_eqb _ _ c.if-l-a.false)

pub returns : goal.returns
returns c = sym (rw (front-end c.args.all (min c.args.count 8) c.loop-i.i (omega arith)) at c.loop-i.invariant)
