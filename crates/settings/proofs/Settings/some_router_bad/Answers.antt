-- `settings::Settings::some_router_bad` meets its contract: none of the routers passed is bad, so what is left to ask is the rest of them.
use native.Mathlib.Omega.{arith}
use Prim.Native.Nat.{min}
use mathlib.Core.Path.{◌≡◌, sym, ◌∙◌}
use lib.ListN.{length}
use Rattle.lists.proofs.AnyLaws.{any_here, any-later, front-end}
use Rattle.lists.proofs.Parts.{take-least}
use Rattle.settings.specs.Settings.{is_bad_end}
use Rattle.settings.proofs.Settings.some_router_bad.Goals as goal

pub loop-i-init : goal.loop-i-init
loop-i-init c = let a = c.args in
    let e : min a.count 16 ≡ min a.count (length a.routers) = omega arith in
    rw (e, take-least a.count a.routers)

pub returns-then-bad_end : goal.returns-then-bad_end
returns-then-bad_end c = let a = c.args in
    sym (c.loop-i.invariant ∙ any_here a.routers (min a.count 16) c.loop-i.i 0 (omega arith) (omega arith) (is_bad_end a.self) (sym c.bad_end.ensures ∙ c.if-bad_end.true))

pub loop-i-preserved : goal.loop-i-preserved
loop-i-preserved c = let a = c.args in
    c.loop-i.invariant ∙ any-later a.routers (min a.count 16) c.loop-i.i 0 (omega arith) (omega arith) (is_bad_end a.self) (sym c.bad_end.ensures ∙ c.if-bad_end.false)

pub returns : goal.returns
returns c = sym (rw (front-end c.args.routers (min c.args.count 16) c.loop-i.i (omega arith)) at c.loop-i.invariant)
