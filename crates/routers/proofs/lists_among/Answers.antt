-- `routers::lists_among`: none of those passed is the address.
use native.Mathlib.Omega.{arith}
use Prim.Native.Nat.{min}
use mathlib.Core.Path.{sym, ◌∙◌}
use lib.Dec.{eqb}
use lib.ListN.{length}
use borrow.Author.Tests.{eq-eqb, ne_eqb}
use Rattle.lists.proofs.AnyLaws.{any_here, any-later, front-end}
use Rattle.lists.proofs.Parts.{take-least}
use Rattle.routers.proofs.lists_among.Goals as goal

pub loop-i-init : goal.loop-i-init
loop-i-init c = let a = c.args in rw (take-least a.count a.addresses.now)

pub returns-then-addresses-i : goal.returns-then-addresses-i
returns-then-addresses-i c = let a = c.args in let bs = a.addresses.now in
    sym (c.loop-i.invariant ∙ any_here bs (min a.count (length bs)) c.loop-i.i 0 (omega arith) (omega arith) (λ x. eqb x a.address) (eq-eqb _ _ c.if-addresses-i.true))

pub loop-i-preserved : goal.loop-i-preserved
loop-i-preserved c = let a = c.args in let bs = a.addresses.now in
    c.loop-i.invariant ∙ any-later bs (min a.count (length bs)) c.loop-i.i 0 (omega arith) (omega arith) (λ x. eqb x a.address) (ne_eqb _ _ c.if-addresses-i.false)

pub returns : goal.returns
returns c = let bs = c.args.addresses.now in
    sym (rw (front-end bs (min c.args.count (length bs)) c.loop-i.i (omega arith)) at c.loop-i.invariant)
