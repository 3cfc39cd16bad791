-- `comparing::blocks::Front::behind_blocks` meets its contract: no block is passed that has a wanted place.
use Prim.Native.Nat.{◌+◌, ◌-◌}
use mathlib.Core.Path.{◌≡◌}
use native.Mathlib.Omega.{arith}
use lib.ListN.{length-take, length-drop}
use Rattle.comparing.specs.Runs.{is_unequal_at}
use Rattle.comparing.proofs.Searching.{none_yet, none_more, none-block}
use Rattle.comparing.proofs.blocks.Front.behind_blocks.Goals as goal

pub loop-p-init : goal.loop-p-init
loop-p-init c = let a = c.args in (omega arith, omega arith, none_yet (is_unequal_at a.self.a.now a.self.b.now) a.wanted a.start)

pub none_wanted-requires : goal.none_wanted-requires
none_wanted-requires c = simp (length-take, length-drop) (omega arith)

pub returns-then-not-none_wanted : goal.returns-then-not-none_wanted
returns-then-not-none_wanted c = c.loop-p.invariant

pub loop-p-preserved : goal.loop-p-preserved
loop-p-preserved c = let a = c.args in
    let p = c.loop-p.p in
    let e : p + 64 - p ≡ 64 = omega arith in
    let none = c.none_wanted.ensures c.if-not-none_wanted.false in
    (omega arith, omega arith, none_more (is_unequal_at a.self.a.now a.self.b.now) a.wanted a.start p (p + 64) c.loop-p.invariant.2 (none-block a.wanted a.self.a.now a.self.b.now p 64 (omega arith) (rw e at none)))

pub returns : goal.returns
returns c = c.loop-p.invariant
