-- `comparing::blocks::Front::behind_block` meets its contract: no block is passed that has a wanted place.
use Prim.Native.Nat.{◌+◌, ◌-◌}
use mathlib.Core.Path.{◌≡◌}
use native.Mathlib.Omega.{arith}
use lib.ListN.{length-take, length-drop}
use Rattle.comparing.specs.Runs.{is_unequal_at}
use Rattle.comparing.proofs.Searching.{none_yet, none-block}
use Rattle.comparing.proofs.blocks.Front.behind_block.Goals as goal

pub returns-then-end-start : goal.returns-then-end-start
returns-then-end-start c = let a = c.args in
    (omega arith, omega arith, none_yet (is_unequal_at a.self.a.now a.self.b.now) a.wanted a.start)

pub none_wanted-requires : goal.none_wanted-requires
none_wanted-requires c = simp (length-take, length-drop) (omega arith)

pub returns-then-none_wanted : goal.returns-then-none_wanted
returns-then-none_wanted c = let a = c.args in
    let e : a.start + a.size - a.start ≡ a.size = omega arith in
    (omega arith, omega arith, none-block a.wanted a.self.a.now a.self.b.now a.start a.size (omega arith) (rw e at (c.none_wanted.ensures c.if-none_wanted.true)))

pub returns : goal.returns
returns c = let a = c.args in
    (omega arith, omega arith, none_yet (is_unequal_at a.self.a.now a.self.b.now) a.wanted a.start)
