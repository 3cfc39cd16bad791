-- `comparing::blocks::none_wanted` meets its contract: while none was found, none is there.
use mathlib.Core.Path.{◌≡◌}
use native.Mathlib.Omega.{arith}
use lib.ListN.{length}
use Rattle.comparing.specs.Runs.{is_unequal_at}
use Rattle.comparing.proofs.Searching.{none_yet, none_kept_lem}
use Rattle.comparing.proofs.blocks.none_wanted.Goals as goal

pub loop-i-init : goal.loop-i-init
loop-i-init c = let a = c.args in λ h. none_yet (is_unequal_at a.a.now a.b.now) a.wanted 0

pub loop-i-preserved : goal.loop-i-preserved
loop-i-preserved c = let a = c.args in
    none_kept_lem (is_unequal_at a.a.now a.b.now) a.wanted 0 c.loop-i.i c.loop-i.none c.loop-i.invariant

pub returns : goal.returns
returns c = let a = c.args in
    let e : c.loop-i.i ≡ length a.a.now = omega arith in
    rw e at c.loop-i.invariant
