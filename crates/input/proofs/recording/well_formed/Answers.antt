-- `input::recording::well_formed` meets its contract: what is left to see is in the bytes that are left.
use Prim.Native.Nat.{◌-◌}
use mathlib.Core.Path.{◌≡◌, ◌∙◌}
use native.Mathlib.Omega.{arith}
use Rattle.input.specs.Recording.{is_recording}
use Rattle.input.proofs.Laws.{there_turn}
use Rattle.input.proofs.recording.well_formed.Goals as goal

pub loop-i-init : goal.loop-i-init
unfolding is_recording
loop-i-init c = let e : c.count-n.result - 0 ≡ c.count-n.result = omega arith in
    rw (e, c.count-n.ensures, c.first-rest.ensures)

pub loop-i-preserved : goal.loop-i-preserved
loop-i-preserved c = rw (c.there-good.ensures, c.next-rest.ensures) (there_turn c.count-n.result c.loop-i._i c.loop-i.good c.loop-i.rest.now (omega arith) ∙ c.loop-i.invariant)

pub returns : goal.returns
returns c = let e : c.count-n.result - c.loop-i._i ≡ 0 = omega arith in
    rw c.is_empty.ensures (rw e at c.loop-i.invariant)
