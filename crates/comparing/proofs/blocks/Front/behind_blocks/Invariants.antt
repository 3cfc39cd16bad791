-- `comparing::blocks::Front::behind_blocks` meets its contract: no block is passed that has a wanted place.
use Prim.Native.Nat.{◌-◌, ◌≤◌}
use Rattle.comparing.specs.Runs.{is_unequal_at}
use Rattle.comparing.specs.Search.{NoneIn}
use Rattle.comparing.proofs.blocks.Front.behind_blocks.Given as goal

abbrev pub invariant-loop-p : goal.invariant-loop-p
invariant-loop-p l = (l.start ≤ l.p) × (l.p ≤ l.end) × NoneIn (is_unequal_at l.a l.b) l.wanted l.start l.p

abbrev pub decreases-loop-p : goal.decreases-loop-p
decreases-loop-p l = l.end - l.p
