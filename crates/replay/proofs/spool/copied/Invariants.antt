-- `replay::spool::copied` is safe and ends: a block that is not the last has a byte.
use Rattle.std.proofs.Common.{◌≤◌, ◌-◌}
use Rattle.replay.proofs.spool.copied.Given as goal

abbrev pub invariant-loop-size : goal.invariant-loop-size
invariant-loop-size l = l.size ≤ 1114112

abbrev pub decreases-loop-size : goal.decreases-loop-size
decreases-loop-size l = 1114112 - l.size
