-- `replay::walk::check` is safe and ends: each turn is at the call behind the last one.
use Rattle.std.proofs.Common.{◌-◌}
use Rattle.replay.proofs.walk.check.Given as goal

abbrev pub decreases-loop-at : goal.decreases-loop-at
decreases-loop-at l = l.end - l.at
