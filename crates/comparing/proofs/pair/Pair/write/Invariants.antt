-- `comparing::pair::Pair::write` meets its contract: a turn writes the first of the runs that are left behind what was written.
use Prim.Native.Nat.{◌+◌, ◌-◌, ◌*◌, max}
use mathlib.Core.Path.{◌≡◌}
use lib.ListN.{length}
use Rattle.comparing.specs.Runs.{numbered, runs}
use Rattle.comparing.proofs.Running.{left, AtRun}
use Rattle.comparing.proofs.Writing.{Done}
use Rattle.comparing.proofs.pair.Pair.write.Given as goal

abbrev pub invariant-loop-p : goal.invariant-loop-p
invariant-loop-p l = AtRun l.self.masked l.self.a.now l.self.b.now l.p × (length l.out ≡ length l.initial.out) × (l.at + 6 * length (left l.self.masked l.self.a.now l.self.b.now l.p) ≡ l.start + 6 * length (runs l.self.masked l.self.a.now l.self.b.now))
    × Done (numbered l.number (runs l.self.masked l.self.a.now l.self.b.now)) (numbered l.number (left l.self.masked l.self.a.now l.self.b.now l.p)) l.initial.out l.start l.out l.at

abbrev pub decreases-loop-p : goal.decreases-loop-p
decreases-loop-p l = max (length l.self.a.now) (length l.self.b.now) - l.p
