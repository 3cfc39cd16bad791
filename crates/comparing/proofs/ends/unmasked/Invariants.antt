-- `comparing::ends::unmasked` meets its contract: a turn counts the ends in one block of those that are left.
use Prim.Native.Nat.{◌+◌, ◌-◌, ◌≤◌}
use mathlib.Core.Path.{◌≡◌}
use Rattle.comparing.specs.Runs.{is_unequal_at}
use Rattle.comparing.specs.Search.{ends}
use Rattle.comparing.proofs.ends.unmasked.Given as goal

abbrev pub invariant-loop-p : goal.invariant-loop-p
invariant-loop-p l = (l.start ≤ l.p) × (l.p ≤ l.end) × (l.n + ends (is_unequal_at l.a l.b) l.p l.end ≡ ends (is_unequal_at l.a l.b) l.start l.end)

abbrev pub decreases-loop-p : goal.decreases-loop-p
decreases-loop-p l = l.end - l.p
