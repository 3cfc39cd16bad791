-- `routers::RouterList::replaced`: the first i places have the new due times, the others the old ones.
--
use Prim.Native.Nat.{◌≤◌}
use mathlib.Core.Path.{◌≡◌}
use mathlib.Core.List.{map, ◌++◌}
use lib.ListN.{take, drop}
use Rattle.routers.specs.Routers.{held_in, due_or}
use Rattle.routers.proofs.Rows.{places}
use Rattle.routers.proofs.RouterList.replaced.Given as goal

abbrev pub invariant-loop-i : goal.invariant-loop-i
invariant-loop-i l = (l.i ≤ places) × (l.self.dues ≡ map (λ a. due_or l.now a (held_in l.old l.dues l.old_count)) (take l.i l.addresses) ++ drop l.i l.dues)
