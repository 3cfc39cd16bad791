-- `routers::dues_after`: the first i places are done, the others as they were.
--
use Prim.Native.Nat.{◌≤◌}
use mathlib.Core.Path.{◌≡◌}
use mathlib.Core.List.{map, ◌++◌}
use lib.ListN.{take, drop}
use Rattle.routers.specs.declared.Router.{Router}
use Rattle.routers.specs.Routers.{pairs, due_if}
use Rattle.routers.proofs.Rows.{places}
use Rattle.routers.proofs.dues_after.Given as goal

abbrev pub invariant-loop-i : goal.invariant-loop-i
invariant-loop-i l = (l.i ≤ places) × (l.dues ≡ map (λ (r : Router). (due_if l.address l.due r).due) (take l.i (pairs l.addresses l.old)) ++ drop l.i l.old)
