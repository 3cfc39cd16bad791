-- `routers::distinct`: those passed are distinct from all behind them, so those from i on decide.
use mathlib.Core.Path.{◌≡◌}
use lib.ListN.{take, drop}
use Rattle.routers.specs.Routers.{are_distinct}
use Rattle.routers.proofs.distinct.Given as goal

abbrev pub invariant-loop-i : goal.invariant-loop-i
invariant-loop-i l = are_distinct (take l.count l.addresses) ≡ are_distinct (drop l.i (take l.count l.addresses))
