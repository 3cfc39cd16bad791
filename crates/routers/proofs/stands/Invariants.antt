-- `routers::stands`: the address stands there if it is one of those passed, or one from i on.
use mathlib.Core.Path.{◌≡◌}
use mathlib.Core.Bool.{◌||◌}
use lib.ListN.{take, drop}
use Rattle.routers.specs.Routers.{among}
use Rattle.routers.proofs.stands.Given as goal

abbrev pub invariant-loop-i : goal.invariant-loop-i
invariant-loop-i l = among l.address (drop l.from (take l.count l.addresses)) ≡ (l.found || among l.address (drop l.i (take l.count l.addresses)))
