-- `routers::due_among`: none of those passed has the address.
use mathlib.Core.Path.{◌≡◌}
use lib.ListN.{drop}
use Rattle.routers.specs.Routers.{held_in, due_or}
use Rattle.routers.proofs.due_among.Given as goal

abbrev pub invariant-loop-i : goal.invariant-loop-i
invariant-loop-i l = due_or l.other l.address (held_in l.addresses l.dues l.count) ≡ due_or l.other l.address (drop l.i (held_in l.addresses l.dues l.count))
