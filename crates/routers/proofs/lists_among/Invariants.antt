-- `routers::lists_among`: none of those passed is the address.
use Prim.Native.Nat.{min}
use mathlib.Core.Path.{◌≡◌}
use lib.ListN.{length, take, drop}
use Rattle.routers.specs.Routers.{among}
use Rattle.routers.proofs.lists_among.Given as goal

abbrev pub invariant-loop-i : goal.invariant-loop-i
invariant-loop-i l = among l.address (take l.count l.addresses) ≡ among l.address (drop l.i (take (min l.count (length l.addresses)) l.addresses))
