-- `comparing::ends::in_block` meets its contract: a turn counts one place of those that are left.
use Prim.Native.Nat.{◌+◌, ◌-◌}
use mathlib.Core.Path.{◌≡◌}
use lib.ListN.{length}
use Rattle.comparing.specs.Runs.{is_unequal_at}
use Rattle.comparing.specs.Search.{ends}
use Rattle.comparing.proofs.ends.in_block.Given as goal

abbrev pub invariant-loop-i : goal.invariant-loop-i
invariant-loop-i l = l.n + ends (is_unequal_at l.a l.b) l.i (length l.a - 1) ≡ ends (is_unequal_at l.a l.b) 0 (length l.a - 1)
