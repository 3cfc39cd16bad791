-- The first i options stand one behind another.
use Prim.Native.Nat.{◌*◌}
use mathlib.Core.Path.{◌≡◌}
use mathlib.Core.List.{map, flatten}
use lib.ListN.{take, length}
use Rattle.lent.specs.Written.{written}
use Rattle.advertisements.specs.Options.{prefix_option}
use Rattle.advertisements.proofs.write_prefixes.Given as goal

abbrev pub invariant-loop-i : goal.invariant-loop-i
invariant-loop-i l = (length l.out ≡ length l.initial.out) × (length (flatten (map prefix_option (take l.i l.prefixes))) ≡ l.i * 32)
    × (l.out ≡ written (flatten (map prefix_option (take l.i l.prefixes))) l.initial.out)
