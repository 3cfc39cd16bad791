-- `text::decimal_digits` meets its contract: the digits before those written are those of what is left.
use Prim.Native.Nat.{suc, ◌^◌, ◌<◌}
use mathlib.Core.Path.{◌≡◌}
use mathlib.Core.List.{◌++◌}
use lib.ListN.{length, drop}
use Rattle.text.specs.Text.{decimal_up_to, decimal}
use Rattle.text.proofs.decimal_digits.Given as goal

abbrev pub invariant-loop-rest : goal.invariant-loop-rest
invariant-loop-rest l = (l.start < 20) × (length l.bytes ≡ 20) × (l.rest < 10 ^ suc l.start) × (decimal l.n ≡ decimal_up_to l.start l.rest ++ drop (suc l.start) l.bytes)

abbrev pub decreases-loop-rest : goal.decreases-loop-rest
decreases-loop-rest l = l.start
