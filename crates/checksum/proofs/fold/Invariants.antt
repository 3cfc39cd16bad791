-- `checksum::fold` meets its contract: bringing a carry back changes nothing of what is folded, and a word is folded.
use Rattle.std.proofs.Common.{◌≡◌, ◌≤◌}
use Rattle.checksum.specs.Folding.{folded}
use Rattle.checksum.proofs.fold.Given as goal

abbrev pub invariant-loop-left : goal.invariant-loop-left
invariant-loop-left l = (l.left ≤ l.x) × (folded l.left ≡ folded l.x)

abbrev pub decreases-loop-left : goal.decreases-loop-left
decreases-loop-left l = l.left
