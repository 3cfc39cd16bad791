-- `checksum::fold` meets its contract: bringing a carry back changes nothing of what is folded, and a word is folded.
use Rattle.std.proofs.Common.{arith}
use Rattle.checksum.proofs.Laws.{folded_once, folded-word}
use Rattle.checksum.proofs.fold.Goals as goal

pub loop-left-preserved : goal.loop-left-preserved
loop-left-preserved c = omega (arith, folded_once c.loop-left.left)

pub returns : goal.returns
returns c = omega (arith, folded-word c.loop-left.left (omega arith))
