-- `checksum::final_input` meets its contract: few bytes are fewer than a chunk.
use Rattle.std.proofs.Common.{arith}
use Rattle.checksum.proofs.FoldInputs.{final-end}
use Rattle.checksum.proofs.final_input.Goals as goal

pub returns-then-s-lt-FEW : goal.returns-then-s-lt-FEW
returns-then-s-lt-FEW c = let a = c.args in omega (arith, final-end a.start a.s.now (omega arith))
