-- `checksum::words::few` meets its contract: 128 bytes are two blocks of 32 words.
use Rattle.std.proofs.Common.{refl, arith}
use Rattle.checksum.proofs.words.few.Goals as goal

pub halving-requires : goal.halving-requires
halving-requires c = (omega arith, (5, refl), omega arith)
