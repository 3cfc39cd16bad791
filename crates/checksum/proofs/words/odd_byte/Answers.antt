-- `checksum::words::odd_byte` meets its contract: a byte is left, or none.
use Rattle.std.proofs.Common.{arith}
use Rattle.checksum.proofs.Blocks.{words_one, words-none}
use Rattle.checksum.proofs.words.odd_byte.Goals as goal

pub returns-in-len1 : goal.returns-in-len1
returns-in-len1 c = omega (arith, words_one c.args.s.now (omega arith))

pub returns-in_default : goal.returns-in_default
returns-in_default c = omega (arith, words-none c.args.s.now (omega arith))
