-- `checksum::words::pair` meets its contract.
use Rattle.std.proofs.Common.{◌<◌, ◌+◌, get_or, arith}
use Rattle.checksum.proofs.Blocks.{words-two}
use Rattle.checksum.proofs.words.pair.Goals as goal

pub returns : goal.returns
returns c =
    let s = c.args.s.now in
    let first : get_or s c.args.i 0 < 256 = (c.type_inv.s c.args.i).fits in
    let second : get_or s (c.args.i + 1) 0 < 256 = (c.type_inv.s (c.args.i + 1)).fits in
    omega (arith, words-two s c.args.i (omega arith))
