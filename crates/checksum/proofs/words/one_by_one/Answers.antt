-- `checksum::words::one_by_one` meets its contract: a turn takes two bytes off what is left.
use Rattle.std.proofs.Common.{◌*◌, drop, arith, length-drop}
use Rattle.checksum.proofs.Blocks.{next_pair, words-none, words_fit, bytes_in}
use Rattle.checksum.proofs.words.one_by_one.Goals as goal

pub overflow_add-sum : goal.overflow_add-sum
overflow_add-sum c = omega (arith, words_fit c.args.s.now (bytes_in _ c.type_inv.s))

pub loop-k-preserved : goal.loop-k-preserved
loop-k-preserved c = omega (arith, next_pair c.args.s.now c.loop-k.k)

pub returns : goal.returns
returns c =
    let s = c.args.s.now in
    omega (arith, words-none (drop (2 * c.loop-k.k) s) (omega (arith, length-drop (2 * c.loop-k.k) s)))
