-- `checksum::words::run` meets its contract: of at most 256 words the high bytes have a sum below 65,536, so the modulus loses nothing of it.
use Rattle.std.proofs.Common.{◌*◌, drop, arith, length-drop}
use Rattle.checksum.proofs.Blocks.{next_pair, words-none, high_sum_step, high_sum-none}
use Rattle.checksum.proofs.words.run.Goals as goal

pub loop-k-init : goal.loop-k-init
loop-k-init c = omega (arith, high_sum-none)

pub loop-k-preserved : goal.loop-k-preserved
loop-k-preserved c =
    let l = c.loop-k in
    let high = high_sum_step l.exchanged l.low c.pair-x.result (omega arith) in
    let next = next_pair c.args.s.now l.k in
    (omega arith, omega arith, omega arith)

pub returns : goal.returns
returns c =
    let s = c.args.s.now in
    omega (arith, words-none (drop (2 * c.loop-k.k) s) (omega (arith, length-drop (2 * c.loop-k.k) s)))
