-- `checksum::words::run` meets its contract: of at most 256 words the high bytes have a sum below 65,536, so the modulus loses nothing of it.
use Rattle.std.proofs.Common.{◌≡◌, ◌+◌, ◌*◌, ◌≤◌, drop}
use Rattle.checksum.specs.Folding.{word_sum}
use Rattle.checksum.specs.Words.{high_sum}
use Rattle.checksum.proofs.words.run.Given as goal

abbrev pub invariant-loop-k : goal.invariant-loop-k
invariant-loop-k l =
    (l.low ≤ 255 * l.k) × (high_sum l.exchanged l.low ≤ 255 * l.k)
    × (high_sum l.exchanged l.low * 256 + l.low + word_sum (drop (2 * l.k) l.s) ≡ word_sum l.s)
