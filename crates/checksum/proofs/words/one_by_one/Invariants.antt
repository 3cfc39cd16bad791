-- `checksum::words::one_by_one` meets its contract: the invariant says what is left to add.
use Rattle.std.proofs.Common.{◌≡◌, ◌+◌, ◌*◌, drop}
use Rattle.checksum.specs.Folding.{word_sum}
use Rattle.checksum.proofs.words.one_by_one.Given as goal

abbrev pub invariant-loop-k : goal.invariant-loop-k
invariant-loop-k l = l.sum + word_sum (drop (2 * l.k) l.s) ≡ word_sum l.s
