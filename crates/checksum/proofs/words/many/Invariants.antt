-- `checksum::words::many` meets its contract: the invariant says what is left to add, and that it ends as the slice does.
use Rattle.std.proofs.Common.{◌≡◌, ◌+◌, ◌*◌}
use Rattle.std.specs.Slice.Iter.{chunks_exact_rest, chunks_exact_size}
use Rattle.checksum.specs.Folding.{word_sum}
use Rattle.checksum.specs.Words.{run_words}
use Rattle.checksum.proofs.Blocks.{left_of}
use Rattle.checksum.proofs.words.many.Given as goal

abbrev pub invariant-loop-words : goal.invariant-loop-words
invariant-loop-words l =
    goal.iterator-loop-words.can_next l.words-iterator
    × goal.iterator-loop-words.is_finite l.words-iterator
    × (chunks_exact_size l.words-iterator ≡ 2 * run_words)
    × (l.sum + word_sum (chunks_exact_rest l.words-iterator) ≡ word_sum l.s)
    × (left_of (2 * run_words) (chunks_exact_rest l.words-iterator) ≡ left_of (2 * run_words) l.s)
