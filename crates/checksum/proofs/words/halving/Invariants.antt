-- `checksum::words::halving` meets its contract: what is left is shorter than two blocks, and in the end than one word.
use Rattle.std.proofs.Common.{◌≡◌, ℕ, ◌+◌, ◌*◌, ◌<◌, ◌≤◌, ◌⊎◌, length}
use Rattle.checksum.specs.Folding.{word_sum}
use Rattle.checksum.specs.Words.{run_words, PowerOfTwo}
use Rattle.checksum.proofs.words.halving.Given as goal

-- so many bytes are fewer than two blocks of n words; where n has come to 0, fewer than a word
abbrev pub Shorter : ℕ → ℕ → Type 0
Shorter left n = (PowerOfTwo n × (left < 4 * n)) ⊎ ((n ≡ 0) × (left < 2))

abbrev pub invariant-loop-n : goal.invariant-loop-n
invariant-loop-n l = (l.sum + word_sum l.rest ≡ word_sum l.s) × (l.n ≤ run_words) × Shorter (length l.rest) l.n

abbrev pub decreases-loop-n : goal.decreases-loop-n
decreases-loop-n l = l.n
