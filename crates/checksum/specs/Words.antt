-- How the code adds words up, block by block. Only functions of the crate's own cite this.
use Rattle.std.specs.Prelude.{◌≡◌, ℕ, ◌+◌, ◌*◌, ◌%◌, ◌^◌, ◌≤◌, List, length}

-- fewer bytes are added up without runs
abbrev pub few_bytes : ℕ
few_bytes = 128

-- the most words of a run: 256 bytes have a sum below 65536
abbrev pub run_words : ℕ
run_words = 256

-- whole words, not more than a run has
abbrev pub IsBlock : List ℕ → Type 0
IsBlock s = (length s ≤ 2 * run_words) × (length s % 2 ≡ 0)

-- a number that halving brings to 1
abbrev pub PowerOfTwo : ℕ → Type 0
PowerOfTwo n = (k : ℕ) × (n ≡ 2 ^ k)

-- the sum of bytes h, below 65536, where it is known modulo 65536 that the sum of numbers h + 256 * l is x, and the sum of the l is low:
-- 65280 is -256 modulo 65536
unfoldable pub high_sum : ℕ → ℕ → ℕ
high_sum x low = (x + 65280 * low) % 65536
