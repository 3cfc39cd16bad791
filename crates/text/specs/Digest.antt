-- The digest that `replay` and `recordings` print (docs/REPLAY.md), the 32-bit FNV-1a hash, and its text.
-- No contract of node, boundary or program rests on this.
use Rattle.std.specs.Prelude.{ℕ, ◌+◌, ◌*◌, ◌/◌, ◌%◌, cond, List, [], ◌∷◌, ltb}
use Rattle.std.specs.Int.Bits.{bit_xor}

-- the hash with one byte more
abbrev pub mixed : ℕ → ℕ → ℕ
mixed hash byte = bit_xor hash byte * 16777619 % 4294967296

-- the hash with the bytes s more
abbrev pub hash_from : ℕ → List ℕ → ℕ
hash_from hash [] = hash
hash_from hash (b ∷ s) = hash_from (mixed hash b) s

-- the digest of bytes
unfoldable pub digest_of : List ℕ → ℕ
digest_of s = hash_from 2166136261 s

-- the last hexadecimal digit of n, in lower case
abbrev pub hex_digit : ℕ → ℕ
hex_digit n = cond (ltb (n % 16) 10) (48 + n % 16) (87 + n % 16)

-- a number of 32 bits in eight hexadecimal digits
unfoldable pub hexadecimal : ℕ → List ℕ
hexadecimal n =
    hex_digit (n / 268435456) ∷ (hex_digit (n / 16777216) ∷ (hex_digit (n / 1048576) ∷ (hex_digit (n / 65536)
    ∷ (hex_digit (n / 4096) ∷ (hex_digit (n / 256) ∷ (hex_digit (n / 16) ∷ (hex_digit n ∷ [])))))))
