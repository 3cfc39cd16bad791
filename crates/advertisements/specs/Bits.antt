-- Flags, and the first bits of a byte and of a prefix.
use Rattle.std.specs.Prelude.{ℕ, ◌+◌, ◌-◌, ◌*◌, ◌/◌, Bool, cond, List, [], ◌∷◌, get_or}

-- a byte whose first bit and second bit are flags, and the others 0
abbrev pub flag_bits : Bool → Bool → ℕ
flag_bits first second = cond first 0x80 0 + cond second 0x40 0

-- the value of the last of the first n bits of a byte, 256 where there is none and 1 where all are
abbrev pub last_value : ℕ → ℕ
last_value n = get_or (256 ∷ (128 ∷ (64 ∷ (32 ∷ (16 ∷ (8 ∷ (4 ∷ (2 ∷ [])))))))) n 1

-- the first n bits of a byte, the others 0
abbrev pub first_bits : ℕ → ℕ → ℕ
first_bits n b = b / last_value n * last_value n

-- the first n bits of bytes, the others 0
unfoldable pub first_bits_of : ℕ → List ℕ → List ℕ
first_bits_of n [] = []
first_bits_of n (b ∷ bs) = first_bits n b ∷ first_bits_of (n - 8) bs
