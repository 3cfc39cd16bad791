-- How carries are brought back: words are added exactly, a chunk at a time, and then folded. Contracts inside the crate are in these
-- terms; the public ones are in those of `Sum`.
use Rattle.std.specs.Prelude.{ℕ, zero, suc, ◌+◌, ◌-◌, ◌*◌, ◌/◌, ◌%◌, min, List, [], ◌∷◌, length, take, drop, slice_index}

-- the exact sum of a list's words, no carry brought back
unfoldable pub word_sum : List ℕ → ℕ
word_sum [] = 0
word_sum (hi ∷ []) = hi * 256
word_sum (hi ∷ (lo ∷ rest)) = hi * 256 + lo + word_sum rest

-- the octets of each pair exchanged, as a machine reads words whose first octet is the low-order one (RFC 1071 section 2 (B))
unfoldable pub swapped : List ℕ → List ℕ
swapped [] = []
swapped (x ∷ []) = x ∷ []
swapped (x ∷ (y ∷ rest)) = y ∷ (x ∷ swapped rest)

-- what is left when all carries of n have been brought back: the one number of 16 bits that has n's remainder by 65535 and is 0
-- exactly when n is
unfoldable pub folded : ℕ → ℕ
folded n = min n ((n - 1) % 65535 + 1)

-- the bytes whose words are added up exactly before the carries are brought back; even, so that it ends between two words
abbrev pub chunk : ℕ
chunk = 65536

-- what the folds are given after so many full chunks, and at the end: the result of the one before and the exact sum of the words since
abbrev pub inputs_after : ℕ → ℕ → List ℕ → List ℕ
inputs_after zero result s = (result + word_sum s) ∷ []
inputs_after (suc full) result s =
    (result + word_sum (take chunk s)) ∷ inputs_after full (folded (result + word_sum (take chunk s))) (drop chunk s)

-- what the folds are given, from first to last: before the first one stands the start value
unfoldable pub fold_inputs : ℕ → List ℕ → List ℕ
fold_inputs start s = inputs_after (length s / chunk) start s

-- what the last fold is given, at the end
unfoldable pub final_input : ℕ → List ℕ → ℕ
final_input start s = slice_index (fold_inputs start s) (length s / chunk)
