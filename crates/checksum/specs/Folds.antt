-- The folds of a sum in plain facts over the octets: what each fold is given, what it makes of it, and that the sum is the result of the
-- last. The code's own contracts name `folded` and `final_input`.
use Rattle.std.specs.Prelude.{◌≡◌, ℕ, zero, suc, ◌+◌, ◌*◌, ◌/◌, ◌<◌, ◌≤◌, List, [], ◌∷◌, length, take, drop, slice_index}
use Rattle.checksum.specs.Sum.{words_of, carried, ones_sum_from}
use Rattle.checksum.specs.Folding.{folded, fold_inputs, final_input}

-- the sum of numbers, with nothing carried
abbrev pub total : List ℕ → ℕ
total [] = 0
total (x ∷ xs) = x + total xs

-- the exact sum of a list's words
abbrev pub exact_sum : List ℕ → ℕ
exact_sum s = total (words_of s)

-- so many turns of the end-around carry
abbrev pub turns : ℕ → ℕ → ℕ
turns zero x = x
turns (suc k) x = turns k (carried x)

-- a fold makes y of x: it takes turns as long as there is a carry, "while (sum>>16)" (RFC 1071 section 4.1), and then none is left
pub record FoldsTo (x y : ℕ) : Type 0 where
  pub count : ℕ
  pub carries : (k : ℕ) → k < count → 0xFFFF < turns k x
  pub none_left : turns count x ≤ 0xFFFF
  pub result : turns count x ≡ y

-- what the i-th fold is given, counted from 0
abbrev pub given : ℕ → List ℕ → ℕ → ℕ
given start s i = slice_index (fold_inputs start s) i

-- the folds of a sum that is continued from a start value
pub record Folds (start : ℕ) (s : List ℕ) : Type 0 where
  -- one after each full 65,536 octets, and one at the end
  pub count : length (fold_inputs start s) ≡ length s / 65536 + 1
  -- the first is given the start value and the exact sum of the words of the first 65,536 octets, or of all if there are fewer
  pub first : given start s 0 ≡ start + exact_sum (take 65536 s)
  -- each later one the result of the one before and the exact sum of the words since: of the next 65,536 octets, or at the end of what is left
  pub next : (i : ℕ) → i < length s / 65536 → given start s (i + 1) ≡ folded (given start s i) + exact_sum (take 65536 (drop (65536 * (i + 1)) s))
  -- of these the last is what the code's contracts name
  pub last : final_input start s ≡ given start s (length s / 65536)
  -- a fold goes on until no carry is left
  pub fold : (x : ℕ) → FoldsTo x (folded x)
  -- the sum of RFC 1071 is the result of the last
  pub sum : ones_sum_from start s ≡ folded (given start s (length s / 65536))
