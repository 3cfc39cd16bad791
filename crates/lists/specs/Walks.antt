-- A walk over things that stand one behind another in a list of bytes, each with a length of its own.
-- No contract of node, boundary or program rests on this.
use Rattle.std.specs.Prelude.{ℕ, zero, suc, cond, List, length, drop, eqb}

-- what a walk over at most so many of them comes to: what is known then, and the count of the bytes that are left. `size` is how many bytes
-- the first takes, 0 where none is to be passed, and `after` what is known once it is passed
unfoldable pub walked : {S : Type 0} → (S → List ℕ → ℕ) → (S → List ℕ → S) → ℕ → S → List ℕ → S × ℕ
walked size after zero s bs = (s, length bs)
walked size after (suc most) s bs = cond (eqb (size s bs) 0) (s, length bs) (walked size after most (after s bs) (drop (size s bs) bs))
