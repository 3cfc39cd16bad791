-- What writing into a lent slice leaves there (R1.16: bytes behind the written length stay).
use Rattle.std.specs.Prelude.{ℕ, ◌+◌, cond, List, ◌++◌, length, take, drop, ltb}

-- d with w written over its front: what stands behind w stays
abbrev pub written : List ℕ → List ℕ → List ℕ
written w d = w ++ drop (length w) d

-- d with p written over it from the index at on
abbrev pub over : {A : Type 0} → ℕ → List A → List A → List A
over at p d = take at d ++ (p ++ drop (at + length p) d)

-- d with p written over it from the index at on, or d itself where p does not fit
unfoldable pub written_at : ℕ → List ℕ → List ℕ → List ℕ
written_at at p d = cond (ltb (length d) (at + length p)) d (over at p d)
