-- The search of a lent row compares several numbers at once. Only functions of the crate's own cite this.
use Rattle.std.specs.Prelude.{ℕ, ◌+◌, ◌≤◌, ◌≡◌, Bool, true, List, eqb, length, take, drop}
use Rattle.lists.specs.Any.{any_of}
use Rattle.paths.specs.Table.{row_of}

-- v is among neighbours
abbrev pub is_among : ℕ → List ℕ → Bool
is_among v others = any_of (λ a. eqb a v) others

-- v is not among the first i
abbrev pub Passed : ℕ → List ℕ → ℕ → Type 0
Passed v others i = (i ≤ length others) × (row_of v others ≡ i + row_of v (drop i others))

-- v is not among the first i, and is among the w from there on
pub record Within (v : ℕ) (others : List ℕ) (i w : ℕ) : Type 0 where
  pub passed : Passed v others i
  pub inside : i + w ≤ length others
  pub there : is_among v (take w (drop i others)) ≡ true
