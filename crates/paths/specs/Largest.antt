-- What "the largest plateau below" and a report's candidate are, said in plain facts.
use Rattle.std.specs.Prelude.{ℕ, ◌≤◌, ◌<◌, ◌≡◌, ◌⊎◌}
use mathlib.Core.List.{List, [], ◌∷◌, Memᴰ}

-- p is one of ps and below n, and none of them that is below n is larger
pub record LargestBelow (n p : ℕ) (ps : List ℕ) : Type 0 where
  pub among : Memᴰ p ps
  pub below : p < n
  pub largest : (q : ℕ) → Memᴰ q ps → q < n → q ≤ p

-- the plateaus themselves (R9.7; RFC 1191, 7.1)
abbrev pub plateau_sizes : List ℕ
plateau_sizes = 65535 ∷ 32000 ∷ 17914 ∷ 8166 ∷ 4352 ∷ 2002 ∷ 1492 ∷ 1006 ∷ 508 ∷ 296 ∷ 68 ∷ []

-- the candidate is c: the reported size, where that is at least 68; or 0 is reported, and c is the largest plateau below the quoted total length
abbrev pub CandidateIs : ℕ → ℕ → ℕ → Type 0
CandidateIs reported total c = ((reported ≡ c) × (68 ≤ c)) ⊎ ((reported ≡ 0) × LargestBelow total c plateau_sizes)
