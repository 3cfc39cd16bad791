-- R9.6: the size that a report asks for.
use Rattle.std.specs.Prelude.{ℕ, Bool, cond, List, [], ◌∷◌, eqb, ltb, Option, Some, None}

-- 18: below 68
abbrev pub least_size : ℕ
least_size = 68

-- the plateaus of RFC 1191, section 7
abbrev pub plateaus : List ℕ
plateaus = 65535 ∷ 32000 ∷ 17914 ∷ 8166 ∷ 4352 ∷ 2002 ∷ 1492 ∷ 1006 ∷ 508 ∷ 296 ∷ least_size ∷ []

-- the first of a list that is below n
abbrev pub first_below : ℕ → List ℕ → Option ℕ
first_below n [] = None
first_below n (p ∷ ps) = cond (ltb p n) (Some p) (first_below n ps)

-- the largest plateau below n: the list descends
unfoldable pub plateau_below : ℕ → Option ℕ
plateau_below n = first_below n plateaus

-- the candidate is the reported size; if 0, the largest plateau below the quoted total length; unusable below 68 or with no plateau
unfoldable pub candidate_of : ℕ → ℕ → Option ℕ
candidate_of reported total = cond (eqb reported 0) (plateau_below total) (cond (ltb reported least_size) None (Some reported))

-- 19: not below the size in force
abbrev pub is_below : ℕ → ℕ → Bool
is_below candidate in_force = ltb candidate in_force
