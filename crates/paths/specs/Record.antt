-- R11: every accepted report, the newest first. Nothing is ever dropped from it.
use Rattle.std.specs.Prelude.{ℕ, cond, List, [], ◌∷◌, ltb, eqb, length, Option, None}
use Rattle.paths.specs.Kept.{Report, most_neighbours, last_of, kept_from}

-- the reports since the last of neighbour v: all of other neighbours
abbrev pub since : ℕ → List Report → List Report
since v [] = []
since v (e ∷ es) = cond (eqb e.neighbour v) [] (e ∷ since v es)

-- the reports that are not of neighbour v
abbrev pub without : ℕ → List Report → List Report
without v [] = []
without v (e ∷ es) = cond (eqb e.neighbour v) (without v es) (e ∷ without v es)

-- the last report of each neighbour
abbrev pub last_of_each : List Report → List Report
last_of_each [] = []
last_of_each (e ∷ es) = e ∷ without e.neighbour (last_of_each es)

-- how many other neighbours have had an accepted report since: each counts once
abbrev pub others_since : ℕ → List Report → ℕ
others_since v es = length (last_of_each (since v es))

-- the size kept toward v: the candidate of its last accepted report while that is under 600 s old
-- and fewer than 64 other neighbours have had an accepted report since
unfoldable pub record_kept : List Report → ℕ → ℕ → Option ℕ
record_kept es v now = cond (ltb (others_since v es) most_neighbours) (kept_from (last_of v es) now) None

-- the record after an accepted report: neighbour and candidate are, with the latest time, its new last entry
abbrev pub record_after : List Report → ℕ → ℕ → ℕ → List Report
record_after es v size now = record { neighbour = v; size = size; time = now } ∷ es
