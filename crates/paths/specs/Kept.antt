-- R10: the size that is kept of a report, and the size in force. Table and record share these words.
use Rattle.std.specs.Prelude.{ℕ, ◌+◌, min, cond, List, [], ◌∷◌, ltb, eqb, Some, None, Option}

-- an accepted report: its neighbour, its candidate, and the time when it was accepted
pub record Report : Type 0 where
  pub neighbour : ℕ
  pub size : ℕ
  pub time : ℕ

-- the last report of neighbour v, if there is one; here and below the newest stands first
abbrev pub last_of : ℕ → List Report → Option Report
last_of v [] = None
last_of v (e ∷ es) = cond (eqb e.neighbour v) (Some e) (last_of v es)

-- a report is in force for so many seconds
abbrev pub lifetime : ℕ
lifetime = 600

-- at most so many neighbours are kept
abbrev pub most_neighbours : ℕ
most_neighbours = 64

-- a report's size while that is under 600 s old
unfoldable pub while_young : ℕ → ℕ → ℕ → Option ℕ
while_young size time now = cond (ltb now (time + lifetime)) (Some size) None

-- what is kept of a report, if there is one
abbrev pub kept_from : Option Report → ℕ → Option ℕ
kept_from None now = None
kept_from (Some e) now = while_young e.size e.time now

-- the size in force over a link: the smaller of L and the kept one, otherwise L
unfoldable pub in_force : ℕ → Option ℕ → ℕ
in_force link (Some size) = min link size
in_force link None = link
