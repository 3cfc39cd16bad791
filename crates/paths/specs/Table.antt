-- The path table: accepted reports, the newest first, at most one of each neighbour and at most 64.
use Rattle.std.specs.Prelude.{ℕ, suc, ◌-◌, min, max, cond, List, [], ◌∷◌, ◌++◌, map, eqb, length, take, drop, replicate, Option}
use Rattle.paths.specs.Kept.{Report, most_neighbours, last_of, kept_from}
use Rattle.paths.specs.declared.PathTable.{PathTable}

-- the fresh table: none of its 64 places is in use
abbrev pub no_reports : PathTable
no_reports =
    let none : List ℕ = replicate most_neighbours 0 in
    record { neighbours = none; sizes = none; times = none; count = 0 }

-- the reports that three arrays hold, place by place
abbrev pub rows : List ℕ → List ℕ → List ℕ → List Report
rows [] sizes times = []
rows (v ∷ vs) [] times = []
rows (v ∷ vs) (s ∷ ss) [] = []
rows (v ∷ vs) (s ∷ ss) (t ∷ ts) = record { neighbour = v; size = s; time = t } ∷ rows vs ss ts

-- the reports of the first n places: of those in use, where n is their count
abbrev pub held_in : List ℕ → List ℕ → List ℕ → ℕ → List Report
held_in neighbours sizes times n = take n (rows neighbours sizes times)

-- the reports of the table
abbrev pub held : PathTable → List Report
held t = held_in t.neighbours t.sizes t.times t.count

-- the size kept toward v in the first n places
abbrev pub kept_among : List ℕ → List ℕ → List ℕ → ℕ → ℕ → ℕ → Option ℕ
kept_among neighbours sizes times n v now = kept_from (last_of v (held_in neighbours sizes times n)) now

-- the size kept toward v
unfoldable pub kept_in : PathTable → ℕ → ℕ → Option ℕ
kept_in t v now = kept_among t.neighbours t.sizes t.times t.count v now

-- the place of v among neighbours, or their number
abbrev pub row_of : ℕ → List ℕ → ℕ
row_of v [] = 0
row_of v (a ∷ others) = cond (eqb a v) 0 (suc (row_of v others))

-- the place of v's last report, or the number of reports
abbrev pub row_in : ℕ → List Report → ℕ
row_in v es = row_of v (map (λ (e : Report). e.neighbour) es)

-- a list without its element at p
abbrev pub cut : {A : Type 0} → ℕ → List A → List A
cut p xs = take p xs ++ drop (suc p) xs

-- x in front, and the element at p gone
abbrev pub pushed : {A : Type 0} → A → ℕ → List A → List A
pushed x p xs = x ∷ cut p xs

-- the table after an accepted report: that stands in front; v's old one, else the last of 64, makes room
unfoldable pub table_after : PathTable → ℕ → ℕ → ℕ → PathTable
table_after t v size now =
    let p : ℕ = min (row_in v (held t)) (most_neighbours - 1) in
    record {
      neighbours = pushed v p t.neighbours;
      sizes = pushed size p t.sizes;
      times = pushed now p t.times;
      count = max (length (held t)) (suc p);
    }
