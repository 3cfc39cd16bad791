-- What lent rows say of a neighbour, and a row with one more number in front. No contract of node, boundary or program rests on this.
use Rattle.std.specs.Prelude.{ℕ, suc, ◌-◌, min, max, cond, List, ltb, length}
use Rattle.paths.specs.Kept.{most_neighbours, in_force}
use Rattle.paths.specs.Table.{held_in, row_in, kept_among, pushed}
use Rattle.paths.specs.declared.Look.{Look}

-- the row that makes room where no other does
abbrev pub last_row : ℕ
last_row = most_neighbours - 1

-- the row that makes room for a report of v: its old one's, else the last of 64
abbrev pub row_for : List ℕ → List ℕ → List ℕ → ℕ → ℕ → ℕ
row_for neighbours sizes times n v = min (row_in v (held_in neighbours sizes times n)) last_row

-- the size in force toward v at a time; the row that makes room for a report of v, and how many rows are in use then
unfoldable pub look_among : ℕ → List ℕ → List ℕ → List ℕ → ℕ → ℕ → ℕ → Look
look_among link neighbours sizes times n v now = record {
  in_force = in_force link (kept_among neighbours sizes times n v now);
  row = row_for neighbours sizes times n v;
  count = max (length (held_in neighbours sizes times n)) (suc (row_for neighbours sizes times n v));
}

-- x in front, and the element at p gone, where there is one
abbrev pub pushed_in : {A : Type 0} → A → ℕ → List A → List A
pushed_in x p xs = cond (ltb p (length xs)) (pushed x p xs) xs
