-- A part of a list.
use Rattle.std.specs.Prelude.{ℕ, List, take, drop}

-- n elements from an index on, as far as there are any
abbrev pub part : {A : Type 0} → ℕ → ℕ → List A → List A
part at n xs = take n (drop at xs)
