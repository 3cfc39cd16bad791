-- What it is in plain words that a unit is held (R23.12).
use Rattle.std.specs.Prelude.{ℕ, ◌+◌, ◌/◌, ◌%◌, ◌^◌, ◌≤◌, ◌<◌, ◌≡◌, get_or}
use Rattle.units.specs.declared.Held.{Held}

-- unit u is held: bit u % 64 of word u / 64 is set
abbrev pub Holds : Held → ℕ → Type 0
Holds h u = get_or h.words (u / 64) 0 / 2 ^ (u % 64) % 2 ≡ 1

-- unit u is one of n from one on
abbrev pub Among : ℕ → ℕ → ℕ → Type 0
Among from n u = (from ≤ u) × (u < from + n)
