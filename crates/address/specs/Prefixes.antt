-- Prefixes as the on-link test takes them (R2.3).
use Rattle.std.specs.Prelude.{ℕ, ◌+◌, List, [], ◌∷◌, get_or}

-- eight bytes from k on
abbrev pub row_at : List ℕ → ℕ → List ℕ
row_at flat k =
    get_or flat k 0 ∷ get_or flat (k + 1) 0 ∷ get_or flat (k + 2) 0 ∷ get_or flat (k + 3) 0
    ∷ get_or flat (k + 4) 0 ∷ get_or flat (k + 5) 0 ∷ get_or flat (k + 6) 0 ∷ get_or flat (k + 7) 0 ∷ []

-- the flat 64 bytes as eight prefixes of eight
unfoldable pub rows_of : List ℕ → List (List ℕ)
rows_of flat =
    row_at flat 0 ∷ row_at flat 8 ∷ row_at flat 16 ∷ row_at flat 24 ∷ row_at flat 32 ∷ row_at flat 40 ∷ row_at flat 48 ∷ row_at flat 56 ∷ []
