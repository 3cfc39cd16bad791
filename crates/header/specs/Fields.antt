-- Big-endian fields of a list of bytes. A byte past the end reads as 0.
use Rattle.std.specs.Prelude.{ℕ, zero, suc, ◌+◌, ◌*◌, List, [], ◌∷◌, get_or, drop}
use Rattle.address.specs.Address.{quad_of}

-- the 16 bits at k
unfoldable pub word_at : List ℕ → ℕ → ℕ
word_at d k = get_or d k 0 * 256 + get_or d (k + 1) 0

-- the 32 bits at k
unfoldable pub quad_at : List ℕ → ℕ → ℕ
quad_at d k = quad_of (get_or d k 0) (get_or d (k + 1) 0) (get_or d (k + 2) 0) (get_or d (k + 3) 0)

-- the 32 bits at k, last byte first, as the machine reads them
unfoldable pub reversed_at : List ℕ → ℕ → ℕ
reversed_at d k = quad_of (get_or d (k + 3) 0) (get_or d (k + 2) 0) (get_or d (k + 1) 0) (get_or d k 0)

-- n bytes from i on
abbrev pub bytes_from : ℕ → ℕ → List ℕ → List ℕ
bytes_from zero i d = []
bytes_from (suc n) i d = get_or d i 0 ∷ bytes_from n (suc i) d

-- the 16 bytes at k
unfoldable pub address_at : List ℕ → ℕ → List ℕ
address_at d k = bytes_from 16 0 (drop k d)
