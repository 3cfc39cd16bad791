-- The runs of differing bytes of two recordings, and the report of them (R27).
use Rattle.std.specs.Prelude.{ℕ, zero, suc, ◌%◌, min, max, Bool, cond, not, ◌&&◌, ◌||◌, length, get_or, eqb, ltb}
use mathlib.Core.List.{List, [], ◌∷◌, ◌++◌, map, flatten}
use Rattle.header.specs.Wrap.{be16}
use Rattle.input.specs.Recording.{Datagram, datagrams_of}

-- a longest run of differing bytes: the offset of the first, from 0, and how many there are (R27.5)
pub record Run : Type 0 where
  pub offset : ℕ
  pub length : ℕ

-- the bytes of the identification, the TTL and the checksum (R27.4)
abbrev pub is_masked_byte : ℕ → Bool
is_masked_byte p = eqb p 4 || eqb p 5 || eqb p 8 || eqb p 10 || eqb p 11

-- byte p of a and b is unequal
abbrev pub is_unequal_at : List ℕ → List ℕ → ℕ → Bool
is_unequal_at a b p = not (eqb (get_or a p 0) (get_or b p 0))

-- byte p of a and b differs: both have it, it is not masked and is unequal; or one of them alone has it (R27.3, R27.4)
unfoldable pub differs_at : Bool → List ℕ → List ℕ → ℕ → Bool
differs_at masked a b p =
    cond (ltb p (min (length a) (length b))) (not (masked && is_masked_byte p) && is_unequal_at a b p) (ltb p (max (length a) (length b)))

-- a differing byte p in front of the runs behind it: the run that begins right behind it is longer by this byte, or the byte is a run of its own
abbrev pub joined : ℕ → List Run → List Run
joined p [] = record { offset = p; length = 1 } ∷ []
joined p (r ∷ rs) =
    cond (eqb r.offset (suc p)) (record { offset = p; length = suc r.length } ∷ rs) (record { offset = p; length = 1 } ∷ (r ∷ rs))

-- the runs among the n bytes from p on, where `differs` says which bytes differ
abbrev pub runs_from : (ℕ → Bool) → ℕ → ℕ → List Run
runs_from differs p zero = []
runs_from differs p (suc n) = cond (differs p) (joined p (runs_from differs (suc p) n)) (runs_from differs (suc p) n)

-- the runs of two datagrams (R27.5)
unfoldable pub runs : Bool → List ℕ → List ℕ → List Run
runs masked a b = runs_from (differs_at masked a b) 0 (max (length a) (length b))

-- runs, each with the number of its datagram
abbrev pub numbered : ℕ → List Run → List (ℕ × Run)
numbered k rs = map (λ r. (k, r)) rs

-- the runs of each datagram and its partner, in order, with the datagram's number, which counts up from k. Datagrams without a partner, and
-- interfaces, are not compared (R27.2)
abbrev pub pair_runs : Bool → ℕ → List Datagram → List Datagram → List (ℕ × Run)
pair_runs masked k [] ys = []
pair_runs masked k (x ∷ xs) [] = []
pair_runs masked k (x ∷ xs) (y ∷ ys) = numbered k (runs masked x.bytes y.bytes) ++ pair_runs masked (suc k) xs ys

-- the runs of two recordings, the datagrams numbered from 1 (R27.2, R27.6)
unfoldable pub runs_of : Bool → List ℕ → List ℕ → List (ℕ × Run)
runs_of masked first second = pair_runs masked 1 (datagrams_of first) (datagrams_of second)

-- a run in the report: the datagram's number, offset and length, two bytes each, big-endian (R27.6)
abbrev pub run_bytes : ℕ × Run → List ℕ
run_bytes r = be16 (r.0 % 65536) (be16 (r.1.offset % 65536) (be16 (r.1.length % 65536) []))

-- runs in the report, one behind another (R27.6)
unfoldable pub runs_bytes : List (ℕ × Run) → List ℕ
runs_bytes rs = flatten (map run_bytes rs)
