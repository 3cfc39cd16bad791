-- An IPv6 address as four numbers of 32 bits, the first the highest. No contract of node, boundary or program rests on this.
use Rattle.std.specs.Prelude.{ℕ, ◌/◌, ◌%◌, List, [], ◌∷◌, get_or}
use Rattle.address.specs.Address.{quad_of}
use Rattle.address.specs.declared.quads.Quads.{Quads}

-- the four bytes of a number, before others
abbrev pub quad_bytes : ℕ → List ℕ → List ℕ
quad_bytes n rest = n / 16777216 ∷ n / 65536 % 256 ∷ n / 256 % 256 ∷ n % 256 ∷ rest

-- its sixteen bytes
unfoldable pub bytes_in : Quads → List ℕ
bytes_in q = quad_bytes q.first (quad_bytes q.second (quad_bytes q.third (quad_bytes q.last [])))

-- the four numbers of sixteen bytes
unfoldable pub quads_of : List ℕ → Quads
quads_of a = record {
  first = quad_of (get_or a 0 0) (get_or a 1 0) (get_or a 2 0) (get_or a 3 0);
  second = quad_of (get_or a 4 0) (get_or a 5 0) (get_or a 6 0) (get_or a 7 0);
  third = quad_of (get_or a 8 0) (get_or a 9 0) (get_or a 10 0) (get_or a 11 0);
  last = quad_of (get_or a 12 0) (get_or a 13 0) (get_or a 14 0) (get_or a 15 0);
}
