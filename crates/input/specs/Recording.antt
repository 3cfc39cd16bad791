-- A section of datagrams (R17.2), which may stand alone.
use Rattle.std.specs.Prelude.{ℕ, zero, suc, ◌+◌, Bool, ◌&&◌, List, [], ◌∷◌, length, get_or, take, drop, eqb, leb}
use Rattle.header.specs.Fields.{word_at}
use Rattle.input.specs.Section.{count_of}

-- a datagram, and the interface on which it arrived
pub record Datagram : Type 0 where
  pub interface : ℕ
  pub bytes : List ℕ

-- the interface of the first datagram of d
abbrev pub interface_of : List ℕ → ℕ
interface_of d = get_or d 0 0

-- the bytes of the first datagram of d
abbrev pub bytes_of : List ℕ → List ℕ
bytes_of d = take (word_at d 1) (drop 3 d)

-- how many bytes the first datagram takes
abbrev pub datagram_bytes : List ℕ → ℕ
datagram_bytes d = 3 + word_at d 1

-- the first datagram is all there
abbrev pub is_there : List ℕ → Bool
is_there d = leb (datagram_bytes d) (length d)

-- what stands behind the first datagram
abbrev pub behind_datagram : List ℕ → List ℕ
behind_datagram d = drop (datagram_bytes d) d

-- n datagrams, one behind another
abbrev pub datagrams_from : ℕ → List ℕ → List Datagram
datagrams_from zero d = []
datagrams_from (suc n) d = record { interface = interface_of d; bytes = bytes_of d } ∷ datagrams_from n (behind_datagram d)

-- n datagrams are there, and nothing behind them
abbrev pub are_there : ℕ → List ℕ → Bool
are_there zero d = eqb (length d) 0
are_there (suc n) d = is_there d && are_there n (behind_datagram d)

-- the bytes behind the count
abbrev pub first_datagram : List ℕ → List ℕ
first_datagram r = drop 2 r

-- the section's datagrams
unfoldable pub datagrams_of : List ℕ → List Datagram
datagrams_of r = datagrams_from (count_of r) (first_datagram r)

-- the count and all datagrams are there, and nothing behind them
unfoldable pub is_recording : List ℕ → Bool
is_recording r = leb 2 (length r) && are_there (count_of r) (first_datagram r)
