-- What the pieces of one datagram are (R23.19; RFC 791, 3.2), said over their bytes.
use Rattle.std.specs.Prelude.{ℕ, ◌+◌, ◌*◌, ◌/◌, ◌%◌, ◌≡◌, get_or, length}
use mathlib.Core.List.{List, [], ◌∷◌, ◌++◌, Memᴰ}
use Rattle.header.specs.Fields.{word_at, quad_at}
use Rattle.receiving.specs.Facts.{encapsulated, OuterWhole, SumRight, Unfragmented}

-- RFC 791, 3.2: datagrams of which one may be a piece of the other have source, destination, protocol and identification in common
pub record SameKey (d e : List ℕ) : Type 0 where
  pub source : quad_at d 12 ≡ quad_at e 12
  pub destination : quad_at d 16 ≡ quad_at e 16
  pub protocol : get_or d 9 0 ≡ get_or e 9 0
  pub identification : word_at d 4 ≡ word_at e 4

-- RFC 791, 3.1: the byte of the payload at which a piece begins; its offset counts units of 8 bytes
abbrev pub beginning : List ℕ → ℕ
beginning d = 8 * (word_at d 6 % 0x2000)

-- RFC 791, 3.1: the more-fragments flag is set
abbrev pub MoreFragments : List ℕ → Type 0
MoreFragments d = word_at d 6 / 0x2000 % 2 ≡ 1

-- the header is whole and its checksum right: 2 and 3 are not given
pub record HeaderRight (d : List ℕ) : Type 0 where
  pub whole : OuterWhole d
  pub sum : SumRight d

-- the pieces begin one behind another, from the byte `at` on without a gap; more-fragments is clear on the last alone
abbrev pub RunOn : ℕ → List (List ℕ) → Type 0
RunOn at [] = ⊥
RunOn at (p ∷ []) = (beginning p ≡ at) × (MoreFragments p → ⊥)
RunOn at (p ∷ q ∷ ps) = (beginning p ≡ at) × MoreFragments p × RunOn (at + length (encapsulated p)) (q ∷ ps)

-- their payloads, one behind another
abbrev pub payloads : List (List ℕ) → List ℕ
payloads [] = []
payloads (p ∷ ps) = encapsulated p ++ payloads ps

-- ps are the pieces of one cutting of the whole datagram d; their TTL, type of service, options, padding and don't-fragment are free
pub record Cutting (d : List ℕ) (ps : List (List ℕ)) : Type 0 where
  pub right : HeaderRight d
  pub whole : Unfragmented d
  pub pieces : (p : List ℕ) → Memᴰ p ps → HeaderRight p × (Unfragmented p → ⊥) × SameKey p d
  pub runs : RunOn 0 ps
  pub payload : payloads ps ≡ encapsulated d

-- the datagram e is the piece p, perhaps with another TTL, other options or padding
pub record Repeats (e p : List ℕ) : Type 0 where
  pub right : HeaderRight e
  pub key : SameKey e p
  pub fragment : word_at e 6 % 0x4000 ≡ word_at p 6 % 0x4000
  pub payload : encapsulated e ≡ encapsulated p
