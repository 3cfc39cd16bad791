-- Which packets draw an ICMPv6 error message (R8.2, R25; RFC 4443, 2.4 (e)), said in plain facts over a packet's headers and their bytes.
use Rattle.std.specs.Prelude.{ℕ, ◌+◌, ◌*◌, ◌<◌, ◌≡◌, ◌⊎◌, get_or, length, drop}
use mathlib.Core.List.{List, [], ◌∷◌, ◌++◌, flatten}
use Rattle.address.specs.Facts.{Multicast, Unspecified}
use Rattle.header.specs.Fields.{address_at}

-- the numbers of hop-by-hop, routing and destination options headers, whose second byte tells their length
abbrev pub TellsLength : ℕ → Type 0
TellsLength next = (next ≡ 0) ⊎ ((next ≡ 43) ⊎ (next ≡ 60))

-- these bytes are one whole extension header with the number `next`; 44 is that of a fragment header
abbrev pub Extension : ℕ → List ℕ → Type 0
Extension next h = (TellsLength next × (length h ≡ (get_or h 1 0 + 1) * 8)) ⊎ ((next ≡ 44) × (length h ≡ 8))

-- extension headers one behind another: the first has the number `next`, the first byte of each is the number of what stands behind it, and
-- behind the last stands `upper`
unfoldable pub Extensions : ℕ → List (List ℕ) → ℕ → Type 0
Extensions next [] upper = next ≡ upper
Extensions next (h ∷ hs) upper = Extension next h × Extensions (get_or h 0 0) hs upper

-- the number of an upper layer: of none of the four
abbrev pub UpperLayer : ℕ → Type 0
UpperLayer next = (TellsLength next → ⊥) × (next ≡ 44 → ⊥)

-- the packet's chain: extension headers behind its IPv6 header, all whole, and then the upper layer `upper` at the offset `at`
pub record Chain (p : List ℕ) (hs : List (List ℕ)) (upper at : ℕ) : Type 0 where
  pub headers : Extensions (get_or p 6 0) hs upper
  pub ends : UpperLayer upper
  pub offset : at ≡ 40 + length (flatten hs)
  pub bytes : drop 40 p ≡ flatten hs ++ drop at p

-- a fragment header's offset is 0: of its bytes 2 and 3 only the low three bits may be set
abbrev pub OffsetZero : List ℕ → Type 0
OffsetZero h = (get_or h 2 0 ≡ 0) × (get_or h 3 0 < 8)

-- each fragment header among them has offset 0
unfoldable pub OffsetsZero : ℕ → List (List ℕ) → Type 0
OffsetsZero next [] = Unit {0}
OffsetsZero next (h ∷ hs) = (next ≡ 44 → OffsetZero h) × OffsetsZero (get_or h 0 0) hs

-- there is a byte at that offset, and as the type of an ICMPv6 message it is that of an error, below 128, or of a redirect, 137
abbrev pub ErrorOrRedirect : List ℕ → ℕ → Type 0
ErrorOrRedirect p at = (at < length p) × ((get_or p at 0 < 128) ⊎ (get_or p at 0 ≡ 137))

-- the upper layer is not ICMPv6 (58), or there is a type, and it is that of no error and no redirect
abbrev pub Harmless : List ℕ → ℕ → ℕ → Type 0
Harmless p upper at = upper ≡ 58 → (at < length p) × (ErrorOrRedirect p at → ⊥)

-- a message can go to the packet's source: it is neither multicast nor `::`
abbrev pub Answerable : List ℕ → Type 0
Answerable p = (Multicast (address_at p 8) → ⊥) × (Unspecified (address_at p 8) → ⊥)

-- a packet to whose source a message can go, and whose chain is whole, has no later fragment, and ends harmless
pub record DrawsMessage (p : List ℕ) : Type 0 where
  pub source : Answerable p
  pub headers : List (List ℕ)
  pub upper : ℕ
  pub at : ℕ
  pub chain : Chain p headers upper at
  pub offsets : OffsetsZero (get_or p 6 0) headers
  pub harmless : Harmless p upper at
