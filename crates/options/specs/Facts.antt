-- The options of a message, and R16: the lifetimes of a router advertisement and the due time that they give, said over its options and
-- their bytes.
use Rattle.std.specs.Prelude.{ℕ, ◌+◌, ◌/◌, ◌≤◌, max, ◌≡◌, ◌⊎◌, get_or}
use mathlib.Core.List.{List, flatten}
use Rattle.lists.specs.Any.{Some}
use Rattle.address.specs.Address.{quad_of}
use Rattle.options.specs.Options.{AreOptions}

-- the bytes are options, one after another to the exact end
pub record WholeOptions (bs : List ℕ) (os : List (List ℕ)) : Type 0 where
  pub options : AreOptions os
  pub bytes : flatten os ≡ bs

-- prefix options (type 3, length 4)
abbrev pub PrefixOption : List ℕ → Type 0
PrefixOption o = (get_or o 0 0 ≡ 3) × (get_or o 1 0 ≡ 4)

-- route options (type 24, length 1 to 3)
abbrev pub RouteOption : List ℕ → Type 0
RouteOption o = (get_or o 0 0 ≡ 24) × ((1 ≤ get_or o 1 0) × (get_or o 1 0 ≤ 3))

-- source link-layer address options (type 1, of whatever length)
abbrev pub SourceLinkLayerOption : List ℕ → Type 0
SourceLinkLayerOption o = get_or o 0 0 ≡ 1

-- the valid lifetime of a prefix option (RFC 4861, 4.6.2) and the route lifetime of a route option (RFC 4191, 2.3) are its bytes 4 to 7
abbrev pub HasLifetime : ℕ → List ℕ → Type 0
HasLifetime l o = (PrefixOption o ⊎ RouteOption o) × (quad_of (get_or o 4 0) (get_or o 5 0) (get_or o 6 0) (get_or o 7 0) ≡ l)

-- the lifetimes: the router's own, and those of the options
abbrev pub IsLifetime : ℕ → List (List ℕ) → ℕ → Type 0
IsLifetime router os l = (router ≡ l) ⊎ Some (HasLifetime l) os

-- zero and 0xffffffff don't count
abbrev pub Counts : ℕ → Type 0
Counts l = (l ≡ 0 → ⊥) × (l ≡ 0xffff_ffff → ⊥)

-- the smallest of the lifetimes that `Among` tells: one that counts, and none that counts is smaller
pub record SmallestLifetime (Among : ℕ → Type 0) (l : ℕ) : Type 0 where
  pub among : Among l
  pub counts : Counts l
  pub smallest : (k : ℕ) → Among k → Counts k → l ≤ k

-- none of the lifetimes counts
abbrev pub NoLifetime : (ℕ → Type 0) → Type 0
NoLifetime Among = (k : ℕ) → Among k → Counts k → ⊥

-- due becomes now + the larger of the interval and half the smallest of the lifetimes, rounded down; 3,600 if none counts
unfoldable pub DueFrom : ℕ → ℕ → (ℕ → Type 0) → ℕ → Type 0
DueFrom now interval Among due =
    ((l : ℕ) × SmallestLifetime Among l × (due ≡ now + max interval (l / 2)))
    ⊎ (NoLifetime Among × (due ≡ now + 3600))

-- the same, of the lifetimes of an advertisement: the router's own, and those of the options
abbrev pub DueBy : ℕ → ℕ → ℕ → List (List ℕ) → ℕ → Type 0
DueBy now interval router os due = DueFrom now interval (IsLifetime router os) due
