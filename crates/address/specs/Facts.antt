-- What the tests on addresses decide, said over numbers and bytes. An IPv4 address is its number; an IPv6 address is the list of its
-- sixteen bytes.
use Rattle.std.specs.Prelude.{ℕ, ◌/◌, ◌%◌, ◌≤◌, ◌<◌, ◌≡◌, ◌⊎◌, List, [], ◌∷◌, get_or, take}
use Rattle.lists.specs.Any.{Some}
use Rattle.address.specs.Address.{quad_of, link_local_prefix}

-- the number is in the range, ends included
abbrev pub Within : ℕ → ℕ → ℕ → Type 0
Within low high a = (low ≤ a) × (a ≤ high)

-- R3.1: 0.0.0.0, 127.0.0.0/8, 224.0.0.0/4, 255.255.255.255
unfoldable pub Forbidden : ℕ → Type 0
Forbidden a =
    (a ≡ quad_of 0 0 0 0)
    ⊎ (Within (quad_of 127 0 0 0) (quad_of 127 255 255 255) a
    ⊎ (Within (quad_of 224 0 0 0) (quad_of 239 255 255 255) a
    ⊎ (a ≡ quad_of 255 255 255 255)))

-- the first eight bytes of the address are the prefix's
unfoldable pub Under : List ℕ → List ℕ → Type 0
Under a prefix = (i : ℕ) → i < 8 → get_or a i 0 ≡ get_or prefix i 0

-- R15.3: link-local (fe80::/64)
abbrev pub LinkLocal : List ℕ → Type 0
LinkLocal a = Under a link_local_prefix

-- R2.3, R6.2: under fe80::/64, or under one of the first `count` prefixes
abbrev pub OnLink : List (List ℕ) → ℕ → List ℕ → Type 0
OnLink prefixes count a = Some (Under a) (link_local_prefix ∷ take count prefixes)

-- R6.1: behind the prefix 00 or 02, 00, 5E, FE
unfoldable pub Identifier : List ℕ → Type 0
Identifier a =
    ((get_or a 8 0 ≡ 0x00) ⊎ (get_or a 8 0 ≡ 0x02)) × (get_or a 9 0 ≡ 0x00) × (get_or a 10 0 ≡ 0x5E) × (get_or a 11 0 ≡ 0xFE)

-- the last four bytes, as one big-endian number, are v
unfoldable pub EndsWith : List ℕ → ℕ → Type 0
EndsWith a v = quad_of (get_or a 12 0) (get_or a 13 0) (get_or a 14 0) (get_or a 15 0) ≡ v

-- R6.1: an ISATAP address has an on-link prefix, the identifier, and then the IPv4 address v
pub record Isatap (prefixes : List (List ℕ)) (count : ℕ) (a : List ℕ) (v : ℕ) : Type 0 where
  pub on_link : OnLink prefixes count a
  pub identifier : Identifier a
  pub embedded : EndsWith a v

-- the link-local ISATAP address that we form of an IPv4 address: fe80::/64, then 00, 00, 5E, FE, then its four bytes
abbrev pub formed : ℕ → List ℕ
formed a =
    0xFE ∷ (0x80 ∷ (0 ∷ (0 ∷ (0 ∷ (0 ∷ (0 ∷ (0 ∷ (0x00 ∷ (0x00 ∷ (0x5E ∷ (0xFE
    ∷ (a / 16777216 ∷ (a / 65536 % 256 ∷ (a / 256 % 256 ∷ (a % 256 ∷ [])))))))))))))))

-- the first n bytes are 0
abbrev pub ZeroBefore : ℕ → List ℕ → Type 0
ZeroBefore n a = (i : ℕ) → i < n → get_or a i 0 ≡ 0

-- ff00::/8
abbrev pub Multicast : List ℕ → Type 0
Multicast a = get_or a 0 0 ≡ 0xFF

-- `::`
abbrev pub Unspecified : List ℕ → Type 0
Unspecified a = ZeroBefore 16 a

-- `::1`
abbrev pub Loopback : List ℕ → Type 0
Loopback a = ZeroBefore 15 a × (get_or a 15 0 ≡ 1)

-- 96 zero bits, followed by an IPv4 address that is forbidden
abbrev pub ZeroThen : (ℕ → Type 0) → List ℕ → Type 0
ZeroThen forbidden a = ZeroBefore 12 a × ((v : ℕ) × EndsWith a v × forbidden v)

-- R5.11, bad inner source: ff00::/8, `::`, `::1`, or 96 zero bits followed by a forbidden IPv4 address
unfoldable pub BadSource : (ℕ → Type 0) → List ℕ → Type 0
BadSource forbidden a = Multicast a ⊎ (Unspecified a ⊎ (Loopback a ⊎ ZeroThen forbidden a))
