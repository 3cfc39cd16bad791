-- The rules on addresses. An IPv4 address is its number; an IPv6 address is the list of its sixteen bytes.
use Rattle.std.specs.Prelude.{ℕ, zero, suc, ◌+◌, ◌*◌, ◌/◌, ◌%◌, Bool, true, cond, ◌&&◌, ◌||◌, List, [], ◌∷◌, get_or, take, eqb, leb, Option, Some, None}
use Rattle.lists.specs.Any.{any_of}

-- four bytes as one number, big-endian
abbrev pub quad_of : ℕ → ℕ → ℕ → ℕ → ℕ
quad_of a b c d = a * 16777216 + b * 65536 + c * 256 + d

-- the number is in the range, ends included
abbrev pub is_within : ℕ → ℕ → ℕ → Bool
is_within low high a = leb low a && leb a high

-- R3.1: 0.0.0.0, 127.0.0.0/8, 224.0.0.0/4, 255.255.255.255
unfoldable pub is_forbidden : ℕ → Bool
is_forbidden a =
    eqb a (quad_of 0 0 0 0)
    || (is_within (quad_of 127 0 0 0) (quad_of 127 255 255 255) a
    || (is_within (quad_of 224 0 0 0) (quad_of 239 255 255 255) a
    || eqb a (quad_of 255 255 255 255)))

-- the last 32 bits of an IPv6 address
unfoldable pub last_quad : List ℕ → ℕ
last_quad a = quad_of (get_or a 12 0) (get_or a 13 0) (get_or a 14 0) (get_or a 15 0)

-- the first n bytes of the two are the same
abbrev pub agree : ℕ → List ℕ → List ℕ → Bool
agree zero p a = true
agree (suc n) p a = agree n p a && eqb (get_or p n 0) (get_or a n 0)

-- the address a is under the prefix p of 64 bits
unfoldable pub is_under : List ℕ → List ℕ → Bool
is_under a p = agree 8 p a

-- fe80::/64
abbrev pub link_local_prefix : List ℕ
link_local_prefix = 0xFE ∷ 0x80 ∷ 0 ∷ 0 ∷ 0 ∷ 0 ∷ 0 ∷ 0 ∷ []

-- R15.3: link-local (fe80::/64)
abbrev pub is_link_local : List ℕ → Bool
is_link_local a = is_under a link_local_prefix

-- R2.3: up to 8 on-link prefixes, beside fe80::/64 which always counts
unfoldable pub is_on_link : List (List ℕ) → ℕ → List ℕ → Bool
is_on_link prefixes count a = is_link_local a || any_of (is_under a) (take count prefixes)

-- R6.1: behind the prefix 00 or 02, 00, 5E, FE
unfoldable pub is_identifier : List ℕ → Bool
is_identifier a =
    (eqb (get_or a 8 0) 0x00 || eqb (get_or a 8 0) 0x02) && eqb (get_or a 9 0) 0x00 && eqb (get_or a 10 0) 0x5E && eqb (get_or a 11 0) 0xFE

-- R6.1: an ISATAP address has an on-link prefix, the identifier, and then the IPv4 address
unfoldable pub embedded_in : List (List ℕ) → ℕ → List ℕ → Option ℕ
embedded_in prefixes count a = cond (is_on_link prefixes count a && is_identifier a) (Some (last_quad a)) None

-- R6.3: those we form have 00
abbrev pub first_identifier_byte : ℕ
first_identifier_byte = 0

-- the link-local ISATAP address that we form: fe80::5efe:a
unfoldable pub link_local_of : ℕ → List ℕ
link_local_of a =
    0xFE ∷ 0x80 ∷ 0 ∷ 0 ∷ 0 ∷ 0 ∷ 0 ∷ 0 ∷ first_identifier_byte ∷ 0x00 ∷ 0x5E ∷ 0xFE
    ∷ a / 16777216 ∷ a / 65536 % 256 ∷ a / 256 % 256 ∷ a % 256 ∷ []

-- the first n bytes are 0
abbrev pub are_zero : ℕ → List ℕ → Bool
are_zero zero a = true
are_zero (suc n) a = are_zero n a && eqb (get_or a n 0) 0

-- ff00::/8
abbrev pub is_multicast : List ℕ → Bool
is_multicast a = eqb (get_or a 0 0) 0xFF

-- `::`
abbrev pub is_unspecified : List ℕ → Bool
is_unspecified a = are_zero 12 a && eqb (last_quad a) 0

-- R2.9, R8.2: multicast, or `::`
unfoldable pub is_multicast_or_unspecified : List ℕ → Bool
is_multicast_or_unspecified a = is_multicast a || is_unspecified a

-- R5.11, bad inner source: ff00::/8, `::`, `::1`, or 96 zero bits followed by a forbidden IPv4 address,
-- where `forbidden` says whether the last 32 bits are one
unfoldable pub is_bad_source_with : Bool → List ℕ → Bool
is_bad_source_with forbidden a =
    is_multicast_or_unspecified a || are_zero 12 a && eqb (last_quad a) 1 || are_zero 12 a && forbidden

-- a bad inner source (R5.11), where the addresses of R3.1 are forbidden and no more
abbrev pub is_bad_source : List ℕ → Bool
is_bad_source a = is_bad_source_with (is_forbidden (last_quad a)) a
