-- The router advertisement that we write (R22): from what the operator sets, its packet byte for byte.
use Rattle.refusals.specs.declared.Refusal.{Refusal}
use Rattle.std.specs.Prelude.{ℕ, ◌+◌, ◌*◌, Bool, ◌||◌, length, take, ltb, Result}
use mathlib.Core.List.{List, [], ◌∷◌, ◌++◌, map, flatten}
use Rattle.lists.specs.Any.{any_of}
use Rattle.refusals.specs.Refusals.{first_of}
use Rattle.refusals.specs.declared.Refusal.TheVariants.{OptionsBad, OutputShort}
use Rattle.header.specs.Wrap.{be16, be32, writer_answer, writer_output}
use Rattle.messages.specs.Icmp.{hop_limit, advertisement_type, message_headers, icmp_packet}
use Rattle.options.specs.Options.{prefix_units, unit_bytes}
use Rattle.advertisements.specs.Bits.{flag_bits}
use Rattle.advertisements.specs.Options.{prefix_option, route_units, route_option}
use Rattle.advertisements.specs.declared.prefix.Prefix.{Prefix}
use Rattle.advertisements.specs.declared.route.Route.{Route}
use Rattle.advertisements.specs.declared.Advertisement.{Advertisement}

-- the prefixes that count, in the operator's order
abbrev pub prefixes_of : Advertisement → List Prefix
prefixes_of a = take a.prefix_count a.prefixes

-- the routes that count, in the operator's order
abbrev pub routes_of : Advertisement → List Route
routes_of a = take a.route_count a.routes

-- up to 8 prefixes and up to 8 routes
abbrev pub most_options : ℕ
most_options = 8

-- the bits of an IPv6 address
abbrev pub longest_prefix : ℕ
longest_prefix = 128

-- a prefix of more bits than an address has
abbrev pub is_prefix_too_long : Prefix → Bool
is_prefix_too_long p = ltb longest_prefix p.length

-- a route of more bits than an address has
abbrev pub is_route_too_long : Route → Bool
is_route_too_long r = ltb longest_prefix r.length

-- 26: too many prefixes or routes, or a prefix length above 128 of one that counts
unfoldable pub are_options_bad : Advertisement → Bool
are_options_bad a =
    ltb most_options a.prefix_count
    || (ltb most_options a.route_count
    || (any_of is_prefix_too_long (prefixes_of a)
    || any_of is_route_too_long (routes_of a)))

-- the prefix options, then the route options
abbrev pub written_options : Advertisement → List (List ℕ)
written_options a = map prefix_option (prefixes_of a) ++ map route_option (routes_of a)

-- behind the checksum: current hop limit 0, M and O, the router's lifetime, reachable time 0, retransmission timer 0 (RFC 4861, 4.2)
abbrev pub advertisement_body : Advertisement → List ℕ
advertisement_body a = 0 ∷ (flag_bits a.managed a.other ∷ be16 a.lifetime (be32 0 (be32 0 (flatten (written_options a)))))

-- the packet: hop limit 255, type 134, code 0
unfoldable pub advertisement_of : List ℕ → List ℕ → Advertisement → List ℕ
advertisement_of from to a = icmp_packet hop_limit from to advertisement_type 0 (advertisement_body a)

-- the bytes that route options take
abbrev pub routes_length : List Route → ℕ
routes_length [] = 0
routes_length (r ∷ rs) = route_units r.length * unit_bytes + routes_length rs

-- the packet's length: 56 bytes, 32 for each prefix, and 8, 16 or 24 for each route
unfoldable pub advertisement_length : Advertisement → ℕ
advertisement_length a = message_headers + 8 + (length (prefixes_of a) * (prefix_units * unit_bytes) + routes_length (routes_of a))

-- 26, then 15
unfoldable pub advertisement_check : Advertisement → ℕ → Result Unit Refusal
advertisement_check a room = first_of ((are_options_bad a, OptionsBad) ∷ ((ltb room (advertisement_length a), OutputShort) ∷ []))

-- the length written, or the refusal
unfoldable pub advertisement_answer : Advertisement → ℕ → Result ℕ Refusal
advertisement_answer a room = writer_answer (advertisement_check a room) (advertisement_length a)

-- what stands in the output afterwards
unfoldable pub advertisement_output : List ℕ → List ℕ → Advertisement → List ℕ → List ℕ
advertisement_output from to a out = writer_output (advertisement_check a (length out)) (advertisement_of from to a) out
