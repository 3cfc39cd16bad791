-- R25 (RFC 2460, 4): the chain of extension headers from a packet's first next header to its upper layer, and whether that draws a message.
use Rattle.std.specs.Prelude.{ℕ, zero, suc, ◌+◌, ◌*◌, ◌/◌, pred, Bool, false, cond, not, ◌&&◌, ◌||◌, List, [], ◌∷◌, get_or, length, eqb, ltb}
use Rattle.header.specs.Numbers.{icmpv6}
use Rattle.header.specs.Fields.{word_at}

-- RFC 2460, 4.3: the number of a hop-by-hop options header
abbrev pub hop_by_hop : ℕ
hop_by_hop = 0

-- RFC 2460, 4.4: the number of a routing header
abbrev pub routing : ℕ
routing = 43

-- RFC 2460, 4.5: the number of a fragment header
abbrev pub fragment : ℕ
fragment = 44

-- RFC 2460, 4.6: the number of a destination options header
abbrev pub destination_options : ℕ
destination_options = 60

-- R25.1: the headers that are followed; any other number is that of an upper layer
abbrev pub is_extension : ℕ → Bool
is_extension next = eqb next hop_by_hop || eqb next routing || eqb next fragment || eqb next destination_options

-- RFC 2460, 4.3 to 4.6: a header's length counts units of 8 bytes, without the first; a fragment header is one
abbrev pub extension_unit : ℕ
extension_unit = 8

-- R25.2, R25.3: (second byte + 1) · 8 bytes; a fragment header always 8
abbrev pub extension_length : ℕ → List ℕ → ℕ
extension_length next bs = cond (eqb next fragment) extension_unit ((get_or bs 1 0 + 1) * extension_unit)

-- R25.6: a fragment with offset not 0; the offset is the high 13 of the 16 bits at 2 (RFC 2460, 4.5)
abbrev pub is_later_fragment : ℕ → List ℕ → Bool
is_later_fragment next bs = eqb next fragment && not (eqb (word_at bs 2 / 8) 0)

-- R25.5 (RFC 4443, 2.1 and 2.4 (e)): the type of an error, below 128, or of a redirect, 137
abbrev pub is_error_or_redirect : ℕ → Bool
is_error_or_redirect kind = ltb kind 128 || eqb kind 137

-- R25.5: an upper layer that draws no message: ICMPv6 with no byte left, an ICMPv6 error or a redirect
abbrev pub is_quiet : ℕ → List ℕ → Bool
is_quiet next bs = eqb next icmpv6 && (eqb (length bs) 0 || is_error_or_redirect (get_or bs 0 0))

-- whether a message may be drawn by these bytes, of which the first header has the number `next`; k bytes of the header before are still to
-- be passed, and a chain that runs past the packet draws none (R25.4)
unfoldable pub may_draw_from : ℕ → ℕ → List ℕ → Bool
may_draw_from (suc k) next [] = false
may_draw_from (suc k) next (b ∷ bs) = may_draw_from k next bs
may_draw_from zero next [] = cond (is_extension next) false (not (is_quiet next []))
may_draw_from zero next (b ∷ bs) =
    cond (is_extension next)
    (not (is_later_fragment next (b ∷ bs)) && may_draw_from (pred (extension_length next (b ∷ bs))) b bs)
    (not (is_quiet next (b ∷ bs)))

-- whether the chain of a packet with this first next header and these bytes behind its IPv6 header lets it draw a message
abbrev pub chain_may_draw : ℕ → List ℕ → Bool
chain_may_draw next bs = may_draw_from 0 next bs
