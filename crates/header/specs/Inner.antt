-- The inner header (R5.10, R7.2; RFC 2460, 3): its fields, and the rules of number 8.
use Rattle.std.specs.Prelude.{ℕ, ◌+◌, ◌/◌, Bool, cond, not, ◌&&◌, ◌||◌, List, [], get_or, length, take, drop, eqb, ltb}
use Rattle.address.specs.Address.{is_multicast_or_unspecified}
use Rattle.header.specs.Numbers.{inner_header}
use Rattle.header.specs.Fields.{word_at, address_at}
use Rattle.header.specs.Chain.{chain_may_draw}
use Rattle.header.specs.declared.inner.Inner.{Inner}

-- the fields
unfoldable pub inner_of : List ℕ → Inner
inner_of p = record { version = get_or p 0 0 / 16; length = inner_header + word_at p 4; next = get_or p 6 0; hop = get_or p 7 0; source = address_at p 8 }

-- malformed inner: under 40 bytes, version not 6, or 40 + payload length above what remains
unfoldable pub is_inner_malformed : ℕ → Inner → Bool
is_inner_malformed n i = ltb n inner_header || not (eqb i.version 6) || ltb n i.length

-- in sending the packet's length must equal 40 + payload length
unfoldable pub is_packet_malformed : ℕ → Inner → Bool
is_packet_malformed n i = ltb n inner_header || not (eqb i.version 6) || not (eqb n i.length)

-- the 40 + payload length inner bytes, none where they are malformed
unfoldable pub inner_packet_of : List ℕ → List ℕ
inner_packet_of p = cond (is_inner_malformed (length p) (inner_of p)) [] (take (inner_of p).length p)

-- R8.2, R25: a message is written unless the packet's source is multicast or `::`, or its chain of headers draws none
unfoldable pub may_draw_error : List ℕ → Bool
may_draw_error p = not (is_multicast_or_unspecified (address_at p 8)) && chain_may_draw (get_or p 6 0) (drop inner_header p)
