-- The ICMPv6 messages that we write: Packet Too Big (R8.1; RFC 4443, 3.2) and the router solicitation (R14.1; RFC 4861, 4.1).
use Rattle.refusals.specs.declared.Refusal.{Refusal}
use Rattle.std.specs.Prelude.{ℕ, ◌+◌, min, List, [], ◌∷◌, ◌++◌, cond, ◌&&◌, length, take, drop, ltb, leb, Result}
use Rattle.lent.specs.Written.{written}
use Rattle.checksum.specs.Sum.{ones_sum, ones_complement}
use Rattle.refusals.specs.Refusals.{first_of}
use Rattle.refusals.specs.declared.Refusal.TheVariants.{InnerMalformed, OutputShort}
use Rattle.header.specs.Numbers.{inner_header, icmpv6}
use Rattle.header.specs.Fields.{address_at}
use Rattle.header.specs.Wrap.{be16, be32, writer_answer, writer_output}

-- RFC 4861, 4.1: the type of a router solicitation
abbrev pub solicitation_type : ℕ
solicitation_type = 133

-- RFC 4861, 4.2: the type of a router advertisement
abbrev pub advertisement_type : ℕ
advertisement_type = 134

-- RFC 4861, 6.1: a neighbour discovery message has hop limit 255
abbrev pub hop_limit : ℕ
hop_limit = 255

-- the headers of a message: IPv6's, and the first 8 bytes of ICMPv6
abbrev pub message_headers : ℕ
message_headers = inner_header + 8

-- the IPv6 header of n bytes of ICMPv6: traffic class and flow label 0
abbrev pub ipv6_header : ℕ → ℕ → List ℕ → List ℕ → List ℕ
ipv6_header n hop from to = 0x60 ∷ (0 ∷ (0 ∷ (0 ∷ be16 n (icmpv6 ∷ (hop ∷ (from ++ to))))))

-- what the pseudo header has behind the addresses (RFC 2460, 8.1): the length in 32 bits, three zero bytes, next header 58
abbrev pub pseudo_tail : ℕ → List ℕ
pseudo_tail n = be32 n (0 ∷ (0 ∷ (0 ∷ (icmpv6 ∷ []))))

-- the sum of an ICMPv6 message and its pseudo header (RFC 4443, 2.3); addresses are the source's bytes and then the destination's
unfoldable pub icmp_sum : List ℕ → List ℕ → ℕ
icmp_sum addresses message = ones_sum (addresses ++ (pseudo_tail (length message) ++ message))

-- a message of that type and code with a number for its checksum
abbrev pub icmp_with : ℕ → ℕ → ℕ → List ℕ → List ℕ
icmp_with kind code sum body = kind ∷ (code ∷ be16 sum body)

-- we write the complement of the sum taken with that field 0 (R1.6)
unfoldable pub icmp_message : List ℕ → ℕ → ℕ → List ℕ → List ℕ
icmp_message addresses kind code body = icmp_with kind code (ones_complement (icmp_sum addresses (icmp_with kind code 0 body))) body

-- the message in its IPv6 packet
unfoldable pub icmp_packet : ℕ → List ℕ → List ℕ → ℕ → ℕ → List ℕ → List ℕ
icmp_packet hop from to kind code body = ipv6_header (4 + length body) hop from to ++ icmp_message (from ++ to) kind code body

-- the longest IPv6 packet: a payload length has 16 bits
abbrev pub longest_packet : ℕ
longest_packet = inner_header + 65535

-- an output that already has, from byte 48 up to n, what stands behind a message's headers, and gets those headers before it: the packet of
-- n bytes, of that type and code 0, with `four` behind its checksum; untouched where such a packet cannot be or does not fit
unfoldable pub enclosed : ℕ → List ℕ → List ℕ → ℕ → List ℕ → ℕ → List ℕ → List ℕ
enclosed hop from to kind four n out =
    cond (leb message_headers n && leb n longest_packet && leb n (length out))
    (written (icmp_packet hop from to kind 0 (four ++ drop message_headers (take n out))) out) out

-- the first min(n, 1,232) bytes of the packet (R8.1) are quoted
abbrev pub most_quoted : ℕ
most_quoted = 1232

-- reporting address to the packet's source, hop limit 64, type 2, code 0, the size, then the first min(n, 1,232) bytes
unfoldable pub too_big_of : List ℕ → ℕ → List ℕ → List ℕ
too_big_of reporting size packet = icmp_packet 64 reporting (address_at packet 8) 2 0 (be32 size (take most_quoted packet))

-- the message's length for a packet of n bytes
abbrev pub too_big_length : ℕ → ℕ
too_big_length n = message_headers + min most_quoted n

-- without an IPv6 header there is no source to write to: 8; then 15
unfoldable pub too_big_check : ℕ → ℕ → Result Unit Refusal
too_big_check n room = first_of ((ltb n inner_header, InnerMalformed) ∷ ((ltb room (too_big_length n), OutputShort) ∷ []))

-- the length written, or the refusal
unfoldable pub too_big_answer : ℕ → ℕ → Result ℕ Refusal
too_big_answer n room = writer_answer (too_big_check n room) (too_big_length n)

-- what stands in the output afterwards
unfoldable pub too_big_output : List ℕ → ℕ → List ℕ → List ℕ → List ℕ
too_big_output reporting size packet out =
    writer_output (too_big_check (length packet) (length out)) (too_big_of reporting size packet) out

-- a solicitation: hop limit 255, type 133, code 0, reserved 0, no options
unfoldable pub solicitation_of : List ℕ → List ℕ → List ℕ
solicitation_of from to = icmp_packet hop_limit from to solicitation_type 0 (0 ∷ (0 ∷ (0 ∷ (0 ∷ []))))

-- a solicitation of 48 bytes (R14.1): nothing stands behind its headers
abbrev pub solicitation_length : ℕ
solicitation_length = message_headers

-- 15
unfoldable pub solicitation_check : ℕ → Result Unit Refusal
solicitation_check room = first_of ((ltb room solicitation_length, OutputShort) ∷ [])

-- the length written, or the refusal
unfoldable pub solicitation_answer : ℕ → Result ℕ Refusal
solicitation_answer room = writer_answer (solicitation_check room) solicitation_length

-- what stands in the output afterwards
unfoldable pub solicitation_output : List ℕ → List ℕ → List ℕ → List ℕ
solicitation_output from to out = writer_output (solicitation_check (length out)) (solicitation_of from to) out
