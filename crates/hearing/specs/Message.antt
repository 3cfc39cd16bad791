-- A neighbour discovery message that is valid (R15.3, R22.4; RFC 4861, 6.1): p is its IPv6 packet, no byte behind it, and
-- i are the fields of the packet's header.
use Rattle.std.specs.Prelude.{ℕ, Bool, ◌&&◌, List, length, take, drop, get_or, eqb, leb}
use Rattle.checksum.specs.Sum.{all_ones}
use Rattle.header.specs.Numbers.{inner_header, icmpv6}
use Rattle.header.specs.declared.inner.Inner.{Inner}
use Rattle.messages.specs.Icmp.{hop_limit, icmp_sum}
use Rattle.options.specs.Options.{are_options_whole}

-- source and destination address
abbrev pub addresses_of : List ℕ → List ℕ
addresses_of p = take 32 (drop 8 p)

-- the ICMPv6 message behind the IPv6 header
abbrev pub message_of : List ℕ → List ℕ
message_of p = drop inner_header p

-- checksum right (RFC 4443, 2.3): the sum of the message and its pseudo header is FFFF
unfoldable pub is_sum_right : List ℕ → Bool
is_sum_right p = eqb (icmp_sum (addresses_of p) (message_of p)) all_ones

-- the fields of a message of the type `kind`: next header 58, hop limit 255, the type, code 0, ICMPv6 length at least `least`
unfoldable pub has_fields : ℕ → ℕ → Inner → List ℕ → Bool
has_fields kind least i p =
    eqb i.next icmpv6
    && eqb i.hop hop_limit
    && eqb (get_or (message_of p) 0 0) kind
    && eqb (get_or (message_of p) 1 0) 0
    && leb least (length (message_of p))

-- valid: the fields, checksum right, options walked one after another from `least` on to the exact end, none of length 0
unfoldable pub is_valid_message : ℕ → ℕ → Inner → List ℕ → Bool
is_valid_message kind least i p = has_fields kind least i p && is_sum_right p && are_options_whole (drop least (message_of p))
