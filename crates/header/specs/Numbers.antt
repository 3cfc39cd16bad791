-- Lengths and protocol numbers of the headers.
use Rattle.std.specs.Prelude.{ℕ}

-- the length of the outer header that we write, five words, and the least of any IPv4 header (RFC 791, 3.1)
abbrev pub outer_header : ℕ
outer_header = 20

-- the length of an IPv6 header (RFC 2460, 3)
abbrev pub inner_header : ℕ
inner_header = 40

-- the protocol of IPv6 in IPv4
abbrev pub ipv6 : ℕ
ipv6 = 41

-- the next header of ICMPv6
abbrev pub icmpv6 : ℕ
icmpv6 = 58
