-- The outer header (R5; RFC 791, 3.1): its fields, and the rules of numbers 2 to 5.
use Rattle.std.specs.Prelude.{ℕ, ◌*◌, ◌/◌, ◌%◌, Bool, not, ◌||◌, List, [], ◌∷◌, ◌++◌, get_or, length, take, drop, eqb, ltb, Result, Ok, Err}
use Rattle.checksum.specs.Sum.{is_right}
use Rattle.refusals.specs.Refusals.{first_of, stop_or}
use Rattle.refusals.specs.Given.{Given, answered, refused}
use Rattle.refusals.specs.declared.Refusal.{Refusal}
use Rattle.refusals.specs.declared.Refusal.TheVariants.{OuterMalformed, OuterChecksum, OtherProtocol, Piece}
use Rattle.header.specs.Numbers.{outer_header, ipv6}
use Rattle.header.specs.Fields.{word_at, quad_at}
use Rattle.header.specs.declared.outer.Outer.{Outer}

-- the fields; the more-fragments flag and the offset are the low 14 bits behind the identification
unfoldable pub outer_of : List ℕ → Outer
outer_of d = record {
  version = get_or d 0 0 / 16;
  header = get_or d 0 0 % 16 * 4;
  total = word_at d 2;
  fragment = word_at d 6 % 0x4000;
  protocol = get_or d 9 0;
  source = quad_at d 12;
  destination = quad_at d 16;
}

-- malformed outer: under 20 bytes, version not 4, header words under 5, header longer than the bytes, or total length below
-- the header or above the bytes
unfoldable pub is_outer_malformed : ℕ → Outer → Bool
is_outer_malformed n o =
    ltb n outer_header
    || not (eqb o.version 4)
    || ltb o.header outer_header
    || ltb n o.header
    || ltb o.total o.header
    || ltb n o.total

-- outer checksum wrong: it is over the header, options included
unfoldable pub is_sum_wrong : List ℕ → Outer → Bool
is_sum_wrong d o = not (is_right (take o.header d))

-- 2 and 3
abbrev pub header_rows : ℕ → List ℕ → Outer → List (Bool × Refusal)
header_rows n d o = (is_outer_malformed n o, OuterMalformed) ∷ ((is_sum_wrong d o, OuterChecksum) ∷ [])

-- 4: the protocol is not 41
abbrev pub protocol_rows : Outer → List (Bool × Refusal)
protocol_rows o = (not (eqb o.protocol ipv6), OtherProtocol) ∷ []

-- 5, a piece: more-fragments set or offset not 0
abbrev pub piece_rows : Outer → List (Bool × Refusal)
piece_rows o = (not (eqb o.fragment 0), Piece) ∷ []

-- the first of 3 and 4 that a datagram gets which starts with d and has the fields o
unfoldable pub sum_check : List ℕ → Outer → Result Unit Refusal
sum_check d o = first_of ((is_sum_wrong d o, OuterChecksum) ∷ protocol_rows o)

-- the first of 2 to 4 that a datagram of n bytes gets, which starts with d and has the fields o
unfoldable pub header_check : ℕ → List ℕ → Outer → Result Unit Refusal
header_check n d o = first_of (header_rows n d o ++ protocol_rows o)

-- the first of 2 to 5 that it gets
unfoldable pub outer_check : ℕ → List ℕ → Outer → Result Unit Refusal
outer_check n d o = first_of (header_rows n d o ++ (protocol_rows o ++ piece_rows o))

-- number and values (R1.17): the fields of a header that passes
abbrev pub outer_given : Result Outer Refusal → Given
outer_given (Ok o) = answered (o.header ∷ o.total ∷ o.source ∷ o.destination ∷ o.protocol ∷ o.fragment ∷ [])
outer_given (Err refusal) = refused refusal

-- the fields of a header that passes, or the refusal
abbrev pub read_with : Result Unit Refusal → Outer → Result Outer Refusal
read_with check o = stop_or Err check (Ok o)

-- the fields of a datagram's outer header, a piece's too, or the first of 2 to 4
unfoldable pub header_read_of : List ℕ → Result Outer Refusal
header_read_of d = read_with (header_check (length d) d (outer_of d)) (outer_of d)

-- the fields of a datagram's outer header, or the first of 2 to 5
unfoldable pub outer_read_of : List ℕ → Result Outer Refusal
outer_read_of d = read_with (outer_check (length d) d (outer_of d)) (outer_of d)

-- bytes after the total length are padding. The inner packet starts after the header, options included (R5.3, R5.9).
unfoldable pub payload_of : List ℕ → Outer → List ℕ
payload_of d o = drop o.header (take o.total d)

-- R9.2 (RFC 792): a quote stands behind the first 8 bytes of an ICMPv4 message
abbrev pub quote_of : List ℕ → List ℕ
quote_of m = drop 8 m

-- R9.2, of 16: the quoted header not version 4, under 5 words or cut off
unfoldable pub is_quote_malformed : ℕ → Outer → Bool
is_quote_malformed n o = not (eqb o.version 4) || ltb o.header outer_header || ltb n o.header
