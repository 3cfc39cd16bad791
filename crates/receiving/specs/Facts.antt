-- The rules of receiving, said over the datagram's bytes, the settings' locators and prefixes, and the listed routers.
use Rattle.std.specs.Prelude.{ℕ, ◌+◌, ◌*◌, ◌/◌, ◌%◌, ◌≤◌, ◌≡◌, ◌⊎◌, List, [], ◌∷◌, get_or, length, take, drop}
use Rattle.checksum.specs.Sum.{ones_sum}
use Rattle.address.specs.Facts.{BadSource}
use Rattle.refusals.specs.declared.Refusal.{Refusal}
use Rattle.refusals.specs.declared.Refusal.TheVariants.{OuterMalformed, OuterChecksum, OtherProtocol, Piece, NotForUs, OuterSourceForbidden, InnerMalformed, InnerSourceBad, OuterSourceWrong}
use Rattle.header.specs.Fields.{word_at, quad_at, address_at}
use Rattle.settings.specs.Facts.{ForbiddenTo, OurLocator, IsatapTo}
use Rattle.settings.specs.declared.Settings.{Settings}
use Rattle.routers.specs.Facts.{Listed}
use Rattle.routers.specs.declared.Router.{Router}

-- RFC 791, 3.1: the header's length in bytes, of which its first byte gives the words
abbrev pub header_length : List ℕ → ℕ
header_length d = get_or d 0 0 % 16 * 4

-- RFC 791, 3.1: the total length stands at byte 2
abbrev pub total_length : List ℕ → ℕ
total_length d = word_at d 2

-- what stands behind the outer header, options included
abbrev pub behind_header : List ℕ → List ℕ
behind_header d = drop (header_length d) d

-- what stands between the end of the outer header and the total length: bytes after that are padding
abbrev pub encapsulated : List ℕ → List ℕ
encapsulated d = drop (header_length d) (take (total_length d) d)

-- RFC 2460, 3: the inner packet's length, 40 and the payload length that stands at byte 4
abbrev pub inner_length : List ℕ → ℕ
inner_length p = 40 + word_at p 4

-- RFC 791, 3.1: a whole IPv4 header, in a datagram that is all there
pub record OuterWhole (d : List ℕ) : Type 0 where
  pub some : 20 ≤ length d
  pub version : get_or d 0 0 / 16 ≡ 4
  pub words : 20 ≤ header_length d
  pub whole : header_length d ≤ length d
  pub inside : header_length d ≤ total_length d
  pub all : total_length d ≤ length d

-- RFC 791, 3.1 and RFC 1071: the sum of the header, its checksum included, is FFFF
abbrev pub SumRight : List ℕ → Type 0
SumRight d = ones_sum (take (header_length d) d) ≡ 0xFFFF

-- RFC 2893, 3.6: an encapsulated IPv6 packet
abbrev pub Encapsulates : List ℕ → Type 0
Encapsulates d = get_or d 9 0 ≡ 41

-- RFC 791, 3.1: no piece; the low 14 bits behind the identification are the more-fragments flag and the offset
abbrev pub Unfragmented : List ℕ → Type 0
Unfragmented d = word_at d 6 % 0x4000 ≡ 0

-- RFC 2893, 3.6: addressed to this node, on the interface of that locator
abbrev pub ForUs : Settings → List ℕ → ℕ → Type 0
ForUs s d interface = OurLocator s (quad_at d 16) interface

-- RFC 2893, 3.6: a multicast, broadcast, loopback or null source
abbrev pub OuterBad : Settings → List ℕ → Type 0
OuterBad s d = ForbiddenTo s (quad_at d 12)

-- RFC 2460, 3: a whole IPv6 packet at the start of p
pub record InnerWhole (p : List ℕ) : Type 0 where
  pub some : 40 ≤ length p
  pub version : get_or p 0 0 / 16 ≡ 6
  pub whole : inner_length p ≤ length p

-- RFC 2893, 3.6: such an inner source
abbrev pub InnerBad : Settings → List ℕ → Type 0
InnerBad s p = BadSource (ForbiddenTo s) (address_at p 8)

-- RFC 5214, 7.3: the inner source is an ISATAP address that embeds the outer source v, or v is a router of the list
abbrev pub SourceRight : Settings → List Router → ℕ → List ℕ → Type 0
SourceRight s routers v p = IsatapTo s (address_at p 8) v ⊎ Listed v routers

-- R5.10 to R5.12: what each of 8, 9, 10 is given for, of what is encapsulated, p, from the outer source v
abbrev pub inner_facts : Settings → List Router → ℕ → List ℕ → List (Type 0 × Refusal)
inner_facts s routers v p =
    (InnerWhole p → ⊥, InnerMalformed)
    ∷ (InnerBad s p, InnerSourceBad)
    ∷ (SourceRight s routers v p → ⊥, OuterSourceWrong)
    ∷ []

-- R4, in the order of receiving: what each number is given for, of a datagram d that encapsulates p
abbrev pub receive_facts : Settings → List Router → List ℕ → ℕ → List ℕ → List (Type 0 × Refusal)
receive_facts s routers d interface p =
    (OuterWhole d → ⊥, OuterMalformed)
    ∷ (SumRight d → ⊥, OuterChecksum)
    ∷ (Encapsulates d → ⊥, OtherProtocol)
    ∷ (Unfragmented d → ⊥, Piece)
    ∷ (ForUs s d interface → ⊥, NotForUs)
    ∷ (OuterBad s d, OuterSourceForbidden)
    ∷ inner_facts s routers (quad_at d 12) p
