-- A worked advertisement and worked solicitations, computed by hand from RFC 4861 and RFC 4443: the definitions take them, or refuse them.
-- Assumes nothing.
use Prim.Native.Nat.{ℕ}
use mathlib.Core.Path.{◌≡◌, refl}
use mathlib.Core.Bool.{true, false}
use mathlib.Core.List.{List, [], ◌∷◌, ◌++◌, flatten}
use lib.ListN.{set}
use Rattle.checksum.specs.Sum.{ones_sum_from}
use Rattle.address.specs.Address.{is_under, last_quad}
use Rattle.header.specs.Fields.{word_at, address_at}
use Rattle.header.specs.Inner.{inner_of, is_inner_malformed}
use Rattle.messages.specs.Icmp.{solicitation_type, icmp_sum}
use Rattle.options.specs.Options.{option_size, options_from, are_options_whole}
use Rattle.options.specs.Lifetimes.{lifetime_of, counted, least_of, delay_of, due_after}
use Rattle.hearing.specs.Message.{is_sum_right, has_fields, is_valid_message}
use Rattle.hearing.specs.Heard.{options_in, is_valid_advertisement}
use Rattle.hearing.specs.Solicitation.{solicitation_options, is_valid_solicitation, is_solicitation}

-- fe80::5efe:10.0.0.2 to fe80::5efe:10.0.0.1: router lifetime 1,800, and a prefix option with the valid lifetime 1,000
abbrev sample : List ℕ
sample =
    0x60 ∷ 0x00 ∷ 0x00 ∷ 0x00 ∷ 0x00 ∷ 0x30 ∷ 0x3A ∷ 0xFF ∷ 0xFE ∷ 0x80 ∷ 0x00 ∷ 0x00 ∷ 0x00 ∷ 0x00 ∷ 0x00 ∷ 0x00
    ∷ 0x00 ∷ 0x00 ∷ 0x5E ∷ 0xFE ∷ 0x0A ∷ 0x00 ∷ 0x00 ∷ 0x02 ∷ 0xFE ∷ 0x80 ∷ 0x00 ∷ 0x00 ∷ 0x00 ∷ 0x00 ∷ 0x00 ∷ 0x00
    ∷ 0x00 ∷ 0x00 ∷ 0x5E ∷ 0xFE ∷ 0x0A ∷ 0x00 ∷ 0x00 ∷ 0x01 ∷ 0x86 ∷ 0x00 ∷ 0xEC ∷ 0x31 ∷ 0x40 ∷ 0x00 ∷ 0x07 ∷ 0x08
    ∷ 0x00 ∷ 0x00 ∷ 0x00 ∷ 0x00 ∷ 0x00 ∷ 0x00 ∷ 0x00 ∷ 0x00 ∷ 0x03 ∷ 0x04 ∷ 0x40 ∷ 0xC0 ∷ 0x00 ∷ 0x00 ∷ 0x03 ∷ 0xE8
    ∷ 0x00 ∷ 0x00 ∷ 0x01 ∷ 0xF4 ∷ 0x00 ∷ 0x00 ∷ 0x00 ∷ 0x00 ∷ 0x20 ∷ 0x01 ∷ 0x0D ∷ 0xB8 ∷ 0x00 ∷ 0x00 ∷ 0x00 ∷ 0x00
    ∷ 0x00 ∷ 0x00 ∷ 0x00 ∷ 0x00 ∷ 0x00 ∷ 0x00 ∷ 0x00 ∷ 0x00 ∷ []

valid : is_valid_advertisement (inner_of sample) sample ≡ true
unfolding is_valid_message has_fields is_sum_right inner_of word_at address_at is_under icmp_sum ones_sum_from are_options_whole options_from option_size flatten
valid = refl

-- with another hop limit, which the checksum does not cover, it is not valid
passed_on : is_valid_advertisement (inner_of (set sample 7 254)) (set sample 7 254) ≡ false
unfolding is_valid_message has_fields is_sum_right inner_of word_at address_at is_under icmp_sum ones_sum_from are_options_whole options_from option_size
passed_on = refl

-- half of 1,000 seconds after it was heard its router is due
due : due_after 2000 120 (options_in sample).smallest ≡ 2500
unfolding delay_of word_at options_from option_size lifetime_of counted least_of
due = refl

-- a solicitation to ff02::2 with a source link-layer address option, from a source, with a checksum of two bytes
abbrev asking : List ℕ → ℕ → ℕ → List ℕ
asking source high low =
    (0x60 ∷ 0x00 ∷ 0x00 ∷ 0x00 ∷ 0x00 ∷ 0x10 ∷ 0x3A ∷ 0xFF ∷ [])
    ++ (source ++ (0xFF ∷ 0x02 ∷ 0x00 ∷ 0x00 ∷ 0x00 ∷ 0x00 ∷ 0x00 ∷ 0x00 ∷ 0x00 ∷ 0x00 ∷ 0x00 ∷ 0x00 ∷ 0x00 ∷ 0x00 ∷ 0x00 ∷ 0x02
    ∷ 0x85 ∷ 0x00 ∷ high ∷ low ∷ 0x00 ∷ 0x00 ∷ 0x00 ∷ 0x00 ∷ 0x01 ∷ 0x01 ∷ 0x02 ∷ 0x00 ∷ 0x5E ∷ 0x10 ∷ 0x00 ∷ 0x01 ∷ []))

-- from fe80::5efe:10.0.0.2 it is valid
asked : is_solicitation (asking (0xFE ∷ 0x80 ∷ 0x00 ∷ 0x00 ∷ 0x00 ∷ 0x00 ∷ 0x00 ∷ 0x00 ∷ 0x00 ∷ 0x00 ∷ 0x5E ∷ 0xFE ∷ 0x0A ∷ 0x00 ∷ 0x00 ∷ 0x02 ∷ []) 0xB3 0x1C) ≡ true
unfolding is_solicitation is_inner_malformed is_valid_solicitation is_valid_message has_fields is_sum_right inner_of word_at address_at icmp_sum ones_sum_from are_options_whole options_from option_size flatten
asked = refl

-- from `::` it is not, though the rules of a message hold of it
abbrev from_nowhere : List ℕ
from_nowhere = asking (0x00 ∷ 0x00 ∷ 0x00 ∷ 0x00 ∷ 0x00 ∷ 0x00 ∷ 0x00 ∷ 0x00 ∷ 0x00 ∷ 0x00 ∷ 0x00 ∷ 0x00 ∷ 0x00 ∷ 0x00 ∷ 0x00 ∷ 0x00 ∷ []) 0x1A 0x9E

a_message : is_valid_message solicitation_type solicitation_options (inner_of from_nowhere) from_nowhere ≡ true
unfolding is_valid_message has_fields is_sum_right inner_of icmp_sum ones_sum_from are_options_whole options_from option_size flatten
a_message = refl

not-asked : is_solicitation from_nowhere ≡ false
unfolding is_solicitation is_inner_malformed is_valid_solicitation is_valid_message has_fields is_sum_right inner_of word_at address_at icmp_sum ones_sum_from are_options_whole options_from option_size flatten last_quad
not-asked = refl
