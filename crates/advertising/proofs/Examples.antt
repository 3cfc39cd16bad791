-- A worked call, computed apart from RFC 4861, 4.2 and 4.6.2, RFC 4191, 2.3, and RFC 4443, 2.3: the definitions give these bytes, and each number.
-- Assumes nothing.
use Rattle.std.specs.Prelude.{Option, Some, None, Ok, Err}
use Prim.Native.Nat.{ℕ}
use mathlib.Core.Path.{◌≡◌, refl}
use mathlib.Core.Bool.{true, false}
use mathlib.Core.List.{List, [], ◌∷◌, ◌++◌, map, flatten}
use lib.ListN.{set, take}
use Rattle.checksum.specs.Sum.{ones_sum_from}
use Rattle.address.specs.Address.{is_under, is_identifier, link_local_of, last_quad}
use Rattle.refusals.specs.declared.Refusal.TheVariants as refusal
use Rattle.header.specs.Fields.{word_at, address_at}
use Rattle.header.specs.Inner.{inner_of, is_inner_malformed}
use Rattle.messages.specs.Icmp.{icmp_sum, icmp_message, icmp_packet}
use Rattle.options.specs.Options.{option_size, options_from, are_options_whole}
use Rattle.settings.specs.Locators.{is_no_locator}
use Rattle.hearing.specs.Message.{is_sum_right, has_fields, is_valid_message}
use Rattle.hearing.specs.Solicitation.{is_valid_solicitation, is_solicitation}
use Rattle.advertisements.specs.Bits.{first_bits_of}
use Rattle.advertisements.specs.Options.{prefix_option, route_units, full_route_option, route_option}
use Rattle.advertisements.specs.Advertisement.{are_options_bad, advertisement_of, advertisement_length, advertisement_check, advertisement_answer, advertisement_output}
use Rattle.advertisements.specs.declared.prefix.Prefix.{Prefix}
use Rattle.advertisements.specs.declared.route.Route.{Route}
use Rattle.advertisements.specs.declared.route.Preference.TheVariants.{Low}
use Rattle.advertisements.specs.declared.Advertisement.{Advertisement}
use Rattle.advertising.specs.Advertise.{is_asker_right, asker_check, advertised_of, advertised_output}

-- a solicitation from a prefix, the identifier byte 02 or 00, and then 00 5E FE and 10.0.0.2, to fe80::5efe:10.0.0.1
abbrev asking : List ℕ → ℕ → ℕ → List ℕ
asking source high low =
    (0x60 ∷ 0x00 ∷ 0x00 ∷ 0x00 ∷ 0x00 ∷ 0x08 ∷ 0x3A ∷ 0xFF ∷ [])
    ++ (source
    ++ (0x00 ∷ 0x5E ∷ 0xFE ∷ 0x0A ∷ 0x00 ∷ 0x00 ∷ 0x02
    ∷ 0xFE ∷ 0x80 ∷ 0x00 ∷ 0x00 ∷ 0x00 ∷ 0x00 ∷ 0x00 ∷ 0x00 ∷ 0x00 ∷ 0x00 ∷ 0x5E ∷ 0xFE ∷ 0x0A ∷ 0x00 ∷ 0x00 ∷ 0x01
    ∷ 0x85 ∷ 0x00 ∷ high ∷ low ∷ 0x00 ∷ 0x00 ∷ 0x00 ∷ 0x00 ∷ []))

-- from fe80::200:5efe:10.0.0.2
abbrev asked : List ℕ
asked = asking (0xFE ∷ 0x80 ∷ 0x00 ∷ 0x00 ∷ 0x00 ∷ 0x00 ∷ 0x00 ∷ 0x00 ∷ 0x02 ∷ []) 0xA9 0xBB

-- from 2001:db8::5efe:10.0.0.2
abbrev from_outside : List ℕ
from_outside = asking (0x20 ∷ 0x01 ∷ 0x0D ∷ 0xB8 ∷ 0x00 ∷ 0x00 ∷ 0x00 ∷ 0x00 ∷ 0x00 ∷ []) 0x7C 0x83

-- 10.0.0.1
abbrev ours : Option ℕ
ours = Some 0x0A000001

-- bits behind the prefix length are set
abbrev prefix : ℕ → Prefix
prefix n = record {
  bytes = 0x20 ∷ 0x01 ∷ 0x0D ∷ 0xB8 ∷ 0x00 ∷ 0x00 ∷ 0x00 ∷ 0x0F ∷ 0xFF ∷ 0xFF ∷ 0xFF ∷ 0xFF ∷ 0xFF ∷ 0xFF ∷ 0xFF ∷ 0xFF ∷ [];
  valid = 1000;
  preferred = 500;
  length = n;
  on_link = true;
  autonomous = true;
}

abbrev route : Route
route = record {
  bytes = 0x20 ∷ 0x01 ∷ 0x0D ∷ 0xB8 ∷ 0xFF ∷ 0xFF ∷ 0xFF ∷ 0xFF ∷ 0xFF ∷ 0xFF ∷ 0xFF ∷ 0xFF ∷ 0xFF ∷ 0xFF ∷ 0xFF ∷ 0xFF ∷ [];
  lifetime = 600;
  length = 33;
  preference = Low;
}

-- M, router lifetime 1,800, a prefix, and a route
abbrev operators : ℕ → Advertisement
operators n = record { managed = true; other = false; lifetime = 1800; prefixes = prefix n ∷ []; prefix_count = 1; routes = route ∷ []; route_count = 1 }

-- fe80::5efe:10.0.0.1 to fe80::200:5efe:10.0.0.2: a prefix option for 62 bits, and a route option for 33
abbrev advertisement : List ℕ
advertisement =
    0x60 ∷ 0x00 ∷ 0x00 ∷ 0x00 ∷ 0x00 ∷ 0x40 ∷ 0x3A ∷ 0xFF ∷ 0xFE ∷ 0x80 ∷ 0x00 ∷ 0x00 ∷ 0x00 ∷ 0x00 ∷ 0x00 ∷ 0x00
    ∷ 0x00 ∷ 0x00 ∷ 0x5E ∷ 0xFE ∷ 0x0A ∷ 0x00 ∷ 0x00 ∷ 0x01 ∷ 0xFE ∷ 0x80 ∷ 0x00 ∷ 0x00 ∷ 0x00 ∷ 0x00 ∷ 0x00 ∷ 0x00
    ∷ 0x02 ∷ 0x00 ∷ 0x5E ∷ 0xFE ∷ 0x0A ∷ 0x00 ∷ 0x00 ∷ 0x02 ∷ 0x86 ∷ 0x00 ∷ 0x42 ∷ 0x6A ∷ 0x00 ∷ 0x80 ∷ 0x07 ∷ 0x08
    ∷ 0x00 ∷ 0x00 ∷ 0x00 ∷ 0x00 ∷ 0x00 ∷ 0x00 ∷ 0x00 ∷ 0x00 ∷ 0x03 ∷ 0x04 ∷ 0x3E ∷ 0xC0 ∷ 0x00 ∷ 0x00 ∷ 0x03 ∷ 0xE8
    ∷ 0x00 ∷ 0x00 ∷ 0x01 ∷ 0xF4 ∷ 0x00 ∷ 0x00 ∷ 0x00 ∷ 0x00 ∷ 0x20 ∷ 0x01 ∷ 0x0D ∷ 0xB8 ∷ 0x00 ∷ 0x00 ∷ 0x00 ∷ 0x0C
    ∷ 0x00 ∷ 0x00 ∷ 0x00 ∷ 0x00 ∷ 0x00 ∷ 0x00 ∷ 0x00 ∷ 0x00 ∷ 0x18 ∷ 0x02 ∷ 0x21 ∷ 0x18 ∷ 0x00 ∷ 0x00 ∷ 0x02 ∷ 0x58
    ∷ 0x20 ∷ 0x01 ∷ 0x0D ∷ 0xB8 ∷ 0x80 ∷ 0x00 ∷ 0x00 ∷ 0x00 ∷ []

-- with a byte behind the solicitation, which is passed over, and one in the output behind the advertisement, which stays
advertised : advertised_output ours (asked ++ (9 ∷ [])) (operators 62) (map (λ (b : ℕ). 7) (advertisement ++ (7 ∷ []))) ≡ advertisement ++ (7 ∷ [])
unfolding advertised_output asker_check is_asker_right is_no_locator is_under is_identifier link_local_of is_solicitation is_inner_malformed is_valid_solicitation is_valid_message has_fields is_sum_right inner_of word_at address_at icmp_sum icmp_message icmp_packet ones_sum_from are_options_whole options_from option_size flatten last_quad advertisement_output advertisement_check are_options_bad advertisement_length advertisement_of prefix_option route_units full_route_option route_option first_bits_of
advertised = refl

-- each number, and the length where there is just enough room
numbers : (advertised_of ours (take 39 asked) (operators 62) 104 ≡ Err refusal.InnerMalformed)
    × (advertised_of None asked (operators 62) 104 ≡ Err refusal.NoLocator)
    × (advertised_of ours (set asked 7 254) (operators 62) 104 ≡ Err refusal.SolicitationInvalid)
    × (advertised_of ours from_outside (operators 62) 104 ≡ Err refusal.AskerNotIsatap)
    × (advertised_of ours asked (operators 129) 104 ≡ Err refusal.OptionsBad)
    × (advertised_of ours asked (operators 62) 103 ≡ Err refusal.OutputShort)
    × (advertised_of ours asked (operators 62) 104 ≡ Ok 104)
unfolding advertised_of asker_check is_asker_right is_no_locator is_under is_identifier is_solicitation is_inner_malformed is_valid_solicitation is_valid_message has_fields is_sum_right inner_of word_at address_at icmp_sum ones_sum_from are_options_whole options_from option_size flatten last_quad advertisement_answer advertisement_check are_options_bad advertisement_length route_units
numbers = (refl, refl, refl, refl, refl, refl, refl)
