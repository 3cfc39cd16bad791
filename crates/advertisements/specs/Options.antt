-- The options of an advertisement that we write (R22.10, R22.11; RFC 4861, 4.6.2; RFC 4191, 2.3).
use Rattle.std.specs.Prelude.{ℕ, ◌*◌, cond, List, ◌∷◌, take, eqb, leb}
use Rattle.header.specs.Wrap.{be32}
use Rattle.options.specs.Options.{prefix_type, prefix_units, route_type, unit_bytes}
use Rattle.advertisements.specs.Bits.{flag_bits, first_bits_of}
use Rattle.advertisements.specs.declared.prefix.Prefix.{Prefix}
use Rattle.advertisements.specs.declared.route.Route.{Route}
use Rattle.advertisements.specs.declared.route.Preference.{Preference}
use Rattle.advertisements.specs.declared.route.Preference.TheVariants.{Medium, High, Low}

-- type 3, length 4, prefix length, L and A, valid and preferred lifetime, four bytes 0, the prefix with the bits past its length 0
unfoldable pub prefix_option : Prefix → List ℕ
prefix_option p =
    prefix_type ∷ (prefix_units ∷ (p.length ∷ (flag_bits p.on_link p.autonomous
    ∷ be32 p.valid (be32 p.preferred (0 ∷ (0 ∷ (0 ∷ (0 ∷ first_bits_of p.length p.bytes))))))))

-- RFC 4191, 2.1: high is 01, medium 00 and low 11, in the bits 3 and 4
abbrev pub preference_bits : Preference → ℕ
preference_bits Medium = 0x00
preference_bits High = 0x08
preference_bits Low = 0x18

-- RFC 4191, 2.3: the shortest length for a prefix of that many bits: 1 for none, 2 up to 64, else 3
unfoldable pub route_units : ℕ → ℕ
route_units length = cond (eqb length 0) 1 (cond (leb length 64) 2 3)

-- type 24, length, prefix length, preference, lifetime, and all 16 bytes of the prefix, with the bits past its length 0
unfoldable pub full_route_option : Route → List ℕ
full_route_option r =
    route_type ∷ (route_units r.length ∷ (r.length ∷ (preference_bits r.preference ∷ be32 r.lifetime (first_bits_of r.length r.bytes))))

-- the option is as much of that as its length says
unfoldable pub route_option : Route → List ℕ
route_option r = take (route_units r.length * unit_bytes) (full_route_option r)
