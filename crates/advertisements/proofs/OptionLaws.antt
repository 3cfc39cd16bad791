-- The options that we write: their bytes are those of the RFCs, they are whole, and a reader takes the lifetimes that the operator set.
-- Assumes nothing.
use Prim.Native.Nat.{ℕ, ◌-◌, ◌*◌, ◌≤◌, ◌<◌}
use mathlib.Core.Path.{◌≡◌, refl, ap, ◌∙◌}
use mathlib.Core.Logic.{inl, inr}
use mathlib.Core.Bool.{Bool, true, false}
use mathlib.Core.List.{List, ◌∷◌}
use native.Mathlib.Omega.{arith}
use lib.ListN.{length, take, length-take}
use lib.Seq.{take_all}
use Rattle.checksum.proofs.Bytes.{Bytes, bytes_take}
use Rattle.header.specs.Wrap.{be32}
use Rattle.options.specs.Options.{IsOption}
use Rattle.options.specs.Facts.{HasLifetime}
use Rattle.advertisements.specs.Bits.{flag_bits, first_bits_of}
use Rattle.advertisements.specs.Options.{prefix_option, preference_bits, route_units, route_option}
use Rattle.advertisements.specs.OptionFacts.{PrefixOptionOf, preference_byte, RouteOptionOf}
use Rattle.advertisements.specs.Fits.{PrefixFits, RouteFits}
use Rattle.advertisements.specs.declared.prefix.Prefix.{Prefix}
use Rattle.advertisements.specs.declared.route.Route.{Route}
use Rattle.advertisements.specs.declared.route.Preference.{Preference}
use Rattle.advertisements.specs.declared.route.Preference.TheVariants.{Medium, High, Low}
use Rattle.advertisements.proofs.BitLaws.{length-first-bits-of}
use Rattle.advertisements.proofs.FirstBitLaws.{bytes-first-bits, first-bits}
use Rattle.advertisements.proofs.UnitLaws.{units_between, units-shortest, route_option_bytes}

pub flags-byte : (first second : Bool) → flag_bits first second < 256
flags-byte true true = omega arith
flags-byte true false = omega arith
flags-byte false true = omega arith
flags-byte false false = omega arith

preference-byte : (p : Preference) → preference_bits p < 256
preference-byte Medium = omega arith
preference-byte High = omega arith
preference-byte Low = omega arith

preference-same : (p : Preference) → preference_bits p ≡ preference_byte p
preference-same Medium = refl
preference-same High = refl
preference-same Low = refl

-- the four bytes of a 32-bit number in front of bytes are bytes
quad-bytes : (x : ℕ) (s : List ℕ) → x < 4294967296 → Bytes s → Bytes (be32 x s)
quad-bytes x s h b = (omega arith, (omega arith, (omega arith, (omega arith, b))))

-- a prefix whose fields have their types
module _ (p : Prefix) (f : PrefixFits p) where
  prefix-long : length (first_bits_of p.length p.bytes) ≡ 16
  prefix-long = length-first-bits-of p.length p.bytes ∙ f.whole

  pub length-prefix_option : length (prefix_option p) ≡ 32
  unfolding prefix_option
  length-prefix_option = omega (arith, prefix-long)

  pub bytes-prefix_option : Bytes (prefix_option p)
  unfolding prefix_option
  bytes-prefix_option =
      let bits = bytes-first-bits p.length p.bytes f.bytes in
      let z : List ℕ = 0 ∷ (0 ∷ (0 ∷ (0 ∷ first_bits_of p.length p.bytes))) in
      let zeros : Bytes z = (omega arith, (omega arith, (omega arith, (omega arith, bits)))) in
      let lifetimes = quad-bytes p.valid (be32 p.preferred z) f.valid (quad-bytes p.preferred z f.preferred zeros) in
      (omega arith, (omega arith, (f.length, (flags-byte p.on_link p.autonomous, lifetimes))))

  pub prefix-is_option : IsOption (prefix_option p)
  unfolding prefix_option
  prefix-is_option = (omega arith, omega (arith, prefix-long))

  -- a reader takes the valid lifetime
  pub prefix-has-lifetime : HasLifetime p.valid (prefix_option p)
  unfolding prefix_option
  prefix-has-lifetime = let v = f.valid in (inl (refl, refl), omega arith)

  -- the option is that of RFC 4861
  pub prefix_option_of : PrefixOptionOf p (prefix_option p)
  unfolding prefix_option
  prefix_option_of =
      let w = first_bits_of p.length p.bytes in
      let b = first-bits p.length 16 p.bytes f.bytes in
      record {
        prefix = w;
        long = prefix-long;
        bits = rw (take_all 16 w (omega (arith, prefix-long))) at b;
        bytes = refl;
      }

-- a route whose fields have their types
module _ (r : Route) (f : RouteFits r) where
  route-long : length (take (8 * (route_units r.length - 1)) (first_bits_of r.length r.bytes)) ≡ 8 * (route_units r.length - 1)
  route-long =
      let between = units_between r.length in
      let w = first_bits_of r.length r.bytes in
      let whole : length w ≡ 16 = length-first-bits-of r.length r.bytes ∙ f.whole in
      length-take (8 * (route_units r.length - 1)) w ∙ omega arith

  pub length-route_option : length (route_option r) ≡ route_units r.length * 8
  length-route_option = rw (route_option_bytes r) (omega (arith, route-long, units_between r.length))

  pub bytes-route_option : Bytes (route_option r)
  bytes-route_option =
      let w = first_bits_of r.length r.bytes in
      let m = 8 * (route_units r.length - 1) in
      let bits = bytes_take m w (bytes-first-bits r.length r.bytes f.bytes) in
      let units : route_units r.length < 256 = omega (arith, units_between r.length) in
      rw (route_option_bytes r)
      (omega arith, (units, (f.length, (preference-byte r.preference, quad-bytes r.lifetime (take m w) f.lifetime bits))))

  pub route-is_option : IsOption (route_option r)
  route-is_option = rw (route_option_bytes r) (omega arith, omega (arith, route-long, units_between r.length))

  -- a reader takes the route lifetime
  pub route-has-lifetime : HasLifetime r.lifetime (route_option r)
  route-has-lifetime =
      let l = f.lifetime in
      rw (route_option_bytes r) (inr (refl, units_between r.length), omega arith)

  -- the option is that of RFC 4191
  pub route_option_of : r.length ≤ 128 → RouteOptionOf r (route_option r)
  route_option_of most =
      let m = 8 * (route_units r.length - 1) in
      let w = take m (first_bits_of r.length r.bytes) in
      record {
        units = route_units r.length;
        shortest = units-shortest r.length most;
        prefix = w;
        long = route-long;
        bits = first-bits r.length m r.bytes f.bytes;
        bytes = route_option_bytes r
            ∙ ap (λ (b : ℕ). 24 ∷ (route_units r.length ∷ (r.length ∷ (b ∷ be32 r.lifetime w)))) (preference-same r.preference);
      }
