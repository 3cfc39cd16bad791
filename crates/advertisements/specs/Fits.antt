-- What the types of a prefix, of a route and of an advertisement say of their fields.
use Rattle.std.specs.Prelude.{ℕ, ◌<◌, ◌≡◌, get_or, length}
use mathlib.Core.List.{Memᴰ}
use Rattle.advertisements.specs.declared.prefix.Prefix.{Prefix}
use Rattle.advertisements.specs.declared.route.Route.{Route}
use Rattle.advertisements.specs.declared.Advertisement.{Advertisement}

-- 16 bytes, a byte, and two numbers of 32 bits
pub record PrefixFits (p : Prefix) : Type 0 where
  pub whole : length p.bytes ≡ 16
  pub bytes : (i : ℕ) → get_or p.bytes i 0 < 256
  pub length : p.length < 256
  pub valid : p.valid < 4294967296
  pub preferred : p.preferred < 4294967296

-- 16 bytes, a byte, and a number of 32 bits
pub record RouteFits (r : Route) : Type 0 where
  pub whole : length r.bytes ≡ 16
  pub bytes : (i : ℕ) → get_or r.bytes i 0 < 256
  pub length : r.length < 256
  pub lifetime : r.lifetime < 4294967296

-- a number of 16 bits, eight places for prefixes, and each prefix and each route as its own type says
pub record AdvertisementFits (a : Advertisement) : Type 0 where
  pub lifetime : a.lifetime < 65536
  pub places : length a.prefixes ≡ 8
  pub prefixes : (p : Prefix) → Memᴰ p a.prefixes → PrefixFits p
  pub routes : (r : Route) → Memᴰ r a.routes → RouteFits r
