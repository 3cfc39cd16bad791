-- What plain structs of C, which may hold any bytes, stand for: an address, and what is advertised (R22).
use Rattle.std.specs.Prelude.{ℕ, cond, false, List, map, ◌++◌, eqb, ltb, take, drop, replicate}
use Rattle.advertisements.specs.Advertisement.{most_options}
use Rattle.advertisements.specs.declared.prefix.Prefix as told
use Rattle.advertisements.specs.declared.route.Preference.{Preference}
use Rattle.advertisements.specs.declared.route.Preference.TheVariants.{Medium, High, Low}
use Rattle.advertisements.specs.declared.route.Route as told-route
use Rattle.advertisements.specs.declared.Advertisement as told-all
use Rattle.bogtrumpet.specs.declared.Address.{Address}
use Rattle.bogtrumpet.specs.declared.plain.Prefix.{Prefix}
use Rattle.bogtrumpet.specs.declared.plain.Route.{Route}
use Rattle.bogtrumpet.specs.declared.plain.Advertisement.{Advertisement}

-- the 16 bytes of an address
abbrev pub bytes_of : Address → List ℕ
bytes_of a = a.first ++ a.second ++ a.third ++ a.last

-- a prefix; any value but 0 sets a flag
unfoldable pub prefix_from : Prefix → told.Prefix
prefix_from p = record {
  bytes = p.bytes;
  valid = p.valid;
  preferred = p.preferred;
  length = p.length;
  on_link = ltb 0 p.on_link;
  autonomous = ltb 0 p.autonomous;
}

-- 1 is high, 2 is low, and any other number medium
unfoldable pub preference_from : ℕ → Preference
preference_from n = cond (eqb n 1) High (cond (eqb n 2) Low Medium)

-- a route
unfoldable pub route_from : Route → told-route.Route
route_from r = record { bytes = r.bytes; lifetime = r.lifetime; length = r.length; preference = preference_from r.preference }

-- an empty place for a prefix
abbrev pub no_prefix : told.Prefix
no_prefix = record { bytes = replicate 16 0; valid = 0; preferred = 0; length = 0; on_link = false; autonomous = false }

-- an empty place for a route
abbrev pub no_route : told-route.Route
no_route = record { bytes = replicate 16 0; lifetime = 0; length = 0; preference = Medium }

-- the first n entries, each as f makes it; the other places, which no rule reads, are empty (R22.7)
unfoldable pub first_from : {A B : Type 0} → (A → B) → B → ℕ → List A → List B
first_from f none n xs = map f (take n xs) ++ drop n (replicate most_options none)

-- an advertisement: the entries that count; the counts stay as they are, so that too many are refused (R22.7)
unfoldable pub advertisement_from : Advertisement → told-all.Advertisement
advertisement_from a = record {
  managed = ltb 0 a.managed;
  other = ltb 0 a.other;
  lifetime = a.lifetime;
  prefixes = first_from prefix_from no_prefix a.prefix_count a.prefixes;
  prefix_count = a.prefix_count;
  routes = first_from route_from no_route a.route_count a.routes;
  route_count = a.route_count;
}
