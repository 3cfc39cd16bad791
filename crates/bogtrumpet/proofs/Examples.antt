-- A worked struct of C, of bytes that C may hold, and the advertisement that it stands for: field by field, each value another. Assumes nothing.
use mathlib.Core.Path.{◌≡◌, refl}
use mathlib.Core.Bool.{true, false}
use mathlib.Core.List.{◌∷◌}
use Prim.Native.Nat.{ℕ}
use lib.ListN.{replicate}
use Rattle.advertisements.specs.declared.route.Preference.TheVariants.{Medium, High, Low}
use Rattle.bogtrumpet.specs.Plain.{prefix_from, preference_from, route_from, no_prefix, no_route, first_from, advertisement_from}
use Rattle.bogtrumpet.specs.declared.plain.Prefix.{Prefix}
use Rattle.bogtrumpet.specs.declared.plain.Route.{Route}
use Rattle.bogtrumpet.specs.declared.plain.Advertisement.{Advertisement}

abbrev prefix : ℕ → ℕ → Prefix
prefix on_link autonomous = record { bytes = replicate 16 1; valid = 2; preferred = 3; length = 4; on_link = on_link; autonomous = autonomous }

abbrev route : ℕ → Route
route preference = record { bytes = replicate 16 5; lifetime = 6; length = 7; preference = preference }

abbrev worked : Advertisement
worked = record {
  prefixes = prefix 2 0 ∷ prefix 0 255 ∷ replicate 6 (prefix 1 1);
  prefix_count = 2;
  routes = route 0 ∷ route 1 ∷ route 2 ∷ route 3 ∷ route 255 ∷ replicate 3 (route 1);
  route_count = 5;
  lifetime = 8;
  managed = 9;
  other = 0;
}

-- M is set and O is not; L alone, A alone; 1 is high, 2 low and any other medium; places behind the counts are empty
read : advertisement_from worked
    ≡ record {
      managed = true;
      other = false;
      lifetime = 8;
      prefixes =
          record { bytes = replicate 16 1; valid = 2; preferred = 3; length = 4; on_link = true; autonomous = false }
          ∷ record { bytes = replicate 16 1; valid = 2; preferred = 3; length = 4; on_link = false; autonomous = true }
          ∷ replicate 6 no_prefix;
      prefix_count = 2;
      routes =
          record { bytes = replicate 16 5; lifetime = 6; length = 7; preference = Medium }
          ∷ record { bytes = replicate 16 5; lifetime = 6; length = 7; preference = High }
          ∷ record { bytes = replicate 16 5; lifetime = 6; length = 7; preference = Low }
          ∷ record { bytes = replicate 16 5; lifetime = 6; length = 7; preference = Medium }
          ∷ record { bytes = replicate 16 5; lifetime = 6; length = 7; preference = Medium }
          ∷ replicate 3 no_route;
      route_count = 5;
    }
unfolding advertisement_from first_from prefix_from route_from preference_from
read = refl
