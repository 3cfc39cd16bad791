-- A worked advertisement, computed apart from RFC 4861, 4.2 and 4.6.2, RFC 4191, 2.3, and RFC 4443, 2.3: the definition gives it. Assumes nothing.
use Prim.Native.Nat.{ℕ, zero, suc}
use mathlib.Core.Path.{◌≡◌, refl, sym, subst}
use mathlib.Core.Bool.{true, false}
use mathlib.Core.List.Memᴰ
use mathlib.Core.List.{List, [], ◌∷◌, ◌++◌, flatten, Memᴰ}
use native.Mathlib.Omega.{arith}
use lib.ListN.{replicate}
use Rattle.checksum.proofs.Bytes.{bytes-at}
use Rattle.checksum.specs.Sum.{ones_sum_from}
use Rattle.messages.specs.Icmp.{icmp_sum, icmp_message, icmp_packet}
use Rattle.advertisements.specs.Bits.{first_bits_of}
use Rattle.advertisements.specs.Options.{prefix_option, route_units, full_route_option, route_option}
use Rattle.advertisements.specs.Advertisement.{advertisement_of}
use Rattle.advertisements.specs.Fits.{PrefixFits, RouteFits, AdvertisementFits}
use Rattle.advertisements.specs.declared.prefix.Prefix.{Prefix}
use Rattle.advertisements.specs.declared.route.Route.{Route}
use Rattle.advertisements.specs.declared.route.Preference.TheVariants.{Low}
use Rattle.advertisements.specs.declared.Advertisement.{Advertisement}

-- fe80::5efe:10.0.0.1
abbrev ours : List ℕ
ours = 254 ∷ 128 ∷ 0 ∷ 0 ∷ 0 ∷ 0 ∷ 0 ∷ 0 ∷ 0 ∷ 0 ∷ 94 ∷ 254 ∷ 10 ∷ 0 ∷ 0 ∷ 1 ∷ []

-- fe80::5efe:10.0.0.2
abbrev asker : List ℕ
asker = 254 ∷ 128 ∷ 0 ∷ 0 ∷ 0 ∷ 0 ∷ 0 ∷ 0 ∷ 0 ∷ 0 ∷ 94 ∷ 254 ∷ 10 ∷ 0 ∷ 0 ∷ 2 ∷ []

-- 2001:db8:0:ff::1, of which 60 bits count
abbrev prefix : Prefix
prefix =
    record {
      bytes = 32 ∷ 1 ∷ 13 ∷ 184 ∷ 0 ∷ 0 ∷ 0 ∷ 255 ∷ 0 ∷ 0 ∷ 0 ∷ 0 ∷ 0 ∷ 0 ∷ 0 ∷ 1 ∷ [];
      valid = 86400;
      preferred = 14400;
      length = 60;
      on_link = true;
      autonomous = true;
    }

-- 2001:db8:1:2::3, of which 48 bits count
abbrev route : Route
route =
    record {
      bytes = 32 ∷ 1 ∷ 13 ∷ 184 ∷ 0 ∷ 1 ∷ 0 ∷ 2 ∷ 0 ∷ 0 ∷ 0 ∷ 0 ∷ 0 ∷ 0 ∷ 0 ∷ 3 ∷ [];
      lifetime = 1800;
      length = 48;
      preference = Low;
    }

-- O alone is set; the second route does not count
abbrev set : Advertisement
set =
    record {
      managed = false;
      other = true;
      lifetime = 1800;
      prefixes = prefix ∷ [];
      prefix_count = 1;
      routes = route ∷ route ∷ [];
      route_count = 1;
    }

advertisement : advertisement_of ours asker set
    ≡ (96 ∷ 0 ∷ 0 ∷ 0 ∷ 0 ∷ 64 ∷ 58 ∷ 255 ∷ [])
    ++ (ours ++ (asker ++ ((134 ∷ 0 ∷ 46 ∷ 48 ∷ 0 ∷ 64 ∷ 7 ∷ 8 ∷ 0 ∷ 0 ∷ 0 ∷ 0 ∷ 0 ∷ 0 ∷ 0 ∷ 0 ∷ [])
    ++ ((3 ∷ 4 ∷ 60 ∷ 192 ∷ 0 ∷ 1 ∷ 81 ∷ 128 ∷ 0 ∷ 0 ∷ 56 ∷ 64 ∷ 0 ∷ 0 ∷ 0 ∷ 0 ∷ 32 ∷ 1 ∷ 13 ∷ 184 ∷ 0 ∷ 0 ∷ 0 ∷ 240 ∷ 0 ∷ 0 ∷ 0 ∷ 0 ∷ 0 ∷ 0 ∷ 0 ∷ 0 ∷ [])
    ++ (24 ∷ 2 ∷ 48 ∷ 24 ∷ 0 ∷ 0 ∷ 7 ∷ 8 ∷ 32 ∷ 1 ∷ 13 ∷ 184 ∷ 0 ∷ 1 ∷ 0 ∷ 0 ∷ [])))))
unfolding flatten ones_sum_from icmp_sum icmp_message icmp_packet first_bits_of prefix_option route_units full_route_option route_option advertisement_of
advertisement = refl

-- an advertisement whose eight places hold that prefix and that route
abbrev full : Advertisement
full =
    record {
      managed = false;
      other = true;
      lifetime = 1800;
      prefixes = replicate 8 prefix;
      prefix_count = 1;
      routes = replicate 8 route;
      route_count = 1;
    }

one_of : {A : Type 0} (n : ℕ) (x : A) {y : A} → Memᴰ y (replicate n x) → y ≡ x
one_of zero x m = absurd (Memᴰ.not-nil m)
one_of (suc n) x (Memᴰ.head e) = e
one_of (suc n) x (Memᴰ.tail m) = one_of n x m

prefix_typed : PrefixFits prefix
prefix_typed = record { whole = refl; bytes = λ i. bytes-at prefix.bytes i (omega arith); length = omega arith; valid = omega arith; preferred = omega arith }

route_typed : RouteFits route
route_typed = record { whole = refl; bytes = λ i. bytes-at route.bytes i (omega arith); length = omega arith; lifetime = omega arith }

-- the premise of what is said of advertisements holds of it
fitting : AdvertisementFits full
fitting = record {
  lifetime = omega arith;
  places = refl;
  prefixes = λ p m. subst PrefixFits (sym (one_of 8 prefix m)) prefix_typed;
  routes = λ r m. subst RouteFits (sym (one_of 8 route m)) route_typed;
}
