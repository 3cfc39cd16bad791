-- The advertisement that we write is that of RFC 4861, refused by the fact that R22.7 names, and as long as its options say. Assumes nothing.
use Prim.Native.Nat.{ℕ, ◌+◌, ◌*◌, ◌≤◌, ◌<◌}
use mathlib.Core.Path.{◌≡◌, refl, ap, ◌∙◌}
use mathlib.Core.Logic.{inr}
use mathlib.Core.Bool.{false}
use mathlib.Core.List.{List, [], ◌∷◌, map, flatten, Memᴰ}
use native.Mathlib.Omega.{arith}
use borrow.Author.Tests.{ltb-false}
use lib.Dec.{ltb}
use lib.ListN.{length, length-append}
use Rattle.lists.proofs.Decides.{Decides, decides_lt, decides_or, decides_any, fails, refutes}
use Rattle.messages.specs.Icmp.{icmp_sum, icmp_message, icmp_packet}
use Rattle.messages.proofs.EnclosedLaws.{length-icmp_packet}
use Rattle.advertisements.specs.Options.{prefix_option, route_option}
use Rattle.advertisements.specs.Advertisement.{prefixes_of, routes_of, is_prefix_too_long, is_route_too_long, are_options_bad, written_options, advertisement_body, advertisement_of, routes_length, advertisement_length}
use Rattle.advertisements.specs.Facts.{BadOptions, Each, advertisement_message, AdvertisementOf}
use Rattle.advertisements.specs.Fits.{PrefixFits, RouteFits, AdvertisementFits}
use Rattle.advertisements.specs.OptionFacts.{PrefixOptionOf, RouteOptionOf}
use Rattle.advertisements.specs.declared.prefix.Prefix.{Prefix}
use Rattle.advertisements.specs.declared.route.Route.{Route}
use Rattle.advertisements.specs.declared.Advertisement.{Advertisement}
use Rattle.advertisements.proofs.Lists.{flatten_append}
use Rattle.advertisements.proofs.OptionLaws.{length-prefix_option, prefix_option_of, length-route_option, route_option_of}
use Rattle.advertisements.proofs.ReadBack.{prefix-fits, route-fits}

-- the test for 26 decides the fact
pub decides_bad : (a : Advertisement) → Decides (are_options_bad a) (BadOptions a)
unfolding are_options_bad
decides_bad a =
    decides_or _ _ (decides_lt 8 a.prefix_count)
    (decides_or _ _ (decides_lt 8 a.route_count)
    (decides_or _ _ (decides_any is_prefix_too_long (λ (p : Prefix). 128 < p.length) (λ p. decides_lt 128 p.length) (prefixes_of a))
    (decides_any is_route_too_long (λ (r : Route). 128 < r.length) (λ r. decides_lt 128 r.length) (routes_of a))))

-- a route that counts has 128 bits at most
route-short : (a : Advertisement) → are_options_bad a ≡ false → (r : Route) → Memᴰ r (routes_of a) → r.length ≤ 128
route-short a good r m =
    ltb-false 128 r.length (refutes (ltb 128 r.length) (decides_lt 128 r.length) (λ long. fails (are_options_bad a) (decides_bad a) good (inr (inr (inr (r, m, long))))))

each_map : {A : Type 0} (F : A → List ℕ → Type 0) (f : A → List ℕ) (xs : List A) → ((x : A) → Memᴰ x xs → F x (f x)) → Each F xs (map f xs)
each_map F f [] h = tt
each_map F f (x ∷ xs) h = (h x (Memᴰ.head refl), each_map F f xs (λ y m. h y (Memᴰ.tail m)))

length-prefixes : (ps : List Prefix) → ((p : Prefix) → Memᴰ p ps → PrefixFits p) → length (flatten (map prefix_option ps)) ≡ length ps * 32
unfolding flatten
length-prefixes [] fits = refl
length-prefixes (p ∷ ps) fits =
    let one = length-prefix_option p (fits p (Memᴰ.head refl)) in
    let rest = length-prefixes ps (λ q m. fits q (Memᴰ.tail m)) in
    length-append (prefix_option p) (flatten (map prefix_option ps)) ∙ omega arith

length-routes : (rs : List Route) → ((r : Route) → Memᴰ r rs → RouteFits r) → length (flatten (map route_option rs)) ≡ routes_length rs
unfolding flatten
length-routes [] fits = refl
length-routes (r ∷ rs) fits =
    let one = length-route_option r (fits r (Memᴰ.head refl)) in
    let rest = length-routes rs (λ q m. fits q (Memᴰ.tail m)) in
    length-append (route_option r) (flatten (map route_option rs)) ∙ omega arith

module _ (from to : List ℕ) (a : Advertisement) (fits : AdvertisementFits a) (good : are_options_bad a ≡ false) where
  -- the packet is as long as the length that is answered
  pub length-advertisement : length from ≡ 16 → length to ≡ 16 → length (advertisement_of from to a) ≡ advertisement_length a
  unfolding advertisement_of advertisement_length
  length-advertisement lf lt =
      let ps = map prefix_option (prefixes_of a) in
      let rs = map route_option (routes_of a) in
      let lp = length-prefixes (prefixes_of a) (prefix-fits a fits) in
      let lr = length-routes (routes_of a) (route-fits a fits) in
      let all : length (flatten (written_options a)) ≡ length (flatten ps) + length (flatten rs) = ap length (flatten_append ps rs) ∙ length-append (flatten ps) (flatten rs) in
      length-icmp_packet 255 from to 134 0 (advertisement_body a) lf lt ∙ omega arith

  -- the packet is that of RFC 4861 with the operator's options
  pub advertisement-of : AdvertisementOf from to a (advertisement_of from to a)
  unfolding advertisement_of icmp_packet icmp_message icmp_sum
  advertisement-of =
      let payload : 4 + length (advertisement_body a) ≡ length (advertisement_message a (written_options a) 0) = omega arith in
      record {
        prefixes = map prefix_option (prefixes_of a);
        each_prefix = each_map PrefixOptionOf prefix_option (prefixes_of a) (λ p m. prefix_option_of p (prefix-fits a fits p m));
        routes = map route_option (routes_of a);
        each_route = each_map RouteOptionOf route_option (routes_of a) (λ r m. route_option_of r (route-fits a fits r m) (route-short a good r m));
        sum = _;
        sum_right = refl;
        bytes = rw payload;
      }
