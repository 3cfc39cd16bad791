-- What a reader finds in an advertisement that we write: whole options, bytes, and the lifetimes that the operator set. Assumes nothing.
use Prim.Native.Nat.{ℕ, zero, suc}
use mathlib.Core.Logic.{⊎_elim}
use mathlib.Core.List.Memᴰ
use mathlib.Core.List.{List, [], ◌∷◌, ◌++◌, map, flatten, Memᴰ}
use native.Mathlib.Omega.{arith}
use lib.ListN.{take}
use Rattle.lists.specs.Any.{Some}
use Rattle.checksum.proofs.Bytes.{Bytes, bytes-append}
use Rattle.options.specs.Options.{AreOptions}
use Rattle.options.specs.Facts.{HasLifetime}
use Rattle.options.proofs.Each.{options-append, options-map, bytes-map}
use Rattle.options.proofs.Told.{told, telling}
use Rattle.advertisements.specs.Options.{prefix_option, route_option}
use Rattle.advertisements.specs.Advertisement.{prefixes_of, routes_of, written_options, advertisement_body}
use Rattle.advertisements.specs.Fits.{PrefixFits, RouteFits, AdvertisementFits}
use Rattle.advertisements.specs.declared.prefix.Prefix.{Prefix}
use Rattle.advertisements.specs.declared.route.Route.{Route}
use Rattle.advertisements.specs.declared.Advertisement.{Advertisement}
use Rattle.advertisements.proofs.Lists.{flatten_append}
use Rattle.advertisements.proofs.OptionLaws.{flags-byte, bytes-prefix_option, prefix-is_option, prefix-has-lifetime, bytes-route_option, route-is_option, route-has-lifetime}

-- what is among the first of a list is in it
pub among_first : {A : Type 0} (n : ℕ) (xs : List A) {x : A} → Memᴰ x (take n xs) → Memᴰ x xs
among_first zero xs m = elim m [ ]
among_first (suc n) [] m = elim m [ ]
among_first (suc n) (y ∷ xs) (Memᴰ.head e) = Memᴰ.head e
among_first (suc n) (y ∷ xs) (Memᴰ.tail m) = Memᴰ.tail (among_first n xs m)

module _ (a : Advertisement) (fits : AdvertisementFits a) where
  pub prefix-fits : (p : Prefix) → Memᴰ p (prefixes_of a) → PrefixFits p
  prefix-fits p m = fits.prefixes p (among_first a.prefix_count a.prefixes m)

  pub route-fits : (r : Route) → Memᴰ r (routes_of a) → RouteFits r
  route-fits r m = fits.routes r (among_first a.route_count a.routes m)

  pub are_options : AreOptions (written_options a)
  are_options =
      options-append (map prefix_option (prefixes_of a)) (map route_option (routes_of a))
      (options-map prefix_option (prefixes_of a) (λ p m. prefix-is_option p (prefix-fits p m)))
      (options-map route_option (routes_of a) (λ r m. route-is_option r (route-fits r m)))

  bytes-options : Bytes (flatten (written_options a))
  bytes-options =
      rw (flatten_append (map prefix_option (prefixes_of a)) (map route_option (routes_of a)))
      (bytes-append (flatten (map prefix_option (prefixes_of a))) (flatten (map route_option (routes_of a)))
      (bytes-map prefix_option (prefixes_of a) (λ p m. bytes-prefix_option p (prefix-fits p m)))
      (bytes-map route_option (routes_of a) (λ r m. bytes-route_option r (route-fits r m))))

  pub bytes_body : Bytes (advertisement_body a)
  bytes_body =
      let life = fits.lifetime in (
        omega arith,
        (
          flags-byte a.managed a.other,
          (
            omega arith,
            (
              omega arith,
              (omega arith, (omega arith, (omega arith, (omega arith, (omega arith, (omega arith, (omega arith, (omega arith, bytes-options)))))))),
            ),
          ),
        ),
      )

  -- the lifetimes of the prefixes and routes
  abbrev pub lifetimes_of_options : List ℕ
  lifetimes_of_options = map (λ (p : Prefix). p.valid) (prefixes_of a) ++ map (λ (r : Route). r.lifetime) (routes_of a)

  module _ (l : ℕ) where
    pub lifetime-told : Some (HasLifetime l) (written_options a) → Memᴰ l lifetimes_of_options
    lifetime-told s =
        ⊎_elim
        (λ m. Memᴰ.append_left (map (λ (r : Route). r.lifetime) (routes_of a)) (told prefix_option (λ (p : Prefix). p.valid) (prefixes_of a) (λ p n. prefix-has-lifetime p (prefix-fits p n)) l (s.0, m, s.2)))
        (λ m. Memᴰ.append_right (map (λ (p : Prefix). p.valid) (prefixes_of a)) (told route_option (λ (r : Route). r.lifetime) (routes_of a) (λ r n. route-has-lifetime r (route-fits r n)) l (s.0, m, s.2)))
        (Memᴰ.append_cases (map prefix_option (prefixes_of a)) s.1)

    pub lifetime_telling : Memᴰ l lifetimes_of_options → Some (HasLifetime l) (written_options a)
    lifetime_telling m =
        ⊎_elim
        (λ n. let s = telling prefix_option (λ (p : Prefix). p.valid) (prefixes_of a) (λ p q. prefix-has-lifetime p (prefix-fits p q)) l n in (s.0, Memᴰ.append_left (map route_option (routes_of a)) s.1, s.2))
        (λ n. let s = telling route_option (λ (r : Route). r.lifetime) (routes_of a) (λ r q. route-has-lifetime r (route-fits r q)) l n in (s.0, Memᴰ.append_right (map prefix_option (prefixes_of a)) s.1, s.2))
        (Memᴰ.append_cases (map (λ (p : Prefix). p.valid) (prefixes_of a)) m)
