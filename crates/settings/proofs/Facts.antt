-- The tests on settings pass exactly if the facts hold. Assumes nothing.
use Rattle.std.specs.Prelude.{Option, Some, None, is_some}
use Prim.Native.Nat.{ℕ, min}
use mathlib.Core.Path.{◌≡◌, refl}
use mathlib.Core.Bool.{Bool, true, false, not, cond}
use mathlib.Core.List.{List}
use native.Mathlib.Omega.{arith}
use borrow.Author.Tests.{lt-ltb, ltb-true}
use lib.ListN.{get_or}
use lib.Dec.{ltb}
use Rattle.lists.proofs.Decides.{Decides, decides_lack, decides_as, decides_eq, decides_or, decides_and, decides_any}
use Rattle.address.specs.Address.{last_quad, is_bad_source_with}
use Rattle.address.specs.Facts.{BadSource}
use Rattle.address.specs.Prefixes.{rows_of}
use Rattle.address.proofs.Facts.{decides_forbidden, decides_bad_source, embedded-isatap, isatap-embedded, none_found}
use Rattle.settings.specs.Locators.{no_locator, is_at, is_locator, locator_found, address_of, is_no_locator}
use Rattle.settings.specs.Settings.{locators_of, locator_of, forbidden_to, is_ours, is_our_locator, is_bad_end, embedded_to}
use Rattle.settings.specs.Facts.{ForbiddenTo, Ours, OurLocator, BadEnd, IsatapTo, LocatorAt}
use Rattle.settings.specs.declared.Settings.{Settings}

address-found : (f : Option ℕ) → is_no_locator f ≡ false → f ≡ Some (address_of f)
unfolding is_no_locator
address-found (Some a) e = refl
address-found None e = cc

-- what the library says of an option that is `None`, in the definitions' words
pub none-found : (f : Option ℕ) (r : Bool) → is_some f ≡ not r → is_no_locator f ≡ r
unfolding is_no_locator
none-found (Some a) true e = cc
none-found (Some a) false e = refl
none-found None true e = refl
none-found None false e = cc

module _ (s : Settings) where
  pub decides_forbidden_to : (a : ℕ) → Decides (forbidden_to s a) (ForbiddenTo s a)
  unfolding forbidden_to ForbiddenTo
  decides_forbidden_to a = decides_forbidden a

  pub decides_ours : (a : ℕ) → Decides (is_ours s a) (Ours s a)
  unfolding is_ours Ours
  decides_ours a = decides_any (is_at a) (λ l. l.address ≡ a) (λ l. decides_eq l.address a) (locators_of s)

  pub decides_our_locator : (a interface : ℕ) → Decides (is_our_locator s a interface) (OurLocator s a interface)
  unfolding is_our_locator OurLocator
  decides_our_locator a interface =
      decides_any (is_locator a interface) (λ l. (l.address ≡ a) × (l.interface ≡ interface)) (λ l. decides_and _ _ (decides_eq l.address a) (decides_eq l.interface interface)) (locators_of s)

  pub decides_bad_end : (a : ℕ) → Decides (is_bad_end s a) (BadEnd s a)
  unfolding is_bad_end
  decides_bad_end a = decides_or _ _ (decides_forbidden_to a) (decides_ours a)

  -- a bad source, where the last 32 bits may not be an address that is forbidden under these settings
  pub decides_bad_source_to : (a : List ℕ) → Decides (is_bad_source_with (forbidden_to s (last_quad a)) a) (BadSource (ForbiddenTo s) a)
  decides_bad_source_to a = decides_bad_source a (ForbiddenTo s) _ (decides_forbidden_to (last_quad a))

  -- an ISATAP address is found exactly if there is one
  module _ (a : List ℕ) where
    pub embedded_to_lem : (v : ℕ) → embedded_to s a ≡ Some v → IsatapTo s a v
    unfolding embedded_to
    embedded_to_lem v h = embedded-isatap a (rows_of s.prefixes) s.prefix_count v h

    pub isatap_to : (v : ℕ) → IsatapTo s a v → embedded_to s a ≡ Some v
    unfolding embedded_to
    isatap_to v f = isatap-embedded a (rows_of s.prefixes) s.prefix_count v f

    pub no_isatap_to : ((v : ℕ) → IsatapTo s a v → ⊥) → embedded_to s a ≡ None
    unfolding embedded_to
    no_isatap_to n = none_found a (rows_of s.prefixes) s.prefix_count n

  -- a locator is found exactly if there is one
  module _ (number : ℕ) where
    pub found-locator : (a : ℕ) → locator_of s number ≡ Some a → LocatorAt s number a
    unfolding locator_of locator_found
    found-locator a h = go (ltb number (min s.locator_count 8)) refl h
      where
        go : (t : Bool) → ltb number (min s.locator_count 8) ≡ t → cond t (Some (get_or s.locators number no_locator).address) None ≡ Some a → LocatorAt s number a
        go true e h = let l = ltb-true number (min s.locator_count 8) e in (omega arith, omega arith, cc)
        go false e h = let z : ◌≡◌ {A = ℕ} 0 1 = cc in absurd (omega arith)

    pub locator-found : (a : ℕ) → LocatorAt s number a → locator_of s number ≡ Some a
    unfolding locator_of locator_found
    locator-found a f = rw (lt-ltb number (min s.locator_count 8) (omega arith), f.2)

    -- where a locator is found, it has the address
    pub locator-there : is_no_locator (locator_of s number) ≡ false → LocatorAt s number (address_of (locator_of s number))
    locator-there e = found-locator (address_of (locator_of s number)) (address-found (locator_of s number) e)

    locator-passes : (a : ℕ) → LocatorAt s number a → is_no_locator (locator_of s number) ≡ false
    unfolding is_no_locator
    locator-passes a f = rw (locator-found a f)

    pub decides_no_locator : Decides (is_no_locator (locator_of s number)) ((a : ℕ) → LocatorAt s number a → ⊥)
    decides_no_locator =
        let lacks = decides_lack {F = (a : ℕ) × LocatorAt s number a} (is_no_locator (locator_of s number)) (λ e. (address_of (locator_of s number), locator-there e)) (λ f. locator-passes f.0 f.1) in
        decides_as _ lacks (λ n a l. n (a, l)) (λ n f. n f.0 f.1)
