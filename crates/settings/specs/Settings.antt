-- The settings: defaults and rules (R2).
use Rattle.std.specs.Prelude.{ℕ, Bool, not, ◌&&◌, ◌||◌, List, get_or, take, leb, Option}
use Rattle.lists.specs.Any.{any_of, twice}
use Rattle.address.specs.Address.{is_forbidden, embedded_in, link_local_of, is_multicast_or_unspecified}
use Rattle.address.specs.Prefixes.{rows_of}
use Rattle.routers.specs.Routers.{are_distinct}
use Rattle.settings.specs.Locators.{no_locator, is_at, is_locator, same_locator, locator_found}
use Rattle.settings.specs.declared.locators.Locator.{Locator}
use Rattle.settings.specs.declared.Settings.{Settings}

-- the defaults: L 1,500, TTL 64, interval 120, identification 1, reporting address the link-local address of locator 0
unfoldable pub defaults_for : List Locator → ℕ → List ℕ → ℕ → List ℕ → ℕ → Settings
defaults_for locators locatorCount prefixes prefixCount routers routerCount = record {
  locators = locators;
  locator_count = locatorCount;
  prefixes = prefixes;
  prefix_count = prefixCount;
  routers = routers;
  router_count = routerCount;
  link_size = 1500;
  ttl = 64;
  interval = 120;
  identification = 1;
  reporting = link_local_of (get_or locators 0 no_locator).address;
}

-- the locators that count
abbrev pub locators_of : Settings → List Locator
locators_of s = take s.locator_count s.locators

-- the locator of number k
unfoldable pub locator_of : Settings → ℕ → Option ℕ
locator_of s k = locator_found s.locators s.locator_count k

-- the addresses that are forbidden under these settings
unfoldable pub forbidden_to : Settings → ℕ → Bool
forbidden_to s a = is_forbidden a

-- a locator address of our own
unfoldable pub is_ours : Settings → ℕ → Bool
is_ours s a = any_of (is_at a) (locators_of s)

-- a locator, matched by address and interface together
unfoldable pub is_our_locator : Settings → ℕ → ℕ → Bool
is_our_locator s a interface = any_of (is_locator a interface) (locators_of s)

-- forbidden, or a locator address of our own
unfoldable pub is_bad_end : Settings → ℕ → Bool
is_bad_end s a = forbidden_to s a || is_ours s a

-- the IPv4 address of an ISATAP address under the settings' prefixes
unfoldable pub embedded_to : Settings → List ℕ → Option ℕ
embedded_to s a = embedded_in (rows_of s.prefixes) s.prefix_count a

-- the locator has a forbidden address
abbrev pub is_forbidden_locator : Settings → Locator → Bool
is_forbidden_locator s l = forbidden_to s l.address

-- locators 1 to 8, no pair twice, none forbidden
unfoldable pub are_locators_right : Settings → Bool
are_locators_right s =
    leb 1 s.locator_count
    && leb s.locator_count 8
    && not (twice same_locator (locators_of s))
    && not (any_of (is_forbidden_locator s) (locators_of s))

-- routers 0 to 16, distinct, none forbidden and none a locator address
unfoldable pub are_routers_right : Settings → List ℕ → ℕ → Bool
are_routers_right s routers count = leb count 16 && are_distinct (take count routers) && not (any_of (is_bad_end s) (take count routers))

-- up to 8 prefixes, link size 576 to 9,216, outer TTL 1 to 255, solicit interval 1 to 3,600
unfoldable pub are_numbers_right : Settings → Bool
are_numbers_right s =
    leb s.prefix_count 8
    && leb 576 s.link_size
    && leb s.link_size 9216
    && leb 1 s.ttl
    && leb 1 s.interval
    && leb s.interval 3600

-- the settings keep the rules; the reporting address is neither multicast nor `::`
unfoldable pub is_accepted : Settings → Bool
is_accepted s =
    are_locators_right s
    && are_routers_right s s.routers s.router_count
    && are_numbers_right s
    && not (is_multicast_or_unspecified s.reporting)

-- a locator of the one has the address of a locator of the other, on whatever interfaces
unfoldable pub share_address : Settings → Settings → Bool
share_address a b = any_of (λ (l : Locator). is_ours b l.address) (locators_of a)

-- R26.2: the settings of two services keep the rules, and share no locator address
unfoldable pub are_pair_accepted : Settings → Settings → Bool
are_pair_accepted a b = is_accepted a && is_accepted b && not (share_address a b)
