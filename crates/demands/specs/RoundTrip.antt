-- The round trip (R22.14): the advertisement that a node writes, any node that lists the writer accepts, and asks it again when the
-- operator's lifetimes say. Nothing is assumed of how the two nodes came about.
use Rattle.std.specs.Prelude.{ℕ, ◌+◌, ◌*◌, ◌≤◌, ◌<◌, max, ◌≡◌, cond, length, get_or, take, eqb, leb, Ok}
use mathlib.Core.List.{List, [], ◌∷◌, ◌++◌, map, Memᴰ}
use Rattle.options.specs.Facts.{DueFrom}
use Rattle.routers.specs.Routers.{live}
use Rattle.routers.specs.Facts.{Listed, OnlyDue}
use Rattle.settings.specs.Facts.{LocatorAt}
use Rattle.advertisements.specs.Fits.{AdvertisementFits}
use Rattle.advertisements.specs.declared.Advertisement.{Advertisement}
use Rattle.advertisements.specs.declared.prefix.Prefix.{Prefix}
use Rattle.advertisements.specs.declared.route.Route.{Route}
use Rattle.node.specs.Advertise.{advertise_of, advertise_output}
use Rattle.node.specs.Hear.{hear_of}
use Rattle.node.specs.Node.{service_of}
use Rattle.node.specs.declared.Node.{Node}
use Rattle.node.specs.declared.ServiceName.{ServiceName}
use Rattle.demands.specs.Two.{Has}

-- the lifetimes that the operator sets: the router's, the valid lifetimes of the prefixes, and those of the routes; not the preferred ones
abbrev pub lifetimes_set : Advertisement → List ℕ
lifetimes_set a =
    a.lifetime
    ∷ (map (λ (p : Prefix). p.valid) (take a.prefix_count a.prefixes)
    ++ map (λ (r : Route). r.lifetime) (take a.route_count a.routes))

-- the bytes of route options: 8 for a prefix length of 0, 16 up to 64, else 24
abbrev pub route_bytes : List Route → ℕ
route_bytes [] = 0
route_bytes (r ∷ rs) = cond (eqb r.length 0) 8 (cond (leb r.length 64) 16 24) + route_bytes rs

-- what n bytes that the service u of the writer w has written into an output are worth: v is the address of its locator
module _ (w : Node) (u : ServiceName) (packet : List ℕ) (k : ℕ) (a : Advertisement) (out : List ℕ) (n v : ℕ) where
  -- the written bytes
  abbrev pub sent : List ℕ
  sent = take n (advertise_output w u packet k a out)

  -- the service q of the reader r accepts them at a time and names the writer; it alone is then due when the operator's lifetimes say
  pub record Accepted (r : Node) (q : ServiceName) (time : ℕ) : Type 0 where
    pub answer : (hear_of r q sent time).answer ≡ Ok v
    pub due : (due : ℕ)
        × DueFrom (max r.latest time) (service_of r q).settings.interval (λ (l : ℕ). Memᴰ l (lifetimes_set a)) due
        × OnlyDue (service_of r q).routers v due (service_of (hear_of r q sent time).node q).routers

  -- the length is the formula's, at most 504; every service that lists the writer accepts them, at every time
  pub record Returns : Type 0 where
    pub size : n ≡ 56 + a.prefix_count * 32 + route_bytes (take a.route_count a.routes)
    pub most : n ≤ 504
    pub all : length sent ≡ n
    pub accepted : (r : Node) (q : ServiceName) (time : ℕ) → Has r q → Listed v (live (service_of r q).routers) → Accepted r q time

-- for every node, service, packet, locator number, advertisement and output for which a length is answered; that bytes, an IPv4 address and the
-- operator's numbers fit, is their type
unfoldable pub RoundTrip : Type 0
RoundTrip =
    (w : Node) (u : ServiceName) (packet : List ℕ) (k : ℕ) (a : Advertisement) (out : List ℕ) (n v : ℕ)
    → ((i : ℕ) → get_or packet i 0 < 256) → v < 4294967296 → AdvertisementFits a
    → LocatorAt (service_of w u).settings k v → advertise_of w u packet k a (length out) ≡ Ok n → Returns w u packet k a out n v
