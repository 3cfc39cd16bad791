-- What a node advertises, any node that lists it accepts. Assumes nothing.
use Rattle.std.specs.Prelude.{Ok, Err, Result}
use Prim.Native.Nat.{ℕ, zero, suc, ◌+◌, ◌*◌, ◌/◌, ◌%◌, ◌≤◌, ◌<◌, max}
use mathlib.Core.Path.{◌≡◌, refl, sym, ap, subst, ◌∙◌}
use mathlib.Core.Logic.{⊎_elim, inl, inr}
use mathlib.Core.Bool.{Bool, true, false, cond}
use mathlib.Core.List.Memᴰ
use mathlib.Core.List.{List, [], ◌∷◌, ◌++◌, Memᴰ}
use native.Mathlib.Omega.{arith}
use lib.Dec.{eqb, leb}
use lib.ListN.{length, take, drop, get_or}
use lib.Seq.{take_at}
use Rattle.checksum.proofs.Bytes.{Bytes, bytes_of, bytes_drop, bytes-at}
use Rattle.address.specs.Address.{link_local_of}
use Rattle.address.specs.Facts.{formed}
use Rattle.lent.specs.Written.{written}
use Rattle.header.specs.Fields.{bytes_from, address_at}
use Rattle.refusals.specs.declared.Refusal.{Refusal}
use Rattle.refusals.specs.declared.Refusal.TheVariants.{NoLocator}
use Rattle.messages.specs.Icmp.{icmp_message, icmp_packet}
use Rattle.options.specs.Facts.{WholeOptions, IsLifetime, Counts, DueBy}
use Rattle.options.proofs.Facts.{due-same}
use Rattle.routers.specs.Routers.{live}
use Rattle.routers.specs.Facts.{Listed, OnlyDue}
use Rattle.settings.specs.Facts.{LocatorAt}
use Rattle.settings.specs.Settings.{locator_of}
use Rattle.settings.specs.declared.Settings.{Settings}
use Rattle.hearing.specs.Facts.{fields_of}
use Rattle.hearing.specs.Heard.{heard_of}
use Rattle.hearing.proofs.ReadBack.{length_back, heard-back}
use Rattle.advertisements.specs.Options.{route_units}
use Rattle.advertisements.specs.Advertisement.{are_options_bad, written_options, advertisement_body, advertisement_of, routes_length, advertisement_length}
use Rattle.advertisements.specs.Fits.{AdvertisementFits}
use Rattle.advertisements.specs.declared.Advertisement.{Advertisement}
use Rattle.advertisements.specs.declared.route.Route.{Route}
use Rattle.advertisements.proofs.CheckLaws.{length-counted, length_most}
use Rattle.advertisements.proofs.Laws.{length-advertisement}
use Rattle.advertisements.proofs.ReadBack.{are_options, bytes_body, lifetime-told, lifetime_telling}
use Rattle.advertising.specs.Advertise.{advertised_of}
use Rattle.advertising.specs.Facts.{MayAdvertise}
use Rattle.advertising.proofs.Laws.{good, answered-written}
use Rattle.node.specs.Advertise.{advertise_of, advertise_output}
use Rattle.node.specs.Hear.{heard_by, hear_of}
use Rattle.node.specs.Node.{service_of, has_service}
use Rattle.node.specs.RouterList.{with_routers}
use Rattle.node.specs.declared.Node.{Node}
use Rattle.node.specs.declared.ServiceName.{ServiceName}
use Rattle.node.proofs.Services.{put_same}
use Rattle.demands.specs.Two.{Has}
use Rattle.demands.proofs.Others.{decides_has}
use Rattle.demands.specs.RoundTrip.{lifetimes_set, route_bytes, Accepted, Returns, RoundTrip}

-- the bytes of a route option are its length in units of eight
units-bytes : (none short : Bool) → cond none 1 (cond short 2 3) * 8 ≡ cond none 8 (cond short 16 24)
units-bytes true short = refl
units-bytes false true = refl
units-bytes false false = refl

routes-bytes : (rs : List Route) → routes_length rs ≡ route_bytes rs
unfolding route_units
routes-bytes [] = refl
routes-bytes (r ∷ rs) = rw (units-bytes (eqb r.length 0) (leb r.length 64), routes-bytes rs)

module _ (a : Advertisement) (fits : AdvertisementFits a) where
  -- the lifetimes that a reader takes are those that the operator set
  module _ (l : ℕ) (counts : Counts l) where
    taken : IsLifetime a.lifetime (written_options a) l → Memᴰ l (lifetimes_set a)
    taken (inl e) = Memᴰ.head (sym e)
    taken (inr s) = Memᴰ.tail (lifetime-told a fits l s)

    set : Memᴰ l (lifetimes_set a) → IsLifetime a.lifetime (written_options a) l
    set m = ⊎_elim (λ e. inl (sym e)) (λ n. inr (lifetime_telling a fits l n)) (Memᴰ.cases_cons m)

-- bytes of bytes are bytes
bytes_from_lem : (n i : ℕ) (d : List ℕ) → Bytes d → Bytes (bytes_from n i d)
bytes_from_lem zero i d h = tt
bytes_from_lem (suc n) i d h = (bytes-at d i h, bytes_from_lem n (suc i) d h)

-- the numbers of two bytes
number : (x : ℕ) → x < 65536 → x / 256 * 256 + x % 256 ≡ x
number x h = omega arith

module _ (w : Node) (u : ServiceName) (packet : List ℕ) (k : ℕ) (a : Advertisement) (out : List ℕ) (n v : ℕ) (bytes : (i : ℕ) → get_or packet i 0 < 256)
    (small : v < 4294967296) (fits : AdvertisementFits a) (located : LocatorAt (service_of w u).settings k v)
    (e : advertise_of w u packet k a (length out) ≡ Ok n) where
  abbrev s : Settings
  s = (service_of w u).settings

  abbrev asker : List ℕ
  asker = (fields_of packet).source

  -- the advertisement that is written
  abbrev packet_out : List ℕ
  packet_out = advertisement_of (formed v) asker a

  -- an answered length says that the service is there
  abbrev advertised_by : Bool → Result ℕ Refusal
  advertised_by b = cond b (advertised_of (locator_of s k) packet a (length out)) (Err NoLocator)

  own : advertised_by (has_service w u) ≡ Ok n
  unfolding advertise_of
  own = e

  by_there : (b : Bool) → advertised_by b ≡ Ok n → (b ≡ true) × (advertised_of (locator_of s k) packet a (length out) ≡ Ok n)
  by_there true h = (refl, h)
  by_there false h = absurd (never h)
    where
      never : Err NoLocator ≡ Ok n → ⊥
      never q = let z : ◌≡◌ {A = ℕ} 0 1 = ap marked q in omega arith
        where
          marked : Result ℕ Refusal → ℕ
          marked (Err r) = 0
          marked (Ok l) = 1

  wrote : (n ≡ advertisement_length a) × MayAdvertise s packet k a v × (advertise_output w u packet k a out ≡ written packet_out out)
  unfolding advertise_output
  wrote = let h = by_there (has_service w u) own in rw h.0 (answered-written s packet k a out n v located h.1)

  right : are_options_bad a ≡ false
  right = good s packet k a v wrote.1

  asker-long : length asker ≡ 16
  unfolding address_at
  asker-long = refl

  asker-bytes : Bytes asker
  unfolding address_at
  asker-bytes = bytes_from_lem 16 0 (drop 8 packet) (bytes_drop 8 packet (bytes_of packet bytes))

  long : length packet_out ≡ n
  long = length-advertisement (formed v) asker a fits right refl asker-long ∙ sym wrote.0

  sent_is : take n (advertise_output w u packet k a out) ≡ packet_out
  sent_is = ap (take n) wrote.2 ∙ take_at packet_out (drop (length packet_out) out) n long

  -- the same as a message that is heard
  as_message : packet_out ≡ icmp_packet 255 (link_local_of v) asker 134 0 (advertisement_body a)
  unfolding advertisement_of link_local_of
  as_message = refl

  whole-options : WholeOptions (drop 16 (icmp_message (link_local_of v ++ asker) 134 0 (advertisement_body a))) (written_options a)
  unfolding icmp_message
  whole-options = record { options = are_options a fits; bytes = refl }

  most : n ≤ 504
  most = rw wrote.0 (length_most a right)

  body_long : 44 + length (advertisement_body a) ≡ n
  unfolding link_local_of
  body_long = sym (length_back (link_local_of v) asker (advertisement_body a) 134 refl asker-long) ∙ ap length (sym as_message) ∙ long

  lifetime : get_or (advertisement_body a) 2 0 * 256 + get_or (advertisement_body a) 3 0 ≡ a.lifetime
  lifetime = number a.lifetime fits.lifetime

  module _ (r : Node) (q : ServiceName) (time : ℕ) (has : Has r q) (listed : Listed v (live (service_of r q).routers)) where
    abbrev now : ℕ
    now = max r.latest time

    abbrev interval : ℕ
    interval = (service_of r q).settings.interval

    heard : ((heard_of (service_of r q).settings (service_of r q).routers now packet_out).answer ≡ Ok v)
        × ((due : ℕ)
        × DueBy now interval a.lifetime (written_options a) due
        × OnlyDue (service_of r q).routers v due (heard_of (service_of r q).settings (service_of r q).routers now packet_out).routers)
    heard =
        let h = heard-back (service_of r q).settings (service_of r q).routers v asker (advertisement_body a) (written_options a) small asker-long
        (omega (arith, body_long, most)) (omega arith) asker-bytes (bytes_body a fits) whole-options listed now in
        rw as_message (h.0, (h.1.0, subst (λ (l : ℕ). DueBy now interval l (written_options a) h.1.0) lifetime h.1.1, h.1.2))

    there : has_service r q ≡ true
    there = (decides_has r q).passes has

    accepted : Accepted w u packet k a out n v r q time
    unfolding hear_of heard_by
    accepted = record {
      answer = rw (sent_is, there) heard.0;
      due = (
        heard.1.0,
        due-same (IsLifetime a.lifetime (written_options a)) (λ (l : ℕ). Memᴰ l (lifetimes_set a)) (taken a fits) (set a fits) now interval heard.1.0 heard.1.1,
        rw (sent_is, there, put_same r q (with_routers (service_of r q) (heard_of (service_of r q).settings (service_of r q).routers now packet_out).routers) time) heard.1.2,
      );
    }

  formula : advertisement_length a ≡ 56 + a.prefix_count * 32 + route_bytes (take a.route_count a.routes)
  formula =
      let routes = routes-bytes (take a.route_count a.routes) in
      length-counted a right fits.places ∙ omega arith

  returns : Returns w u packet k a out n v
  returns = record { size = wrote.0 ∙ formula; most = most; all = ap length sent_is ∙ long; accepted = accepted }

pub round_trip : RoundTrip
unfolding RoundTrip
round_trip w u packet k a out n v bytes small fits located e = returns w u packet k a out n v bytes small fits located e
