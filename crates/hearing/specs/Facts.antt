-- The rules of a neighbour discovery message, of a solicitation and of an advertisement, and what comes of an advertisement that keeps them,
-- in plain facts.
use Rattle.std.specs.Prelude.{ℕ, ◌*◌, ◌+◌, ◌/◌, ◌≤◌, ◌≡◌, List, ◌∷◌, ◌++◌, length, take, drop, get_or, Ok, Err}
use Rattle.lists.specs.Any.{Some}
use Rattle.checksum.specs.Sum.{ones_sum}
use Rattle.address.specs.Facts.{LinkLocal, Unspecified}
use Rattle.header.specs.Fields.{word_at, address_at}
use Rattle.header.specs.Whole.{WholeInner}
use Rattle.header.specs.Wrap.{be32}
use Rattle.header.specs.declared.inner.Inner.{Inner}
use Rattle.refusals.specs.declared.Refusal.TheVariants.{InnerMalformed, AdvertisementInvalid, AdvertiserNotListed}
use Rattle.options.specs.Facts.{WholeOptions, SourceLinkLayerOption, DueBy}
use Rattle.routers.specs.Routers.{live}
use Rattle.routers.specs.Facts.{Listed, OnlyDue}
use Rattle.routers.specs.declared.RouterList.{RouterList}
use Rattle.settings.specs.Facts.{IsatapTo}
use Rattle.settings.specs.declared.Settings.{Settings}
use Rattle.hearing.specs.Heard.{heard_of}

-- RFC 2460, 3: the fields of the packet's header, of which the payload length stands at byte 4 and the source at byte 8
abbrev pub fields_of : List ℕ → Inner
fields_of p = record { version = get_or p 0 0 / 16; length = 40 + word_at p 4; next = get_or p 6 0; hop = get_or p 7 0; source = address_at p 8 }

-- RFC 2460, 3: source and destination stand at byte 8
abbrev pub both_addresses : List ℕ → List ℕ
both_addresses p = take 32 (drop 8 p)

-- the ICMPv6 message stands behind the 40 bytes of the header
abbrev pub message_behind : List ℕ → List ℕ
message_behind p = drop 40 p

-- a valid neighbour discovery message of the type `kind` in the packet p, whose header has the fields i: os are its options
pub record ValidMessage (kind least : ℕ) (i : Inner) (p : List ℕ) (os : List (List ℕ)) : Type 0 where
  -- ICMPv6 (RFC 4443, 2.1)
  pub next_header : i.next ≡ 58
  -- RFC 4861, 6.1: "The IP Hop Limit field has a value of 255"
  pub hop_limit : i.hop ≡ 255
  -- RFC 4861, 6.1: "ICMP Checksum is valid"; RFC 4443, 2.3: over source, destination, length, next header and message
  pub checksum : ones_sum (both_addresses p ++ be32 (length (message_behind p)) (0 ∷ (0 ∷ (0 ∷ (58 ∷ message_behind p))))) ≡ 0xFFFF
  -- RFC 4443, 2.1: the first byte of the message
  pub type : get_or (message_behind p) 0 0 ≡ kind
  -- RFC 4861, 6.1: "ICMP Code is 0"
  pub code : get_or (message_behind p) 1 0 ≡ 0
  -- RFC 4861, 6.1: "ICMP length (derived from the IP length) is 16 or more octets", 8 for a solicitation
  pub long : least ≤ length (message_behind p)
  -- RFC 4861, 6.1: "All included options have a length that is greater than zero"; they are walked to the exact end
  pub options : WholeOptions (drop least (message_behind p)) os

-- a valid router advertisement in the packet p, whose header has the fields i: os are its options
pub record IsAdvertisement (i : Inner) (p : List ℕ) (os : List (List ℕ)) : Type 0 where
  -- RFC 4861, 6.1.2: type 134, ICMPv6 length at least 16
  pub message : ValidMessage 134 16 i p os
  -- RFC 4861, 6.1.2: "IP Source Address is a link-local address"
  pub link_local : LinkLocal i.source

-- a valid router solicitation in the packet p, whose header has the fields i: os are its options
pub record IsSolicitation (i : Inner) (p : List ℕ) (os : List (List ℕ)) : Type 0 where
  -- RFC 4861, 6.1.1: type 133, ICMPv6 length at least 8
  pub message : ValidMessage 133 8 i p os
  -- RFC 4861, 6.1.1: "If the IP source address is the unspecified address, there is no source link-layer address option in the message"
  pub no_link_layer : Unspecified i.source → Some SourceLinkLayerOption os → ⊥

-- the 40 + payload length bytes at the front of p are a valid router solicitation; bytes behind them are passed over
pub record ValidSolicitation (p : List ℕ) : Type 0 where
  -- RFC 2460, 3: a whole IPv6 packet
  pub whole : WholeInner (length p) (fields_of p)
  pub options : List (List ℕ)
  pub valid : IsSolicitation (fields_of p) (take (fields_of p).length p) options

-- an advertisement of a listed router in the inner packet p, whose header has the fields i, of which q is what i's length leaves
pub record Advertises (s : Settings) (routers : RouterList) (p : List ℕ) (i : Inner) (q : List ℕ) (router : ℕ) : Type 0 where
  -- RFC 2460, 3: a whole IPv6 packet
  pub whole : WholeInner (length p) i
  pub options : List (List ℕ)
  pub valid : IsAdvertisement i q options
  -- RFC 5214, 8.3.3: the source embeds a router of the list
  pub embeds : IsatapTo s i.source router
  pub in_list : Listed router (live routers)

-- the packet p is a valid advertisement of the router
abbrev pub ValidAdvertisement : Settings → RouterList → List ℕ → ℕ → Type 0
ValidAdvertisement s routers p router = Advertises s routers p (fields_of p) (take (fields_of p).length p) router

-- RFC 4861, 4.2: the router lifetime stands in the message's bytes 6 and 7
abbrev pub router_lifetime : List ℕ → ℕ
router_lifetime p = get_or (message_behind p) 6 0 * 256 + get_or (message_behind p) 7 0

-- an advertisement is accepted exactly when it is valid and its source embeds a listed router; then that router, and no other, is due when
-- the lifetimes say
pub record HeardExactly (s : Settings) (routers : RouterList) (now : ℕ) (p : List ℕ) : Type 0 where
  pub only_if : (router : ℕ) → (heard_of s routers now p).answer ≡ Ok router → ValidAdvertisement s routers p router
  pub whenever : (router : ℕ) → ValidAdvertisement s routers p router → (heard_of s routers now p).answer ≡ Ok router
  pub due : (router : ℕ) (a : ValidAdvertisement s routers p router)
      → (due : ℕ)
      × DueBy now s.interval (router_lifetime (take (fields_of p).length p)) a.options due
      × OnlyDue routers router due (heard_of s routers now p).routers
  -- 8: no whole IPv6 packet
  pub malformed : (WholeInner (length p) (fields_of p) → ⊥) → (heard_of s routers now p).answer ≡ Err InnerMalformed
  -- 20: no valid advertisement in it
  pub invalid : WholeInner (length p) (fields_of p) → ((os : List (List ℕ)) → IsAdvertisement (fields_of p) (take (fields_of p).length p) os → ⊥)
      → (heard_of s routers now p).answer ≡ Err AdvertisementInvalid
  -- 21: the advertiser is not listed
  pub unlisted : WholeInner (length p) (fields_of p) → (os : List (List ℕ)) → IsAdvertisement (fields_of p) (take (fields_of p).length p) os
      → ((router : ℕ) → IsatapTo s (fields_of p).source router → Listed router (live routers) → ⊥)
      → (heard_of s routers now p).answer ≡ Err AdvertiserNotListed
