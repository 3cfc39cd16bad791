-- The advertisement that we write (R22.7, R22.9), as the demands state it.
use Rattle.std.specs.Prelude.{ℕ, ◌+◌, ◌<◌, ◌≡◌, ◌⊎◌, cond, length, take}
use mathlib.Core.List.{List, [], ◌∷◌, ◌++◌, flatten}
use Rattle.checksum.specs.Sum.{ones_sum, ones_complement}
use Rattle.header.specs.Wrap.{be16, be32}
use Rattle.lists.specs.Any.{Some}
use Rattle.advertisements.specs.OptionFacts.{PrefixOptionOf, RouteOptionOf}
use Rattle.advertisements.specs.declared.prefix.Prefix.{Prefix}
use Rattle.advertisements.specs.declared.route.Route.{Route}
use Rattle.advertisements.specs.declared.Advertisement.{Advertisement}

-- 26: more than 8 prefixes, more than 8 routes, or one that counts has a prefix length above 128
abbrev pub BadOptions : Advertisement → Type 0
BadOptions a =
    (8 < a.prefix_count)
    ⊎ ((8 < a.route_count)
    ⊎ (Some (λ (p : Prefix). 128 < p.length) (take a.prefix_count a.prefixes)
    ⊎ Some (λ (r : Route). 128 < r.length) (take a.route_count a.routes)))

module _ {A : Type 0} (F : A → List ℕ → Type 0) where
  -- one list of bytes for each element, in the same order, and each as F says of its element
  abbrev pub Each : List A → List (List ℕ) → Type 0
  Each [] [] = Unit {0}
  Each [] (o ∷ os) = ⊥
  Each (x ∷ xs) [] = ⊥
  Each (x ∷ xs) (o ∷ os) = F x o × Each xs os

-- RFC 4861, 4.2: type 134, code 0, a checksum, current hop limit 0, a byte of flags in which M is 128 and O is 64, the router lifetime,
-- reachable time 0, retransmission timer 0, and options
abbrev pub advertisement_message : Advertisement → List (List ℕ) → ℕ → List ℕ
advertisement_message a options sum =
    134 ∷ (0 ∷ be16 sum (0 ∷ ((cond a.managed 128 0 + cond a.other 64 0) ∷ be16 a.lifetime (be32 0 (be32 0 (flatten options))))))

-- the complement of the sum over source, destination, the message's length, next header 58 and the message, taken with the checksum 0
abbrev pub advertisement_sum : List ℕ → List ℕ → List ℕ → ℕ
advertisement_sum from to message =
    ones_complement (ones_sum ((from ++ to) ++ be32 (length message) (0 ∷ (0 ∷ (0 ∷ (58 ∷ message))))))

-- the message in its IPv6 packet: traffic class and flow label 0, payload length, next header 58, hop limit 255, source and destination;
-- behind them the prefix options, one for each prefix, and then the route options, one for each route, in the operator's order
pub record AdvertisementOf (from to : List ℕ) (a : Advertisement) (p : List ℕ) : Type 0 where
  pub prefixes : List (List ℕ)
  pub each_prefix : Each PrefixOptionOf (take a.prefix_count a.prefixes) prefixes
  pub routes : List (List ℕ)
  pub each_route : Each RouteOptionOf (take a.route_count a.routes) routes
  pub sum : ℕ
  pub sum_right : sum ≡ advertisement_sum from to (advertisement_message a (prefixes ++ routes) 0)
  pub bytes : p
      ≡ 0x60 ∷ (0 ∷ (0 ∷ (0 ∷ be16 (length (advertisement_message a (prefixes ++ routes) 0))
      (58 ∷ (255 ∷ ((from ++ to) ++ advertisement_message a (prefixes ++ routes) sum))))))
