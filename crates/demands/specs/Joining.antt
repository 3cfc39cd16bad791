-- The pieces of one cutting join (R23.19, R26.7): handed in to one service one by one, they get what the whole datagram would get in the place of
-- the last.
use Rattle.std.specs.Prelude.{ℕ, ◌+◌, ◌<◌, max, ◌≡◌, ◌⊎◌, true, get_or, Result, Ok, Err}
use Rattle.refusals.specs.declared.Refusal.{Refusal}
use mathlib.Core.List.{List, [], ◌∷◌, ◌++◌, Memᴰ}
use Rattle.lists.specs.Any.{Some}
use Rattle.lists.specs.Parts.{part}
use Rattle.header.specs.Fields.{word_at, quad_at}
use Rattle.pieces.specs.History.{Handed}
use Rattle.pieces.specs.declared.Place.{Place}
use Rattle.receiving.specs.Facts.{Encapsulates, Unfragmented, ForUs, OuterBad}
use Rattle.receiving.specs.declared.Received.{Received}
use Rattle.receiving.specs.declared.Received.TheVariants.{Delivered, Joined}
use Rattle.node.specs.Node.{service_of}
use Rattle.node.specs.Receive.{receive_of}
use Rattle.node.specs.declared.Node.{Node}
use Rattle.node.specs.declared.ServiceName.{ServiceName}
use Rattle.demands.specs.Starts.{Start, is_right, start_of}
use Rattle.demands.specs.Two.{Has}
use Rattle.demands.specs.Collecting.{handed_by}
use Rattle.demands.specs.Cuttings.{SameKey, HeaderRight, Cutting, Repeats}
use Rattle.demands.specs.Calls.{NodeCall, receiving, outcome_of, OfPieces, a_datagram, no_datagram, pieces_of, node_after}

-- what a call is to a collection hands in the piece p for the number, on the interface i
abbrev pub Hands : ℕ → List ℕ → OfPieces → Type 0
Hands i p (a_datagram e interface time memory) = Repeats e p × (interface ≡ i)
Hands i p no_datagram = ⊥

-- the call hands it in to the service v
abbrev pub HandsIn : ServiceName → ℕ → List ℕ → NodeCall → Type 0
HandsIn v i p x = Hands i p (pieces_of v x)

-- the call is lent the memory m, if the piece that it hands in to the service comes to be collected
abbrev pub IsLent : ServiceName → Node → List ℕ → NodeCall → Type 0
IsLent v n m x = (h : Handed) → Memᴰ h (handed_by v n x) → h.memory ≡ m

-- the memory m after a call: what the call leaves of it, if a piece comes to be collected; no other call writes it
abbrev pub memory_by : List Handed → List ℕ → List ℕ → List ℕ
memory_by [] m output = m
memory_by (h ∷ hs) m output = output

-- the memory m of the service after a call on the node n
abbrev pub memory_after : ServiceName → Node → List ℕ → NodeCall → List ℕ
memory_after v n m x = memory_by (handed_by v n x) m (outcome_of n x).output

-- each piece that the service comes to collect is lent the memory that the last one left, the first of them m
abbrev pub Untouched : ServiceName → Node → List ℕ → List NodeCall → Type 0
Untouched v n m [] = Unit {0}
Untouched v n m (x ∷ xs) = IsLent v n m x × Untouched v (outcome_of n x).node (memory_after v n m x) xs

-- what is said of a node and a call holds of each call of a list, on the node that the calls before it left
abbrev pub AtEach : (Node → NodeCall → Type 0) → Node → List NodeCall → Type 0
AtEach F n [] = Unit {0}
AtEach F n (x ∷ xs) = F n x × AtEach F (outcome_of n x).node xs

-- the service v, the interface, the whole datagram and its pieces
module _ (v : ServiceName) (i : ℕ) (d : List ℕ) (ps : List (List ℕ)) where
  -- a datagram under the key that 2 to 7 do not refuse is, if it is a piece and handed in to the service for the number, one of ps, and comes on
  -- the interface i
  abbrev pub OneOf : Node → OfPieces → Type 0
  OneOf n (a_datagram e interface time memory) =
      Has n v → HeaderRight e → SameKey e d → (Unfragmented e → ⊥) → Encapsulates e → ForUs (service_of n v).settings e interface
      → (OuterBad (service_of n v).settings e → ⊥) → Some (Repeats e) ps × (interface ≡ i)
  OneOf n no_datagram = Unit {0}

  -- the call hands in no foreign piece
  abbrev pub NotForeign : Node → NodeCall → Type 0
  NotForeign n x = OneOf n (pieces_of v x)

  -- the call hands in one of ps
  abbrev pub IsOne : NodeCall → Type 0
  IsOne x = Some (λ (p : List ℕ). HandsIn v i p x) ps

  -- one of ps is refused neither by 15 nor by 28 nor by 30
  abbrev pub Admitted : Node → NodeCall → Type 0
  Admitted n x =
      IsOne x
      → ((outcome_of n x).given.number ≡ 15 → ⊥) × ((outcome_of n x).given.number ≡ 28 → ⊥) × ((outcome_of n x).given.number ≡ 30 → ⊥)

  -- the place has the key of d
  pub record HasKey (c : Place) : Type 0 where
    pub source : c.key.source ≡ quad_at d 12
    pub destination : c.key.destination ≡ quad_at d 16
    pub protocol : c.key.protocol ≡ get_or d 9 0
    pub identification : c.key.identification ≡ word_at d 4

  -- at a time no live datagram of the service has the key of d: none whose first piece is less than 30 s ago
  abbrev pub NoneLive : Node → ℕ → Type 0
  NoneLive n now =
      (c : Place) → Memᴰ c (service_of n v).pieces.places → HasKey c → (c.used ≡ 0 → ⊥) → now < c.first + 30 → ⊥

  -- the calls `first`, `others`, `last` on the node n: first and last hand in the datagrams e and f at times t and u with memories m and w
  pub record Arrive (n : Node) (e : List ℕ) (t : ℕ) (m : List ℕ) (others : List NodeCall) (f : List ℕ) (u : ℕ) (w : List ℕ) : Type 0 where
    pub cutting : Cutting d ps
    pub starts : IsOne (receiving v e i t m)
    pub ends : IsOne (receiving v f i u w)
    -- the last piece was missing, and with it all are there
    pub missing : Some (λ (p : List ℕ). Repeats f p × (Some (HandsIn v i p) (receiving v e i t m ∷ others) → ⊥)) ps
    pub all : (p : List ℕ) → Memᴰ p ps → Some (HandsIn v i p) (receiving v e i t m ∷ others ++ receiving v f i u w ∷ [])
    -- no foreign piece under the key, before or in between
    pub new : NoneLive n (max n.latest t)
    pub own : AtEach NotForeign n (receiving v e i t m ∷ others ++ receiving v f i u w ∷ [])
    -- in time, by the latest time
    pub in_time : max (node_after n (receiving v e i t m ∷ others)).latest u < max n.latest t + 30
    pub untouched : Untouched v n m (receiving v e i t m ∷ others ++ receiving v f i u w ∷ [])
    pub admitted : AtEach Admitted n (receiving v e i t m ∷ others ++ receiving v f i u w ∷ [])

  -- the call hands in one of ps, and gets 27, or the number r, which then is 4, 6 or 7, or 11 where the node has no such service
  abbrev pub WaitsOr : ℕ → Node → NodeCall → Type 0
  WaitsOr r n x =
      IsOne x
      → ((outcome_of n x).given.number ≡ 27) ⊎ (((outcome_of n x).given.number ≡ r) × ((r ≡ 4) ⊎ ((r ≡ 6) ⊎ ((r ≡ 7) ⊎ (r ≡ 11)))))

-- the bytes that are delivered: of the datagram, or of the memory afterwards
abbrev pub bytes_by : Result Received Refusal → List ℕ → List ℕ → List ℕ
bytes_by (Ok (Delivered offset size)) d memory = part offset size d
bytes_by (Ok (Joined offset size)) d memory = part offset size memory
bytes_by (Err r) d memory = []

-- the number that the call for it gives, on the node n through the service v
abbrev pub number_by : ServiceName → Node → List ℕ → ℕ → ℕ → List ℕ → ℕ
number_by v n d i time memory = (outcome_of n (receiving v d i time memory)).given.number

-- the bytes delivered by the call for the number
abbrev pub delivered_by : ServiceName → Node → List ℕ → ℕ → ℕ → List ℕ → List ℕ
delivered_by v n d i time memory = bytes_by (receive_of n v d i time memory).answer d (outcome_of n (receiving v d i time memory)).output

-- the last one, f, gets the number of the whole datagram d in its place, and the same bytes are delivered; each one before it waits with 27, or
-- has that number where it is 4, 6, 7 or 11
pub record GetsTheWhole (v : ServiceName) (i : ℕ) (d : List ℕ) (ps : List (List ℕ)) (n : Node) (e : List ℕ) (t : ℕ) (m : List ℕ) (others : List NodeCall) (f : List ℕ) (u : ℕ) (w : List ℕ) : Type 0 where
  pub number : number_by v (node_after n (receiving v e i t m ∷ others)) f i u w ≡ number_by v (node_after n (receiving v e i t m ∷ others)) d i u w
  pub bytes : delivered_by v (node_after n (receiving v e i t m ∷ others)) f i u w ≡ delivered_by v (node_after n (receiving v e i t m ∷ others)) d i u w
  pub earlier : AtEach (WaitsOr v i d ps (number_by v (node_after n (receiving v e i t m ∷ others)) d i u w)) n (receiving v e i t m ∷ others)

-- for all accepted settings, both services, all calls before, every whole datagram and every cutting of it
unfoldable pub PiecesJoin : Type 0
PiecesJoin =
    (s : Start) → is_right s ≡ true
    → (v : ServiceName) (before : List NodeCall) (i : ℕ) (d : List ℕ) (ps : List (List ℕ)) (e : List ℕ) (t : ℕ) (m : List ℕ) (others : List NodeCall) (f : List ℕ) (u : ℕ) (w : List ℕ)
    → Arrive v i d ps (node_after (start_of s) before) e t m others f u w
    → GetsTheWhole v i d ps (node_after (start_of s) before) e t m others f u w
