-- Demand 2 at the node: each call does exactly what the rules say, with the settings, the router list and the path size that are in force
-- at the call's time. The rules stand as plain facts over bytes and members beside each call; here each call of the node is joined to them.
use Rattle.std.specs.Prelude.{ℕ, ◌≤◌, ◌<◌, max, ◌≡◌, length, get_or, take, replicate, Ok, Err}
use mathlib.Core.List.{List, [], ◌∷◌, ◌++◌, Memᴰ}
use Rattle.lists.specs.Any.{Some}
use Rattle.refusals.specs.declared.Refusal.TheVariants as refusal
use Rattle.address.specs.Facts.{Within, formed, Multicast, Unspecified}
use Rattle.pieces.specs.Places.{Part, no_place}
use Rattle.pieces.specs.Exactly.{PieceExactly}
use Rattle.pieces.specs.History.{HistoryTells}
use Rattle.pieces.specs.ByHistory.{HistoryExactly}
use Rattle.pieces.specs.declared.Collection.{Collection}
use Rattle.pieces.specs.declared.Key.{Key}
use Rattle.paths.specs.Table.{held}
use Rattle.routers.specs.Routers.{live, places_of, replaced_of}
use Rattle.routers.specs.Facts.{Listed, no_router}
use Rattle.routers.specs.declared.Router.{Router}
use Rattle.routers.specs.declared.RouterList.{RouterList}
use Rattle.settings.specs.Facts.{ForbiddenTo, Ours, BadEnd}
use Rattle.settings.specs.Settings.{defaults_for, locators_of}
use Rattle.settings.specs.declared.locators.Locator.{Locator}
use Rattle.settings.specs.declared.Settings.{Settings}
use Rattle.header.specs.Fields.{quad_at}
use Rattle.header.specs.Outer.{quote_of}
use Rattle.reports.specs.Accepts.{WellFormed, ReportedExactly}
use Rattle.sending.specs.Exactly.{SentExactly}
use Rattle.sending.specs.declared.SendAnswer.TheVariants as sent
use Rattle.receiving.specs.Admitted.{DeliveredExactly}
use Rattle.receiving.specs.Collect.{collected_of, collected_memory}
use Rattle.receiving.specs.CollectFacts.{CollectedExactly}
use Rattle.receiving.specs.Receive.{received_of, part_of}
use Rattle.receiving.specs.declared.Received.TheVariants as received
use Rattle.asking.specs.Ask.{asked_of, asked_output}
use Rattle.asking.specs.Facts.{AskedExactly}
use Rattle.hearing.specs.Facts.{HeardExactly}
use Rattle.hearing.specs.Heard.{heard_of}
use Rattle.advertisements.specs.Fits.{AdvertisementFits}
use Rattle.advertisements.specs.declared.Advertisement.{Advertisement}
use Rattle.advertising.specs.Facts.{AdvertisedExactly}
use Rattle.node.specs.Node.{service_of, setup_of, setup_pair_of, node_with, node_keeping, raised_to, path_size_at}
use Rattle.node.specs.Size.{path_size_of}
use Rattle.node.specs.Receive.{with_pieces, receive_of, receive_memory, part_in}
use Rattle.node.specs.Send.{path_size_toward, with_identification, send_of, send_output}
use Rattle.node.specs.Report.{paths_after, report_of}
use Rattle.node.specs.RouterList.{with_routers, replace_of}
use Rattle.node.specs.Ask.{ask_of, ask_output}
use Rattle.node.specs.Hear.{hear_of}
use Rattle.node.specs.Advertise.{advertise_of, advertise_output}
use Rattle.node.specs.declared.Node.{Node}
use Rattle.node.specs.declared.Service.{Service}
use Rattle.node.specs.declared.ServiceName.{ServiceName}
use Rattle.node.specs.declared.ServiceName.TheVariants.{First, Second}
use Rattle.demands.specs.Collecting.{CollectedByHistory}
use Rattle.demands.specs.Readings.{Readings}

-- no address stands twice
abbrev pub Distinct : List ℕ → Type 0
Distinct [] = Unit {0}
Distinct (a ∷ bs) = (Memᴰ a bs → ⊥) × Distinct bs

-- the first `count` of the addresses may be the router list: 0 to 16, distinct, none forbidden and none a locator address
pub record RightList (s : Settings) (addresses : List ℕ) (count : ℕ) : Type 0 where
  pub few : count ≤ 16
  pub distinct : Distinct (take count addresses)
  pub allowed : Some (BadEnd s) (take count addresses) → ⊥

-- r is the first router of the list that has the address a
pub record FirstAt (a : ℕ) (rs : List Router) (r : Router) : Type 0 where
  pub front : List Router
  pub back : List Router
  pub stands : rs ≡ front ++ r ∷ back
  pub address : r.address ≡ a
  pub before : (q : Router) → Memᴰ q front → q.address ≡ a → ⊥

-- the list holds the first `count` of the addresses, place by place; a router of the old list keeps its due time, a new one is due now
pub record NewList (now : ℕ) (old : List Router) (addresses : List ℕ) (count : ℕ) (after : RouterList) : Type 0 where
  pub size : after.count ≡ count
  pub places : length (places_of after) ≡ length addresses
  pub address : (k : ℕ) → k < length addresses → (get_or (places_of after) k no_router).address ≡ get_or addresses k 0
  pub kept : (k : ℕ) (r : Router) → k < length addresses → FirstAt (get_or addresses k 0) old r → (get_or (places_of after) k no_router).due ≡ r.due
  pub new : (k : ℕ) → k < length addresses → (Listed (get_or addresses k 0) old → ⊥) → (get_or (places_of after) k no_router).due ≡ now

-- no pair of address and interface stands twice
abbrev pub DistinctPairs : List Locator → Type 0
DistinctPairs [] = Unit {0}
DistinctPairs (l ∷ ls) = (Some (λ (m : Locator). (m.address ≡ l.address) × (m.interface ≡ l.interface)) ls → ⊥) × DistinctPairs ls

-- the node has the service: the first always, the second where it has both
abbrev pub Has : Node → ServiceName → Type 0
Has n First = Unit {0}
Has n Second = n.both ≡ 0 → ⊥

-- the settings keep the rules; that TTL and interfaces are at most 255, and the identification any number of 16 bits, is their type
pub record RightSettings (s : Settings) : Type 0 where
  pub some : 1 ≤ s.locator_count
  pub few : s.locator_count ≤ 8
  pub pairs : DistinctPairs (locators_of s)
  pub allowed : Some (λ (l : Locator). ForbiddenTo s l.address) (locators_of s) → ⊥
  pub routers : RightList s s.routers s.router_count
  pub prefixes : s.prefix_count ≤ 8
  pub link_size : Within 576 9216 s.link_size
  pub ttl : 1 ≤ s.ttl
  pub interval : Within 1 3600 s.interval
  pub unicast : Multicast s.reporting → ⊥
  pub specified : Unspecified s.reporting → ⊥

-- what a service is that settings have just made: it has them and the first identification, nothing collected, and each router due at 0
pub record NewService (s : Settings) (service : Service) : Type 0 where
  pub settings : service.settings ≡ s
  pub identification : service.identification ≡ s.identification
  pub no_piece : service.pieces.places ≡ replicate 8 no_place
  pub routers : NewList 0 [] s.routers s.router_count service.routers

-- what the services of a new node share: latest time 0, and no report
pub record NewNode (n : Node) : Type 0 where
  pub latest : n.latest ≡ 0
  pub no_report : held n.paths ≡ []

-- what stands in the place of a node that is refused has one service, without a locator, a prefix or a router
pub record NoNode (n : Node) : Type 0 where
  pub alone : Has n Second → ⊥
  pub locators : n.first.settings.locator_count ≡ 0
  pub prefixes : n.first.settings.prefix_count ≡ 0
  pub routers : n.first.routers.count ≡ 0

-- settings make a node of one service exactly when they keep the rules; otherwise 1 is given
pub record Sets (s : Settings) : Type 0 where
  pub made : RightSettings s → (setup_of s).answer ≡ Ok tt
  pub refused : (RightSettings s → ⊥) → (setup_of s).answer ≡ Err refusal.Settings
  pub nothing : (RightSettings s → ⊥) → NoNode (setup_of s).node
  pub new : RightSettings s → NewNode (setup_of s).node
  pub first : RightSettings s → NewService s (setup_of s).node.first
  pub alone : RightSettings s → Has (setup_of s).node Second → ⊥

-- the settings of two services keep the rules, and no locator of the one has the address of a locator of the other
pub record RightPair (a b : Settings) : Type 0 where
  pub first : RightSettings a
  pub second : RightSettings b
  pub apart : Some (λ (l : Locator). Ours b l.address) (locators_of a) → ⊥

-- they make a node of two services exactly then; otherwise 1 is given
pub record SetsPair (a b : Settings) : Type 0 where
  pub made : RightPair a b → (setup_pair_of a b).answer ≡ Ok tt
  pub refused : (RightPair a b → ⊥) → (setup_pair_of a b).answer ≡ Err refusal.Settings
  pub nothing : (RightPair a b → ⊥) → NoNode (setup_pair_of a b).node
  pub new : RightPair a b → NewNode (setup_pair_of a b).node
  pub first : RightPair a b → NewService a (setup_pair_of a b).node.first
  pub second : RightPair a b → NewService b (setup_pair_of a b).node.second
  pub both : RightPair a b → Has (setup_pair_of a b).node Second

-- settings of which locators, prefixes and routers alone are named have L 1,500, TTL 64, interval 120, identification 1, and for a reporting
-- address the link-local address of locator 0
pub record Defaults (s : Settings) (first : Locator) : Type 0 where
  pub link_size : s.link_size ≡ 1500
  pub ttl : s.ttl ≡ 64
  pub interval : s.interval ≡ 120
  pub identification : s.identification ≡ 1
  pub reporting : s.reporting ≡ formed first.address

-- the calls on a node that name its service w
module _ (n : Node) (w : ServiceName) where
  -- the settings of the service
  abbrev its : Settings
  its = (service_of n w).settings

  -- its routers
  abbrev its_routers : RouterList
  its_routers = (service_of n w).routers

  -- the part of a datagram is given exactly when the rules of 2 to 10 admit it by itself, and then it is the inner packet, unchanged
  pub record GivesPart (d : List ℕ) (interface : ℕ) : Type 0 where
    pub part : part_in n w d interface ≡ part_of (received_of its (live its_routers) d interface) d
    pub exactly : DeliveredExactly its (live its_routers) d interface

  -- a whole datagram, and what a piece completes, is delivered exactly when the rules admit it; otherwise the first of the numbers is given
  -- whose fact holds. Of the node no more than the latest time changes, and what the service collects
  pub record Receives (d : List ℕ) (interface time : ℕ) (memory : List ℕ) : Type 0 where
    pub answer : (receive_of n w d interface time memory).answer
        ≡ (collected_of its (live its_routers) (service_of n w).pieces (max n.latest time) d interface memory).answer
    pub node : (receive_of n w d interface time memory).node
        ≡ node_with n w
        (with_pieces (service_of n w) (collected_of its (live its_routers) (service_of n w).pieces (max n.latest time) d interface memory).pieces) time
    pub lent : receive_memory n w d interface time memory ≡ collected_memory its (service_of n w).pieces (max n.latest time) d interface memory
    pub exactly : CollectedExactly its (live its_routers) (service_of n w).pieces (max n.latest time) d interface memory

  -- a packet is wrapped, answered by 14 or refused exactly when the rules say so of the path size in force toward the tunnel end, and those
  -- bytes are written; of the node no more than the service's identification and the latest time change
  pub record Sends (packet hop : List ℕ) (k time : ℕ) (out : List ℕ) : Type 0 where
    pub exactly : SentExactly its (service_of n w).identification (path_size_toward n w hop time) packet hop k out
        (send_of n w packet hop k time (length out)).answer (service_of (send_of n w packet hop k time (length out)).node w).identification
        (send_output n w packet hop k time out)
    pub node : (send_of n w packet hop k time (length out)).node
        ≡ node_with n w (with_identification (service_of n w) (service_of (send_of n w packet hop k time (length out)).node w).identification) time

  -- an asking is answered exactly when a router may be asked at the latest time; then the solicitation is written, and that router alone is
  -- due after the interval
  pub record Asks (k time : ℕ) (out : List ℕ) : Type 0 where
    pub answer : (ask_of n w k time (length out)).answer ≡ (asked_of its its_routers (max n.latest time) k (length out)).answer
    pub node : (ask_of n w k time (length out)).node
        ≡ node_with n w (with_routers (service_of n w) (asked_of its its_routers (max n.latest time) k (length out)).routers) time
    pub output : ask_output n w k time out ≡ asked_output its its_routers (max n.latest time) k out
    pub exactly : AskedExactly its its_routers (max n.latest time) k out

  -- an advertisement is accepted exactly when it is valid and its source embeds a listed router; then that router alone is due when the
  -- lifetimes say
  pub record Hears (packet : List ℕ) (time : ℕ) : Type 0 where
    pub answer : (hear_of n w packet time).answer ≡ (heard_of its its_routers (max n.latest time) packet).answer
    pub node : (hear_of n w packet time).node ≡ node_with n w (with_routers (service_of n w) (heard_of its its_routers (max n.latest time) packet).routers) time
    pub exactly : HeardExactly its its_routers (max n.latest time) packet

  -- a solicitation is answered with an advertisement exactly when the rules hold, and that advertisement is written; otherwise the first of the
  -- numbers is given whose fact holds. That the operator's numbers fit is their type
  pub record Advertises (packet : List ℕ) (k : ℕ) (a : Advertisement) (out : List ℕ) : Type 0 where
    pub exactly : AdvertisementFits a
        → AdvertisedExactly its packet k a out (advertise_of n w packet k a (length out)) (advertise_output n w packet k a out)

  -- a new router list is taken exactly when it keeps the rules; otherwise 1 is given
  pub record Relists (addresses : List ℕ) (count time : ℕ) : Type 0 where
    pub taken : RightList its addresses count
        → replace_of n w addresses count time
        ≡ record {
          answer = Ok tt;
          node = node_with n w (with_routers (service_of n w) (replaced_of addresses count (max n.latest time) its_routers)) time;
        }
    pub replaced : RightList its addresses count
        → NewList (max n.latest time) (live its_routers) addresses count (service_of (replace_of n w addresses count time).node w).routers
    pub refused : (RightList its addresses count → ⊥)
        → replace_of n w addresses count time ≡ record { answer = Err refusal.Settings; node = raised_to n time }

  -- every call on the node that names a service which it has
  pub record Present : Type 0 where
    pub gives_part : (d : List ℕ) (interface : ℕ) → GivesPart d interface
    pub receives : (d : List ℕ) (interface time : ℕ) (memory : List ℕ) → Receives d interface time memory
    pub sends : (packet hop : List ℕ) (k time : ℕ) (out : List ℕ) → Sends packet hop k time out
    pub relists : (addresses : List ℕ) (count time : ℕ) → Relists addresses count time
    pub asks : (k time : ℕ) (out : List ℕ) → Asks k time out
    pub hears : (packet : List ℕ) (time : ℕ) → Hears packet time
    pub advertises : (packet : List ℕ) (k : ℕ) (a : Advertisement) (out : List ℕ) → Advertises packet k a out
    pub sizes : (v : ℕ) → path_size_of n w v ≡ Ok (path_size_at n w v n.latest)

  -- a call that names a service which the node has not gets 11, whatever its arguments are: the latest time is raised, and nothing is written
  pub record Absent : Type 0 where
    pub gives_part : (d : List ℕ) (interface : ℕ) → part_in n w d interface ≡ []
    pub receives : (d : List ℕ) (interface time : ℕ) (memory : List ℕ)
        → (receive_of n w d interface time memory ≡ record { answer = Err refusal.NoLocator; node = raised_to n time })
        × (receive_memory n w d interface time memory ≡ memory)
    pub sends : (packet hop : List ℕ) (k time : ℕ) (out : List ℕ)
        → (send_of n w packet hop k time (length out) ≡ record { answer = sent.Refused refusal.NoLocator; node = raised_to n time })
        × (send_output n w packet hop k time out ≡ out)
    pub relists : (addresses : List ℕ) (count time : ℕ)
        → replace_of n w addresses count time ≡ record { answer = Err refusal.NoLocator; node = raised_to n time }
    pub asks : (k time : ℕ) (out : List ℕ)
        → (ask_of n w k time (length out) ≡ record { answer = Err refusal.NoLocator; node = raised_to n time })
        × (ask_output n w k time out ≡ out)
    pub hears : (packet : List ℕ) (time : ℕ) → hear_of n w packet time ≡ record { answer = Err refusal.NoLocator; node = raised_to n time }
    pub advertises : (packet : List ℕ) (k : ℕ) (a : Advertisement) (out : List ℕ)
        → (advertise_of n w packet k a (length out) ≡ Err refusal.NoLocator) × (advertise_output n w packet k a out ≡ out)
    pub sizes : (v : ℕ) → path_size_of n w v ≡ Err refusal.NoLocator

module _ (n : Node) where
  -- the quoted source is a locator address of the service, which the node has
  abbrev pub Quotes : ServiceName → List ℕ → Type 0
  Quotes w m = Has n w × Ours (service_of n w).settings (quad_at (quote_of m) 12)

  -- a report is accepted exactly when 16 to 19 do not hold, by the settings of the service that has its quoted source for a locator address, the
  -- first where both have it, and at that service's size in force toward its neighbour; otherwise the first of them is given. One that quotes a
  -- locator address of neither gets 16 or 17. An accepted one is its neighbour's last
  pub record Reports (m : List ℕ) (time : ℕ) : Type 0 where
    pub first : Quotes First m → ReportedExactly n.first.settings m (λ v. path_size_at n First v (max n.latest time)) (report_of n m time).answer
    pub second : (Quotes First m → ⊥) → Quotes Second m
        → ReportedExactly n.second.settings m (λ v. path_size_at n Second v (max n.latest time)) (report_of n m time).answer
    pub malformed : (WellFormed m → ⊥) → (report_of n m time).answer ≡ Err refusal.ReportMalformed
    pub neither : WellFormed m → (Quotes First m → ⊥) → (Quotes Second m → ⊥) → (report_of n m time).answer ≡ Err refusal.QuoteNotOurs
    pub node : (report_of n m time).node ≡ node_keeping n (paths_after (report_of n m time).answer n.paths (max n.latest time)) time

  -- every call on the node
  pub record Exactly : Type 0 where
    pub present : (w : ServiceName) → Has n w → Present n w
    pub absent : (w : ServiceName) → (Has n w → ⊥) → Absent n w
    pub reports : (m : List ℕ) (time : ℕ) → Reports m time

-- a piece gets its number exactly when the rules say so: of any collection as it stands, that it has 8 places being its type; and of any list of
-- pieces that were handed in, by those of them that were taken. That list is what the calls on a node hand in
pub record Collects : Type 0 where
  pub exactly : (now : ℕ) (key : Key) (p : Part) (c : Collection) (memory : List ℕ) → length c.places ≡ 8 → PieceExactly now key p c memory
  pub tells : HistoryTells
  pub by_history : HistoryExactly
  pub handed_in : CollectedByHistory

-- demand 2, of all settings and of every node
pub record DemandTwo : Type 0 where
  pub readings : Readings
  pub defaults : (first : Locator) (others : List Locator) (locators : ℕ) (prefixes : List ℕ) (on_link : ℕ) (routers : List ℕ) (listed : ℕ)
      → Defaults (defaults_for (first ∷ others) locators prefixes on_link routers listed) first
  pub sets : (s : Settings) → Sets s
  pub sets_pair : (a b : Settings) → SetsPair a b
  pub calls : (n : Node) → Exactly n
  pub collects : Collects
