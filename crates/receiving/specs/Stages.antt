-- The orders of receiving in stages, as the code goes through them: 2 to 4, and 2 to 5, are read with the outer header (`header_read_of`,
-- `outer_read_of`). That they are the tables of `receive_rows` and `arrival_rows` is proved. No contract of node, boundary or program rests on this.
use Rattle.std.specs.Prelude.{ℕ, ◌<◌, ◌≡◌, Bool, cond, not, ◌&&◌, List, [], ◌∷◌, length, eqb, Option, Some, None, IfSome, Result, Err, Ok}
use Rattle.address.specs.Address.{is_link_local, is_identifier}
use Rattle.address.specs.Quads.{bytes_in}
use Rattle.refusals.specs.Refusals.{first_of, stop_or}
use Rattle.refusals.specs.declared.Refusal.{Refusal}
use Rattle.refusals.specs.declared.Refusal.TheVariants.{NotForUs, OuterSourceForbidden}
use Rattle.header.specs.Outer.{outer_of, payload_of, read_with}
use Rattle.header.specs.Inner.{inner_of, is_inner_malformed}
use Rattle.header.specs.declared.outer.Outer.{Outer}
use Rattle.header.specs.declared.inner.Inner.{Inner}
use Rattle.settings.specs.Settings.{forbidden_to, is_our_locator}
use Rattle.settings.specs.declared.Settings.{Settings}
use Rattle.routers.specs.Routers.{listed}
use Rattle.routers.specs.declared.Router.{Router}
use Rattle.pieces.specs.Places.{places}
use Rattle.pieces.specs.Take.{with_place}
use Rattle.pieces.specs.declared.Joined as taken
use Rattle.pieces.specs.declared.Collection.{Collection}
use Rattle.pieces.specs.declared.Place.{Place}
use Rattle.receiving.specs.Receive.{inner_rows}
use Rattle.receiving.specs.Collect.{Collected, arrival_rows, is_piece, taken_piece, taken_memory}
use Rattle.receiving.specs.declared.collect.Gathered.{Gathered}
use Rattle.receiving.specs.declared.judging.Opening.{Opening}
use Rattle.receiving.specs.declared.judging.Reading.{Reading}
use Rattle.receiving.specs.declared.judging.Stage.{Stage}
use Rattle.receiving.specs.declared.Received.{Received}
use Rattle.receiving.specs.declared.Received.TheVariants.{Delivered}

-- 6 and 7, of the outer addresses
abbrev pub address_rows : Settings → ℕ → Outer → List (Bool × Refusal)
address_rows s interface o = (not (is_our_locator s o.destination interface), NotForUs) ∷ (forbidden_to s o.source, OuterSourceForbidden) ∷ []

-- the first of 6 and 7
unfoldable pub address_check : Settings → ℕ → Outer → Result Unit Refusal
address_check s interface o = first_of (address_rows s interface o)

-- the first of 8, 9 and 10
unfoldable pub inner_check : Settings → Bool → ℕ → ℕ → Inner → Result Unit Refusal
inner_check s isListed source n i = first_of (inner_rows s isListed source n i)

-- 15, 2, 3, 4, 6, 7, of a datagram d, where so many bytes of memory are lent
unfoldable pub arrival_of : Settings → ℕ → ℕ → List ℕ → Result Outer Refusal
arrival_of s interface lent d = read_with (first_of (arrival_rows s interface lent d (outer_of d))) (outer_of d)

-- the inner header that is read; of an inner header 8 to 10 ask the version, the length and the source alone
abbrev pub inner_in : Opening → Inner
inner_in x = record { version = x.version; length = x.packet; next = 0; hop = 0; source = bytes_in x.address }

-- whether 8 to 10 let it pass whatever settings and routers there are: a whole packet from a link-local ISATAP address that embeds the outer source
unfoldable pub passes_anyhow : Opening → Bool
passes_anyhow x =
    let source : List ℕ = bytes_in x.address in
    eqb x.address.last x.source && is_link_local source && is_identifier source && not (is_inner_malformed x.length (inner_in x))

-- 8 to 10 of what is to be judged, if anything is
abbrev pub open_check : Settings → List Router → Option Opening → Result Unit Refusal
open_check s routers (Some x) = inner_check s (listed x.source routers) x.source x.length (inner_in x)
open_check s routers None = Ok tt

-- 8 to 10 of what is read, and then where the inner packet stands
unfoldable pub judged_of : Settings → List Router → Stage → Result Received Refusal
judged_of s routers x = stop_or Err (open_check s routers x.open) (Ok x.received)

-- the same behind a number
abbrev pub judged_or : Settings → List Router → Result Stage Refusal → Result Received Refusal
judged_or s routers (Ok x) = judged_of s routers x
judged_or s routers (Err r) = Err r

-- what is read says all that is asked: what is judged of it is that answer, whatever settings and routers there are
abbrev pub ReadAs : (Settings → List Router → Result Received Refusal) → Result Stage Refusal → Type 0
ReadAs answer x = (s : Settings) (routers : List Router) → judged_or s routers x ≡ answer s routers

-- 8 to 10 of what is encapsulated, p, from that outer source
abbrev pub packet_check : Settings → List Router → ℕ → List ℕ → Result Unit Refusal
packet_check s routers source p = inner_check s (listed source routers) source (length p) (inner_of p)

-- what is read of p says the packet's length and all that 8 to 10 ask, whatever settings and routers there are; a number is theirs
abbrev pub ReadsInner : ℕ → List ℕ → Result Reading Refusal → Type 0
ReadsInner source p (Ok x) =
    (x.length ≡ (inner_of p).length) × ((s : Settings) (routers : List Router) → open_check s routers x.open ≡ packet_check s routers source p)
ReadsInner source p (Err r) = (s : Settings) (routers : List Router) → packet_check s routers source p ≡ Err r

-- 8 to 10 of what is encapsulated, p, from that outer source; and then where the inner packet stands
unfoldable pub opened_of : Settings → List Router → (ℕ → Received) → ℕ → List ℕ → Result Received Refusal
opened_of s routers placed source p = stop_or Err (packet_check s routers source p) (Ok (placed (inner_of p).length))

-- the same of a datagram d with the outer fields o that has arrived whole
unfoldable pub whole_opened : Settings → List Router → List ℕ → Outer → Result Received Refusal
whole_opened s routers d o = opened_of s routers (Delivered o.header) o.source (payload_of d o)

-- the place of a joined datagram is one of the eight
abbrev pub InMemory : Result taken.Joined Refusal → Type 0
InMemory (Ok d) = d.place < places
InMemory (Err r) = Unit {0}

-- what is collected then: a piece changes one place, if any
abbrev pub collected_after : Option (ℕ × Place) → Collection → Collection
collected_after (Some x) c = with_place x.0 x.1 c
collected_after None c = c

-- what comes of what is gathered, where c was collected: the answer, and what is collected afterwards
abbrev pub judged_with : Settings → List Router → Collection → Gathered → Collected
judged_with s routers c g = record { answer = judged_or s routers g.stage; pieces = collected_after g.stored c }

-- what is gathered says all that is asked, and the place that it names is there
abbrev pub GatheredAs : Collection → (Settings → List Router → Collected) → Gathered → Type 0
GatheredAs c answer g =
    ((s : Settings) (routers : List Router) → judged_with s routers c g ≡ answer s routers) × IfSome g.stored (λ x. x.0 < places)

-- what comes of any datagram that has arrived: a whole one leaves what is collected
unfoldable pub settled_of : Settings → List Router → Collection → ℕ → List ℕ → Outer → List ℕ → Collected
settled_of s routers c now d o memory =
    cond (is_piece o) (taken_piece s routers c now d o memory) (record { answer = whole_opened s routers d o; pieces = c })

-- what then stands in the memory
unfoldable pub settled_memory : Collection → ℕ → List ℕ → Outer → List ℕ → List ℕ
settled_memory c now d o memory = cond (is_piece o) (taken_memory c now d o memory) memory
