-- What a call that names a service works on: the service, whether it is there, and the latest time; and what each call is to the collection of a
-- service. Assumes nothing.
use Prim.Native.Nat.{ℕ, max}
use mathlib.Core.Path.{◌≡◌, refl}
use mathlib.Core.Bool.{Bool}
use mathlib.Core.List.{List}
use Rattle.receiving.specs.Collect.{Collected}
use Rattle.receiving.specs.Receive.{received_given}
use Rattle.node.specs.Node.{service_of, has_service, node_with}
use Rattle.node.specs.Receive.{collected_by, collected_through, receive_of, receive_memory}
use Rattle.node.specs.Send.{send_of}
use Rattle.node.specs.Report.{report_of}
use Rattle.node.specs.RouterList.{replace_of}
use Rattle.node.specs.Ask.{ask_of}
use Rattle.node.specs.Hear.{hear_of}
use Rattle.node.specs.declared.Node.{Node}
use Rattle.node.specs.declared.Service.{Service}
use Rattle.node.specs.declared.ServiceName.{ServiceName}
use Rattle.node.specs.declared.ServiceName.TheVariants.{First, Second}
use Rattle.demands.specs.Calls.{NodeCall, receiving, receiving_part, sending, reporting, relisting, asking, hearing, advertising, Outcome, outcome_of, OfPieces, a_datagram, no_datagram, pieces_of}
use Rattle.node.proofs.Services.{put-kept}

pub record Seat : Type 0 where
  pub there : Bool
  pub service : Service
  pub latest : ℕ

abbrev pub seat_of : ServiceName → Node → Seat
seat_of w n = record { there = has_service n w; service = service_of n w; latest = n.latest }

-- what comes of a datagram there, and of the memory
abbrev pub collected_at : Seat → List ℕ → ℕ → ℕ → List ℕ → Collected
collected_at n e interface time memory = collected_by n.there n.service (max n.latest time) e interface memory

abbrev pub memory_at : Seat → List ℕ → ℕ → ℕ → List ℕ → List ℕ
memory_at n e interface time memory = collected_through n.there n.service (max n.latest time) e interface memory

-- what a call is to the collection of the service w decides what is given, what becomes of the collection and of the time, and what is written
abbrev pub PiecesLeft : ServiceName → Node → OfPieces → Outcome → Type 0
PiecesLeft w n (a_datagram e interface time memory) o =
    (o.given ≡ received_given (collected_at (seat_of w n) e interface time memory).answer)
    × ((service_of o.node w).pieces ≡ (collected_at (seat_of w n) e interface time memory).pieces)
    × (o.output ≡ memory_at (seat_of w n) e interface time memory)
    × (o.node.latest ≡ max n.latest time)
PiecesLeft w n no_datagram o = (service_of o.node w).pieces ≡ (service_of n w).pieces

-- a service that is put back with its collection leaves both services theirs
put-pieces : (n : Node) (v : ServiceName) (s : Service) (time : ℕ) → s.pieces ≡ (service_of n v).pieces
    → (w : ServiceName) → (service_of (node_with n v s time) w).pieces ≡ (service_of n w).pieces
put-pieces = put-kept (λ (s : Service). s.pieces)

pub pieces_left : (w : ServiceName) (n : Node) (x : NodeCall) → PiecesLeft w n (pieces_of w x) (outcome_of n x)
unfolding receive_of receive_memory send_of report_of replace_of ask_of hear_of
pieces_left First n (receiving First e interface time memory) = (refl, refl, refl, refl)
pieces_left First n (receiving Second e interface time memory) = refl
pieces_left Second n (receiving First e interface time memory) = refl
pieces_left Second n (receiving Second e interface time memory) = (refl, refl, refl, refl)
pieces_left w n (receiving_part v e interface) = refl
pieces_left w n (sending v packet hop k time out) = put-pieces n v _ time refl w
pieces_left w n (reporting m time) = refl
pieces_left w n (relisting v addresses count time) = put-pieces n v _ time refl w
pieces_left w n (asking v k time out) = put-pieces n v _ time refl w
pieces_left w n (hearing v packet time) = put-pieces n v _ time refl w
pieces_left w n (advertising v packet k a out) = refl
