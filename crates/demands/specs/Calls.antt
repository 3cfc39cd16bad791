-- A list of calls on one node, run by the definitions that the contracts of `node` cite; and a call as the demands see it.
use Rattle.std.specs.Prelude.{ℕ, ◌%◌, Bool, true, false, not, List, [], ◌∷◌, eqb, length, Option, None, Some}
use Rattle.refusals.specs.Given.{Given, answered}
use Rattle.header.specs.Fields.{word_at}
use Rattle.header.specs.Wrap.{written_given}
use Rattle.receiving.specs.Receive.{received_given}
use Rattle.sending.specs.Sending.{send_given}
use Rattle.reports.specs.Report.{report_given}
use Rattle.asking.specs.Ask.{ask_given}
use Rattle.hearing.specs.Heard.{heard_given}
use Rattle.advertisements.specs.declared.Advertisement.{Advertisement}
use Rattle.node.specs.Receive.{receive_of, receive_memory, part_in}
use Rattle.node.specs.Send.{send_of, send_output}
use Rattle.node.specs.Report.{report_of}
use Rattle.node.specs.RouterList.{list_given, replace_of}
use Rattle.node.specs.Ask.{ask_of, ask_output}
use Rattle.node.specs.Hear.{hear_of}
use Rattle.node.specs.Advertise.{advertise_of, advertise_output}
use Rattle.node.specs.Node.{pick}
use Rattle.node.specs.declared.Node.{Node}
use Rattle.node.specs.declared.ServiceName.{ServiceName}

-- each public call that takes or hands back the node, with its arguments and lent bytes; every one but a report names its service (R26.3)
pub data NodeCall : Type 0 where
  -- receiving, the call for the number: service, datagram, arrival interface, time, memory
  receiving : ServiceName → List ℕ → ℕ → ℕ → List ℕ → NodeCall
  -- receiving, the call for the part: service, datagram, arrival interface
  receiving_part : ServiceName → List ℕ → ℕ → NodeCall
  -- sending: service, packet, next hop, locator number, time, output
  sending : ServiceName → List ℕ → List ℕ → ℕ → ℕ → List ℕ → NodeCall
  -- a size report: message, time
  reporting : List ℕ → ℕ → NodeCall
  -- a new router list: service, addresses, how many of them, time
  relisting : ServiceName → List ℕ → ℕ → ℕ → NodeCall
  -- asking: service, locator number, time, output
  asking : ServiceName → ℕ → ℕ → List ℕ → NodeCall
  -- an advertisement: service, inner packet, time
  hearing : ServiceName → List ℕ → ℕ → NodeCall
  -- advertising: service, packet that asks, locator number, the operator's advertisement, output
  advertising : ServiceName → List ℕ → ℕ → Advertisement → List ℕ → NodeCall

-- what comes of a call: number and values (R1.17), the next node, and what then stands in the lent output or memory, no byte where none is lent
pub record Outcome : Type 0 where
  pub given : Given
  pub node : Node
  pub output : List ℕ

-- what comes of each call; the values of the call for the part are its bytes
abbrev pub outcome_of : Node → NodeCall → Outcome
outcome_of n (receiving w d interface time memory) = record {
  given = received_given (receive_of n w d interface time memory).answer;
  node = (receive_of n w d interface time memory).node;
  output = receive_memory n w d interface time memory;
}
outcome_of n (receiving_part w d interface) = record { given = answered (part_in n w d interface); node = n; output = [] }
outcome_of n (sending w packet hop k time out) = record {
  given = send_given (send_of n w packet hop k time (length out)).answer;
  node = (send_of n w packet hop k time (length out)).node;
  output = send_output n w packet hop k time out;
}
outcome_of n (reporting m time) =
    record { given = report_given (report_of n m time).answer; node = (report_of n m time).node; output = [] }
outcome_of n (relisting w addresses count time) =
    record { given = list_given (replace_of n w addresses count time).answer; node = (replace_of n w addresses count time).node; output = [] }
outcome_of n (asking w k time out) = record {
  given = ask_given (ask_of n w k time (length out)).answer;
  node = (ask_of n w k time (length out)).node;
  output = ask_output n w k time out;
}
outcome_of n (hearing w packet time) =
    record { given = heard_given (hear_of n w packet time).answer; node = (hear_of n w packet time).node; output = [] }
outcome_of n (advertising w packet k a out) =
    record { given = written_given (advertise_of n w packet k a (length out)); node = n; output = advertise_output n w packet k a out }

-- of two things the first where both names are the same, else the second
abbrev pub if_same : {A : Type 0} → ServiceName → ServiceName → A → A → A
if_same w v a b = pick w (pick v a b) (pick v b a)

-- both names are the same
abbrev pub is_same : ServiceName → ServiceName → Bool
is_same w v = if_same w v true false

-- what a call is to the path sizes
pub data OfSizes : Type 0 where
  -- a sending: service, packet, next hop, locator number
  a_sending : ServiceName → List ℕ → List ℕ → ℕ → OfSizes
  -- a size report: its message
  a_report : List ℕ → OfSizes
  -- anything else
  no_size : OfSizes

-- a piece: more-fragments set or offset not 0 (R5.6)
abbrev pub is_piece : List ℕ → Bool
is_piece d = not (eqb (word_at d 6 % 0x4000) 0)

-- a call as the demands see it: its time, 0 where it has none, for the latest time is never below 0; the output or memory lent to it, no
-- byte where none is; the service that it names; what it is to the path sizes; and whether it hands in a piece for the number
pub record View : Type 0 where
  pub time : ℕ
  pub lent : List ℕ
  pub service : Option ServiceName
  pub sizes : OfSizes
  pub piece : Bool

-- each call as the demands see it
abbrev pub view_of : NodeCall → View
view_of (receiving w d interface time memory) = record { time = time; lent = memory; service = Some w; sizes = no_size; piece = is_piece d }
view_of (receiving_part w d interface) = record { time = 0; lent = []; service = Some w; sizes = no_size; piece = false }
view_of (sending w packet hop k time out) = record { time = time; lent = out; service = Some w; sizes = a_sending w packet hop k; piece = false }
view_of (reporting m time) = record { time = time; lent = []; service = None; sizes = a_report m; piece = false }
view_of (relisting w addresses count time) = record { time = time; lent = []; service = Some w; sizes = no_size; piece = false }
view_of (asking w k time out) = record { time = time; lent = out; service = Some w; sizes = no_size; piece = false }
view_of (hearing w packet time) = record { time = time; lent = []; service = Some w; sizes = no_size; piece = false }
view_of (advertising w packet k a out) = record { time = 0; lent = out; service = Some w; sizes = no_size; piece = false }

-- what a call is to the router list of a service
pub data OfRouters : Type 0 where
  -- an asking
  an_asking : OfRouters
  -- an advertisement
  an_advertisement : OfRouters
  -- a new list
  a_list : OfRouters
  -- anything else
  not_of_routers : OfRouters

-- what each call is to the router list of the service w
abbrev pub routers_of : ServiceName → NodeCall → OfRouters
routers_of w (receiving v d interface time memory) = not_of_routers
routers_of w (receiving_part v d interface) = not_of_routers
routers_of w (sending v packet hop k time out) = not_of_routers
routers_of w (reporting m time) = not_of_routers
routers_of w (relisting v addresses count time) = if_same w v a_list not_of_routers
routers_of w (asking v k time out) = if_same w v an_asking not_of_routers
routers_of w (hearing v packet time) = if_same w v an_advertisement not_of_routers
routers_of w (advertising v packet k a out) = not_of_routers

-- what a call is to what a service collects
pub data OfPieces : Type 0 where
  -- a datagram that is handed in for the number: the datagram, arrival interface, time, memory
  a_datagram : List ℕ → ℕ → ℕ → List ℕ → OfPieces
  -- anything else
  no_datagram : OfPieces

-- what each call is to what the service w collects
abbrev pub pieces_of : ServiceName → NodeCall → OfPieces
pieces_of w (receiving v d interface time memory) = if_same w v (a_datagram d interface time memory) no_datagram
pieces_of w (receiving_part v d interface) = no_datagram
pieces_of w (sending v packet hop k time out) = no_datagram
pieces_of w (reporting m time) = no_datagram
pieces_of w (relisting v addresses count time) = no_datagram
pieces_of w (asking v k time out) = no_datagram
pieces_of w (hearing v packet time) = no_datagram
pieces_of w (advertising v packet k a out) = no_datagram

-- the node after a list of calls: each gets the node that the last one left
abbrev pub node_after : Node → List NodeCall → Node
node_after n [] = n
node_after n (x ∷ xs) = node_after (outcome_of n x).node xs
