-- Loops over calls, one after the other: the sum of what n turns answer, and what they leave. Only functions of the crate's own cite this.
use Rattle.std.specs.Prelude.{ℕ, zero, suc, ◌+◌, ◌*◌, ◌/◌, ◌%◌, ◌^◌, min, List, length, take, drop, Result, Ok, Err}
use Rattle.refusals.specs.declared.Refusal.{Refusal}
use Rattle.checksum.specs.Sum.{ones_sum_from}
use Rattle.node.specs.Receive.{receive_of, receive_memory}
use Rattle.node.specs.Send.{send_of, send_output}
use Rattle.node.specs.declared.Node.{Node}
use Rattle.node.specs.declared.ServiceName.TheVariants.{First}
use Rattle.node.specs.declared.receive.Receipt.{Receipt}
use Rattle.paths.specs.Kept.{in_force}
use Rattle.paths.specs.Table.{kept_in}
use Rattle.paths.specs.declared.PathTable.{PathTable}
use Rattle.receiving.specs.declared.Received.{Received}
use Rattle.receiving.specs.declared.Received.TheVariants as received
use Rattle.refusals.specs.Refusals.{number_of}
use Rattle.sending.specs.declared.SendAnswer.{SendAnswer}
use Rattle.sending.specs.declared.SendAnswer.TheVariants as sent

-- the length of a part: what is asked for, as far as it fits four times
abbrev pub part_size : List ℕ → ℕ → ℕ
part_size all size = min size (length all / 4)

-- the part of turn i
unfoldable pub part_at : List ℕ → ℕ → ℕ → List ℕ
part_at all size i = take (part_size all size) (drop (i % 4 * part_size all size) all)

-- a sum that wraps
abbrev pub added : ℕ → ℕ → ℕ
added sum x = (sum + x) % 2 ^ 64

-- the inner packet's length
abbrev pub received_worth : Result Received Refusal → ℕ
received_worth (Ok (received.Delivered offset length)) = length
received_worth (Ok (received.Joined offset length)) = length
received_worth (Err r) = number_of r

-- the length written, or the size M of a Too Big
abbrev pub sent_worth : SendAnswer → ℕ
sent_worth (sent.Wrapped length) = length
sent_worth (sent.TooBig size written) = size
sent_worth (sent.Refused r) = number_of r

-- the sum of the checksums of the first n turns
abbrev pub sums_from : ℕ → List ℕ → ℕ → ℕ → ℕ
sums_from start all size zero = 0
sums_from start all size (suc n) = added (sums_from start all size n) (ones_sum_from start (part_at all size n))

-- what turns of receiving leave: the node, the memory, and the sum of what they answer
pub record Receiving : Type 0 where
  pub node : Node
  pub memory : List ℕ
  pub sum : ℕ

-- a datagram more, received on an interface at a time
unfoldable pub received_more : Receiving → List ℕ → ℕ → ℕ → Receiving
received_more before d interface time =
    let receipt : Receipt = receive_of before.node First d interface time before.memory in
    record {
      node = receipt.node;
      memory = receive_memory before.node First d interface time before.memory;
      sum = added before.sum (received_worth receipt.answer);
    }

-- what the datagrams of the first n turns leave
abbrev pub received_many : Node → List ℕ → ℕ → ℕ → ℕ → List ℕ → ℕ → Receiving
received_many node all size interface time memory zero = record { node = node; memory = memory; sum = 0 }
received_many node all size interface time memory (suc n) =
    received_more (received_many node all size interface time memory n) (part_at all size n) interface time

module _ (node : Node) (all : List ℕ) (size : ℕ) (hop : List ℕ) (k time : ℕ) where
  -- the node after n packets
  abbrev pub after_sending : ℕ → ℕ → Node
  after_sending room zero = node
  after_sending room (suc n) = (send_of (after_sending room n) First (part_at all size n) hop k time room).node

  -- what n packets answer
  abbrev pub sent_many : ℕ → ℕ → ℕ
  sent_many room zero = 0
  sent_many room (suc n) = added (sent_many room n) (sent_worth (send_of (after_sending room n) First (part_at all size n) hop k time room).answer)

  -- what they leave in the output
  abbrev pub sent_many_output : List ℕ → ℕ → List ℕ
  sent_many_output out zero = out
  sent_many_output out (suc n) = send_output (after_sending (length out) n) First (part_at all size n) hop k time (sent_many_output out n)

-- the neighbours first, first + 1, ..: the one at i; addresses wrap
abbrev pub neighbour_at : ℕ → ℕ → ℕ
neighbour_at first i = (first + i) % 2 ^ 32

-- the sum of the sizes in force toward n neighbours from `first` on
abbrev pub sizes_toward : PathTable → ℕ → ℕ → ℕ → ℕ → ℕ
sizes_toward table link first now zero = 0
sizes_toward table link first now (suc n) = sizes_toward table link first now n + in_force link (kept_in table (neighbour_at first n) now)
