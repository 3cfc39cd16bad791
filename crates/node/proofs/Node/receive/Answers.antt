-- `node::Node::receive` meets its contract: what is gathered is judged, and the one place that it changes is stored; or 11.
use Rattle.std.specs.Prelude.{Result, Err}
use Prim.Native.Nat.{ℕ, max}
use mathlib.Core.Bool.{Bool, true, false}
use mathlib.Core.List.{List}
use mathlib.Core.Path.{◌≡◌}
use Rattle.pieces.specs.Take.{with_place}
use Rattle.pieces.specs.declared.Place.{Place}
use Rattle.receiving.specs.Collect.{Collected, collected_of, collected_memory}
use Rattle.receiving.specs.Stages.{collected_after}
use Rattle.receiving.specs.declared.Received.{Received}
use Rattle.refusals.specs.declared.Refusal.{Refusal}
use Rattle.refusals.specs.declared.Refusal.TheVariants.{NoLocator}
use Rattle.routers.specs.Routers.{live}
use Rattle.node.specs.Node.{service_of, has_service, node_with}
use Rattle.node.specs.Receive.{with_pieces, collected_by, collected_through, receive_of, receive_memory}
use Rattle.node.specs.declared.Node.{Node}
use Rattle.node.specs.declared.Service.{Service}
use Rattle.node.specs.declared.ServiceName.{ServiceName}
use Rattle.node.specs.declared.receive.Receipt.{Receipt}
use Rattle.node.proofs.Node.receive.Goals as goal
use Rattle.node.proofs.Node.receive.Goals.{in-Some, in_default}

-- the call, by whether the node has the service
module _ (n : Node) (name : ServiceName) (d : List ℕ) (interface time : ℕ) (memory : List ℕ) (has : Bool) (s : Service) (is : has ≡ has_service n name) (same : s ≡ service_of n name) where
  present : has ≡ true → (a : Result Received Refusal) (s' : Service) {c : Collected}
      → s' ≡ with_pieces s c.pieces → a ≡ c.answer → c ≡ collected_of s.settings (live s.routers) s.pieces (max n.latest time) d interface memory
      → ◌≡◌ {A = Receipt} (record { answer = a; node = node_with n name s' time }) (receive_of n name d interface time memory)
  unfolding receive_of collected_by
  present there a s' {c} after answer e = rw (← is, there, ← same, after, answer, e)

  present-memory : has ≡ true → collected_memory s.settings s.pieces (max n.latest time) d interface memory ≡ receive_memory n name d interface time memory
  unfolding receive_memory collected_through
  present-memory there = rw (← is, there, ← same)

  absent : has ≡ false → ◌≡◌ {A = Receipt} (record { answer = Err NoLocator; node = node_with n name s time }) (receive_of n name d interface time memory)
  unfolding receive_of collected_by
  absent none = rw (← is, none, ← same)

  absent-memory : has ≡ false → memory ≡ receive_memory n name d interface time memory
  unfolding receive_memory collected_through
  absent-memory none = rw (← is, none)

pub returns-then-has : goal.returns-then-has
returns-then-has c = let s = c.service-service in
    let a = c.args in
    let g = c.gather-gathered.result in
    let service : c.match-gathered.service ≡ with_pieces s.result (collected_after g.stored s.result.pieces) =
    elim c.match-gathered.branch [
      | in-Some w ↦ rw (w.service-is, w.in-Some.is)
      | in_default w ↦ rw (w.service-is, w.in_default.is)
    ] in
    let told = rw c.max-now.ensures at (c.gather-gathered.ensures.judged (live s.result.routers)) in
    let has = c.has in record {
      value = rw c.put_back-node.ensures.value
          (present a.self a.name a.d.now a.interface a.time a.memory.now has.result s.result has.ensures s.ensures c.if-has.true c.judge-answer.result c.match-gathered.service service c.judge-answer.ensures told);
      memory_after = rw (c.gather-gathered.ensures.memory_after, c.max-now.ensures)
          (present-memory a.self a.name a.d.now a.interface a.time a.memory.now has.result s.result has.ensures s.ensures c.if-has.true);
    }

pub returns : goal.returns
returns c = let s = c.service-service in
    let a = c.args in
    let has = c.has in record {
      value = rw c.put_back-node-2.ensures.value
          (absent a.self a.name a.d.now a.interface a.time a.memory.now has.result s.result has.ensures s.ensures c.if-has.false);
      memory_after = absent-memory a.self a.name a.d.now a.interface a.time a.memory.now has.result s.result has.ensures s.ensures c.if-has.false;
    }
