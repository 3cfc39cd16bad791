-- Receiving on a node (R5, R23): with the settings and the router list of the service that are now in force.
use Rattle.std.specs.Prelude.{ℕ, max, Bool, cond, List, [], Err}
use Rattle.refusals.specs.declared.Refusal.TheVariants.{NoLocator}
use Rattle.routers.specs.Routers.{live}
use Rattle.pieces.specs.declared.Collection.{Collection}
use Rattle.receiving.specs.Collect.{Collected, collected_of, collected_memory}
use Rattle.receiving.specs.Receive.{received_of, part_of}
use Rattle.node.specs.Node.{service_of, has_service, node_with}
use Rattle.node.specs.declared.Node.{Node}
use Rattle.node.specs.declared.Service.{Service}
use Rattle.node.specs.declared.ServiceName.{ServiceName}
use Rattle.node.specs.declared.receive.Receipt.{Receipt}

-- the service with another collection
abbrev pub with_pieces : Service → Collection → Service
with_pieces service pieces =
    record { settings = service.settings; routers = service.routers; pieces = pieces; identification = service.identification }

-- what a service makes of a datagram, now; 11 where it is not there
unfoldable pub collected_by : Bool → Service → ℕ → List ℕ → ℕ → List ℕ → Collected
collected_by there service now d interface memory =
    cond there (collected_of service.settings (live service.routers) service.pieces now d interface memory)
    (record { answer = Err NoLocator; pieces = service.pieces })

-- what then stands in the lent memory
unfoldable pub collected_through : Bool → Service → ℕ → List ℕ → ℕ → List ℕ → List ℕ
collected_through there service now d interface memory =
    cond there (collected_memory service.settings service.pieces now d interface memory) memory

-- the call for the number: the answer and the next node, whose service has what is collected then
unfoldable pub receive_of : Node → ServiceName → List ℕ → ℕ → ℕ → List ℕ → Receipt
receive_of node name d interface time memory =
    let collected : Collected = collected_by (has_service node name) (service_of node name) (max node.latest time) d interface memory in
    record { answer = collected.answer; node = node_with node name (with_pieces (service_of node name) collected.pieces) time }

-- the memory after the call
unfoldable pub receive_memory : Node → ServiceName → List ℕ → ℕ → ℕ → List ℕ → List ℕ
receive_memory node name d interface time memory =
    collected_through (has_service node name) (service_of node name) (max node.latest time) d interface memory

-- the call for the part: of a whole datagram that 2 to 10 admit; empty where the node has no such service
unfoldable pub part_in : Node → ServiceName → List ℕ → ℕ → List ℕ
part_in node name d interface =
    cond (has_service node name)
    (part_of (received_of (service_of node name).settings (live (service_of node name).routers) d interface) d)
    []
