-- A router advertisement on a node (R15): answer and next node.
use Rattle.std.specs.Prelude.{ℕ, max, Bool, cond, List, Err}
use Rattle.refusals.specs.declared.Refusal.TheVariants.{NoLocator}
use Rattle.hearing.specs.Heard.{heard_of}
use Rattle.hearing.specs.declared.Heard as hearing
use Rattle.node.specs.Node.{service_of, has_service, node_with}
use Rattle.node.specs.RouterList.{with_routers}
use Rattle.node.specs.declared.Node.{Node}
use Rattle.node.specs.declared.Service.{Service}
use Rattle.node.specs.declared.ServiceName.{ServiceName}
use Rattle.node.specs.declared.hear.Heard.{Heard}

-- what a service makes of it, now; 11 where it is not there
unfoldable pub heard_by : Bool → Service → ℕ → List ℕ → hearing.Heard
heard_by there service now packet =
    cond there (heard_of service.settings service.routers now packet) (record { answer = Err NoLocator; routers = service.routers })

-- the answer and the next node, whose service has the router list that the advertisement leaves
unfoldable pub hear_of : Node → ServiceName → List ℕ → ℕ → Heard
hear_of node name packet time =
    let heard : hearing.Heard = heard_by (has_service node name) (service_of node name) (max node.latest time) packet in
    record { answer = heard.answer; node = node_with node name (with_routers (service_of node name) heard.routers) time }
