-- Asking on a node (R13): answer, next node and output.
use Rattle.std.specs.Prelude.{ℕ, max, Bool, cond, List, Err}
use Rattle.refusals.specs.declared.Refusal.TheVariants.{NoLocator}
use Rattle.asking.specs.Ask.{asked_of, asked_output}
use Rattle.asking.specs.declared.Asked as asking
use Rattle.node.specs.Node.{service_of, has_service, node_with}
use Rattle.node.specs.RouterList.{with_routers}
use Rattle.node.specs.declared.Node.{Node}
use Rattle.node.specs.declared.Service.{Service}
use Rattle.node.specs.declared.ServiceName.{ServiceName}
use Rattle.node.specs.declared.ask.Asked.{Asked}

-- what a service makes of it, now; 11 where it is not there
unfoldable pub asked_by : Bool → Service → ℕ → ℕ → ℕ → asking.Asked
asked_by there service now locator room =
    cond there (asked_of service.settings service.routers now locator room) (record { answer = Err NoLocator; routers = service.routers })

-- what stands in the lent output afterwards
unfoldable pub asked_through : Bool → Service → ℕ → ℕ → List ℕ → List ℕ
asked_through there service now locator out = cond there (asked_output service.settings service.routers now locator out) out

-- the answer and the next node, whose service has the router list that the asking leaves
unfoldable pub ask_of : Node → ServiceName → ℕ → ℕ → ℕ → Asked
ask_of node name locator time room =
    let asked : asking.Asked = asked_by (has_service node name) (service_of node name) (max node.latest time) locator room in
    record { answer = asked.answer; node = node_with node name (with_routers (service_of node name) asked.routers) time }

-- the output of the call
unfoldable pub ask_output : Node → ServiceName → ℕ → ℕ → List ℕ → List ℕ
ask_output node name locator time out = asked_through (has_service node name) (service_of node name) (max node.latest time) locator out
