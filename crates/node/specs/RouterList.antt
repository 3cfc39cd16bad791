-- The call with a new router list (R2.13): answer and next node.
use Rattle.std.specs.Prelude.{ℕ, max, Bool, cond, ◌&&◌, List, [], Result, Ok, Err}
use Rattle.refusals.specs.Given.{Given, answered, refused}
use Rattle.refusals.specs.declared.Refusal.{Refusal}
use Rattle.refusals.specs.declared.Refusal.TheVariants as refusal
use Rattle.routers.specs.Routers.{replaced_of}
use Rattle.routers.specs.declared.RouterList.{RouterList}
use Rattle.settings.specs.Settings.{are_routers_right}
use Rattle.node.specs.Node.{service_of, has_service, node_with}
use Rattle.node.specs.declared.Node.{Node}
use Rattle.node.specs.declared.Service.{Service}
use Rattle.node.specs.declared.ServiceName.{ServiceName}
use Rattle.node.specs.declared.router_list.ListStep as step
use Rattle.node.specs.declared.router_list.Replaced as replaced

-- the number (R4): a list that is taken has no values
abbrev pub list_given : Result Unit Refusal → Given
list_given (Ok tt) = answered []
list_given (Err r) = refused r

-- the service with another router list
abbrev pub with_routers : Service → RouterList → Service
with_routers service routers = record { settings = service.settings; routers = routers; pieces = service.pieces; identification = service.identification }

-- the number of a list that is not taken: 11 where the node has no such service, else 1
abbrev pub list_refusal : Bool → Refusal
list_refusal there = cond there refusal.Settings refusal.NoLocator

-- what a service makes of a new list, now: 11 where it is not there, 1 where the list breaks the rules; else a router in both lists keeps its due time, a new one is due now
abbrev pub replaced_by : Bool → Service → ℕ → List ℕ → ℕ → step.ListStep
replaced_by there service now addresses count =
    cond (there && are_routers_right service.settings addresses count)
    (record { answer = Ok tt; routers = replaced_of addresses count now service.routers })
    (record { answer = Err (list_refusal there); routers = service.routers })

-- the answer and the next node, whose service has the list in force afterwards
unfoldable pub replace_of : Node → ServiceName → List ℕ → ℕ → ℕ → replaced.Replaced
replace_of node name addresses count time =
    let done : step.ListStep = replaced_by (has_service node name) (service_of node name) (max node.latest time) addresses count in
    record { answer = done.answer; node = node_with node name (with_routers (service_of node name) done.routers) time }
