-- Sending on a node (R7): answer, next node and output, by the service's path size in force toward the tunnel end.
use Rattle.std.specs.Prelude.{ℕ, max, Bool, cond, List}
use Rattle.refusals.specs.declared.Refusal.TheVariants.{NoLocator}
use Rattle.address.specs.Address.{last_quad}
use Rattle.sending.specs.Sending.{sent_of, sent_output}
use Rattle.sending.specs.declared.Sent as sending
use Rattle.sending.specs.declared.SendAnswer.TheVariants.{Refused}
use Rattle.node.specs.Node.{service_of, has_service, node_with, path_size_at}
use Rattle.node.specs.declared.Node.{Node}
use Rattle.node.specs.declared.Service.{Service}
use Rattle.node.specs.declared.ServiceName.{ServiceName}
use Rattle.node.specs.declared.send.Sent.{Sent}

-- the size toward the tunnel end, the last 32 bits of the next hop
abbrev pub path_size_toward : Node → ServiceName → List ℕ → ℕ → ℕ
path_size_toward node name hop time = path_size_at node name (last_quad hop) (max node.latest time)

-- the service with another identification for the next packet
abbrev pub with_identification : Service → ℕ → Service
with_identification service identification =
    record { settings = service.settings; routers = service.routers; pieces = service.pieces; identification = identification }

-- what a service makes of it, over a path of size P; 11 where it is not there
unfoldable pub sent_by : Bool → Service → ℕ → List ℕ → List ℕ → ℕ → ℕ → sending.Sent
sent_by there service P packet hop k room =
    cond there (sent_of service.settings service.identification P packet hop k room)
    (record { answer = Refused NoLocator; identification = service.identification })

-- what stands in the lent output afterwards
unfoldable pub sent_through : Bool → Service → ℕ → List ℕ → List ℕ → ℕ → List ℕ → List ℕ
sent_through there service P packet hop k out = cond there (sent_output service.settings service.identification P packet hop k out) out

-- the answer and the next node, whose service has the identification that the sending leaves
unfoldable pub send_of : Node → ServiceName → List ℕ → List ℕ → ℕ → ℕ → ℕ → Sent
send_of node name packet hop k time room =
    let sent : sending.Sent = sent_by (has_service node name) (service_of node name) (path_size_toward node name hop time) packet hop k room in
    record { answer = sent.answer; node = node_with node name (with_identification (service_of node name) sent.identification) time }

-- the output of the call
unfoldable pub send_output : Node → ServiceName → List ℕ → List ℕ → ℕ → ℕ → List ℕ → List ℕ
send_output node name packet hop k time out =
    sent_through (has_service node name) (service_of node name) (path_size_toward node name hop time) packet hop k out
