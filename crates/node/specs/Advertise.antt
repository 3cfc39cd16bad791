-- Answering a solicitation on a node (R22): answer and output; the node stays as it is.
use Rattle.refusals.specs.declared.Refusal.{Refusal}
use Rattle.std.specs.Prelude.{ℕ, Bool, cond, List, Result, Err}
use Rattle.refusals.specs.declared.Refusal.TheVariants.{NoLocator}
use Rattle.settings.specs.Settings.{locator_of}
use Rattle.advertisements.specs.declared.Advertisement.{Advertisement}
use Rattle.advertising.specs.Advertise.{advertised_of, advertised_output}
use Rattle.node.specs.Node.{service_of, has_service}
use Rattle.node.specs.declared.Node.{Node}
use Rattle.node.specs.declared.Service.{Service}
use Rattle.node.specs.declared.ServiceName.{ServiceName}

-- what a service makes of it: the length written, or the number; 11 where it is not there
abbrev pub advertised_by : Bool → Service → List ℕ → ℕ → Advertisement → ℕ → Result ℕ Refusal
advertised_by there service packet k a room = cond there (advertised_of (locator_of service.settings k) packet a room) (Err NoLocator)

-- what stands in the lent output afterwards
abbrev pub advertised_through : Bool → Service → List ℕ → ℕ → Advertisement → List ℕ → List ℕ
advertised_through there service packet k a out = cond there (advertised_output (locator_of service.settings k) packet a out) out

-- the answer of the call
unfoldable pub advertise_of : Node → ServiceName → List ℕ → ℕ → Advertisement → ℕ → Result ℕ Refusal
advertise_of node name packet k a room = advertised_by (has_service node name) (service_of node name) packet k a room

-- the output of the call
unfoldable pub advertise_output : Node → ServiceName → List ℕ → ℕ → Advertisement → List ℕ → List ℕ
advertise_output node name packet k a out = advertised_through (has_service node name) (service_of node name) packet k a out
