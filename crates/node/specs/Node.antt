-- The node: its services, how it is made, its latest time and its sizes.
use Rattle.refusals.specs.declared.Refusal.{Refusal}
use Rattle.std.specs.Prelude.{ℕ, max, Bool, true, cond, [], ltb, replicate, Result, Ok, Err}
use Rattle.paths.specs.Kept.{in_force}
use Rattle.paths.specs.Table.{no_reports, kept_in}
use Rattle.paths.specs.declared.PathTable.{PathTable}
use Rattle.pieces.specs.Take.{no_datagrams}
use Rattle.refusals.specs.Given.{Given, answered, refused}
use Rattle.refusals.specs.declared.Refusal.TheVariants as refusal
use Rattle.routers.specs.Routers.{new_of}
use Rattle.settings.specs.Locators.{no_locator}
use Rattle.settings.specs.Settings.{is_accepted, are_pair_accepted}
use Rattle.settings.specs.declared.Settings.{Settings}
use Rattle.node.specs.declared.Node.{Node}
use Rattle.node.specs.declared.Service.{Service}
use Rattle.node.specs.declared.ServiceName.{ServiceName}
use Rattle.node.specs.declared.ServiceName.TheVariants.{First, Second}
use Rattle.node.specs.declared.Setup.{Setup}

-- of two things, the one of that service
abbrev pub pick : {A : Type 0} → ServiceName → A → A → A
pick First a b = a
pick Second a b = b

-- the service of that name
abbrev pub service_of : Node → ServiceName → Service
service_of node name = pick name node.first node.second

-- R26.4: the node has that service; the second only where it has both
abbrev pub has_service : Node → ServiceName → Bool
has_service node name = pick name true (ltb 0 node.both)

-- R2.12: at setup all routers are due at time 0, and nothing is collected
unfoldable pub service_from : Settings → Service
service_from s = record { settings = s; routers = new_of s.routers s.router_count; pieces = no_datagrams; identification = s.identification }

-- settings without a locator, a prefix or a router
abbrev pub no_settings : Settings
no_settings = record {
  locators = replicate 8 no_locator;
  locator_count = 0;
  prefixes = replicate 64 0;
  prefix_count = 0;
  routers = replicate 16 0;
  router_count = 0;
  link_size = 0;
  ttl = 0;
  interval = 0;
  identification = 0;
  reporting = replicate 16 0;
}

-- R26.1: a node of one service; the node keeps the latest time seen, 0 at setup (R1.10)
unfoldable pub node_of : Settings → Node
node_of s = record { first = service_from s; second = service_from no_settings; paths = no_reports; latest = 0; both = 0 }

-- R26.1: a node of two services
unfoldable pub pair_of : Settings → Settings → Node
pair_of a b = record { first = service_from a; second = service_from b; paths = no_reports; latest = 0; both = 1 }

-- the number (R4): a node that is made has no values
abbrev pub setup_given : Result Unit Refusal → Given
setup_given (Ok tt) = answered []
setup_given (Err r) = refused r

-- 1: the settings break the rules; refused settings make no state, and a node that has nothing of them stands in its place
unfoldable pub setup_of : Settings → Setup
setup_of s =
    cond (is_accepted s) (record { answer = Ok tt; node = node_of s }) (record { answer = Err refusal.Settings; node = node_of no_settings })

-- R26.2: likewise of two services' settings
unfoldable pub setup_pair_of : Settings → Settings → Setup
setup_pair_of a b =
    cond (are_pair_accepted a b) (record { answer = Ok tt; node = pair_of a b }) (record { answer = Err refusal.Settings; node = node_of no_settings })

-- the next node of a call with a time that names a service: the service as the call leaves it, and the latest time raised; an earlier one is
-- read as the latest (R1.10)
abbrev pub node_with : Node → ServiceName → Service → ℕ → Node
node_with node name service time = record {
  first = pick name service node.first;
  second = pick name node.second service;
  paths = node.paths;
  latest = max node.latest time;
  both = node.both;
}

-- the next node of a call with a time that leaves both services: the path sizes as the call leaves them, and the latest time raised
abbrev pub node_keeping : Node → PathTable → ℕ → Node
node_keeping node paths time =
    record { first = node.first; second = node.second; paths = paths; latest = max node.latest time; both = node.both }

-- what a call leaves that changes nothing but the latest time
unfoldable pub raised_to : Node → ℕ → Node
raised_to node time = node_keeping node node.paths time

-- R26.6: the size in force for a service toward a neighbour at a time
unfoldable pub path_size_at : Node → ServiceName → ℕ → ℕ → ℕ
path_size_at node name v now = in_force (service_of node name).settings.link_size (kept_in node.paths v now)
