-- What a list of calls starts from: the settings of a node's services (R26.8).
use Rattle.std.specs.Prelude.{Bool, Option, None, Some}
use Rattle.settings.specs.Settings.{is_accepted, are_pair_accepted}
use Rattle.settings.specs.declared.Settings.{Settings}
use Rattle.node.specs.Node.{pick, setup_of, setup_pair_of}
use Rattle.node.specs.declared.Node.{Node}
use Rattle.node.specs.declared.ServiceName.{ServiceName}

-- the settings of the first service, and of the second where there are two
pub record Start : Type 0 where
  pub first : Settings
  pub second : Option Settings

-- the settings are accepted, alone or as a pair
abbrev pub accepted_with : Settings → Option Settings → Bool
accepted_with a None = is_accepted a
accepted_with a (Some b) = are_pair_accepted a b

-- the settings of a start are accepted
abbrev pub is_right : Start → Bool
is_right s = accepted_with s.first s.second

-- the node that they make, alone or as a pair
abbrev pub made_with : Settings → Option Settings → Node
made_with a None = (setup_of a).node
made_with a (Some b) = (setup_pair_of a b).node

-- the node that they have just made
abbrev pub start_of : Start → Node
start_of s = made_with s.first s.second

-- the settings of a service, if there is one of that name
abbrev pub settings_of : Start → ServiceName → Option Settings
settings_of s w = pick w (Some s.first) s.second
