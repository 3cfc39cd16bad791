-- Demand 3, as one statement about a whole list of calls.
use Rattle.std.specs.Prelude.{ℕ, max, ◌≡◌, Bool, true, List, take, Some}
use Rattle.settings.specs.declared.Settings.{Settings}
use Rattle.paths.specs.Sender.{Bound}
use Rattle.node.specs.Node.{path_size_at}
use Rattle.node.specs.declared.ServiceName.{ServiceName}
use Rattle.demands.specs.Starts.{Start, is_right, start_of, settings_of}
use Rattle.demands.specs.Calls.{NodeCall, node_after}
use Rattle.demands.specs.Plain.{fresh_plain, raised, plain_size, plain_after, plain_run, run}
use Rattle.demands.specs.Sender.{node_events}

-- what demand 3 says of a list of calls on the node that the settings have just made
pub record Holds (s : Start) (calls : List NodeCall) : Type 0 where
  -- every report gets the record's answer, and every sending the answer of the rules for the record's size toward the tunnel
  -- end: 14, with the size it names, exactly as they say
  pub answers : run (start_of s) calls ≡ plain_run s fresh_plain calls
  -- for each service the node's size toward any neighbour v is the record's, before and after each of the calls and at whatever time
  -- the next one, a sending or a report, has
  pub sizes : (w : ServiceName) (t : Settings) → settings_of s w ≡ Some t → (k v time : ℕ)
      → path_size_at (node_after (start_of s) (take k calls)) w v (max (node_after (start_of s) (take k calls)).latest time)
      ≡ plain_size t (raised (plain_after s fresh_plain (take k calls)) time) v
  -- every sender, any choice of the sendings through the service w to v, that never offers more than the smallest size that a Too Big has
  -- named to it gets at most one Too Big more than there are accepted reports for v, of both services, since its first packet
  pub senders : (w : ServiceName) (choice : ℕ → Bool) (v : ℕ) → Bound (node_events w choice v (start_of s) calls)

-- for all accepted settings, of one service or of both, and all lists of calls, with any arguments, bytes and times, refused calls included
unfoldable pub DemandThree : Type 0
DemandThree = (s : Start) → is_right s ≡ true → (calls : List NodeCall) → Holds s calls
