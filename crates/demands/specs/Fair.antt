-- The fairness law of lists of calls on a node: with the list unchanged and no advertisement of its own accepted meanwhile, a due router is
-- served within as many answered askings as there are routers (R13.6).
use Rattle.std.specs.Prelude.{ℕ, ◌≤◌, max, ◌≡◌, true, length, take, Some}
use mathlib.Core.List.{List, [], ◌∷◌, ◌++◌, Memᴰ}
use Rattle.refusals.specs.Given.{Given, answered}
use Rattle.routers.specs.Routers.{live}
use Rattle.routers.specs.declared.Router.{Router}
use Rattle.settings.specs.declared.Settings.{Settings}
use Rattle.node.specs.Node.{service_of}
use Rattle.node.specs.declared.Node.{Node}
use Rattle.node.specs.declared.ServiceName.{ServiceName}
use Rattle.demands.specs.Starts.{Start, is_right, start_of, settings_of}
use Rattle.demands.specs.Calls.{NodeCall, outcome_of, OfRouters, an_asking, an_advertisement, a_list, not_of_routers, routers_of, view_of, node_after}

-- the router that an answered asking names; a refused one names none, and no other call serves one
abbrev pub serves : OfRouters → Given → List ℕ
serves an_asking g = g.values
serves an_advertisement g = []
serves a_list g = []
serves not_of_routers g = []

-- the routers of the service w that a list of calls serves, one for each answered asking
abbrev pub served_by : ServiceName → Node → List NodeCall → List ℕ
served_by w n [] = []
served_by w n (x ∷ xs) = serves (routers_of w x) (outcome_of n x).given ++ served_by w (outcome_of n x).node xs

-- the call takes no new router list, and accepts no advertisement of the router of address a
abbrev pub Quiet : ℕ → OfRouters → Given → Type 0
Quiet a an_asking g = Unit {0}
Quiet a an_advertisement g = g ≡ answered (a ∷ []) → ⊥
Quiet a a_list g = g.number ≡ 0 → ⊥
Quiet a not_of_routers g = Unit {0}

-- each call of a list is quiet, to the service w
abbrev pub AllQuiet : ServiceName → ℕ → Node → List NodeCall → Type 0
AllQuiet w a n [] = Unit {0}
AllQuiet w a n (x ∷ xs) = Quiet a (routers_of w x) (outcome_of n x).given × AllQuiet w a (outcome_of n x).node xs

-- a router r of the service w of the node n that is due by the time of the call x is served by x and the calls after it, within as many
-- answered askings of the service as it has routers
abbrev pub ServedSoon : ServiceName → Node → Router → NodeCall → List NodeCall → Type 0
ServedSoon w n r x xs =
    Memᴰ r (live (service_of n w).routers)
    → r.due ≤ max n.latest (view_of x).time
    → AllQuiet w r.address n (x ∷ xs)
    → length (live (service_of n w).routers) ≤ length (served_by w n (x ∷ xs))
    → Memᴰ r.address (take (length (live (service_of n w).routers)) (served_by w n (x ∷ xs)))

-- for all accepted settings, each of their services and all lists of calls, those before the router is due and those from then on
unfoldable pub FairNode : Type 0
FairNode =
    (s : Start) → is_right s ≡ true
    → (w : ServiceName) (t : Settings) → settings_of s w ≡ Some t
    → (before : List NodeCall) (r : Router) (x : NodeCall) (xs : List NodeCall) → ServedSoon w (node_after (start_of s) before) r x xs
