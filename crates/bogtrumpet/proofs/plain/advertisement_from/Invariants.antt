-- After i turns as many prefixes are converted as there are, and routes for the rest.
use Rattle.std.proofs.Common.{◌-◌, ◌≤◌, min}
use Rattle.bogtrumpet.specs.Plain.{prefix_from, no_prefix, route_from, no_route}
use Rattle.bogtrumpet.proofs.Firsts.{Firsts}
use Rattle.bogtrumpet.proofs.plain.advertisement_from.Given as goal

abbrev pub invariant-loop-i : goal.invariant-loop-i
invariant-loop-i l =
    (l.i ≤ l.n)
    × Firsts prefix_from no_prefix l.given_prefixes (min l.i l.p) l.prefixes
    × Firsts route_from no_route l.given_routes (l.i - l.p) l.routes
