-- The first options stand one behind another, up to `at`.
use Prim.Native.Nat.{◌+◌, ◌*◌, ◌≤◌}
use mathlib.Core.Path.{◌≡◌}
use mathlib.Core.List.{map, flatten}
use lib.ListN.{take, drop, length}
use Rattle.lent.specs.Written.{written}
use Rattle.advertisements.specs.Options.{route_option}
use Rattle.advertisements.specs.Advertisement.{routes_length}
use Rattle.advertisements.proofs.write_routes.Given as goal

abbrev pub invariant-loop-r : goal.invariant-loop-r
invariant-loop-r l = (length l.out ≡ length l.initial.out) × (length (flatten (map route_option (take l.r-index l.routes))) ≡ l.at)
    × (l.at + routes_length (drop l.r-index l.routes) ≡ routes_length l.routes) × (l.at ≤ l.r-index * 24)
    × (l.out ≡ written (flatten (map route_option (take l.r-index l.routes))) l.initial.out)
