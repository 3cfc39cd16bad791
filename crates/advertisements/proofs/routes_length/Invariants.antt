-- The sum so far and the bytes of the routes left are the whole.
use Prim.Native.Nat.{◌+◌, ◌*◌, ◌≤◌}
use mathlib.Core.Path.{◌≡◌}
use lib.ListN.{drop}
use Rattle.advertisements.specs.Advertisement.{routes_length}
use Rattle.advertisements.proofs.routes_length.Given as goal

abbrev pub invariant-loop-r : goal.invariant-loop-r
invariant-loop-r l = (l.sum ≤ l.r-index * 24) × (l.sum + routes_length (drop l.r-index l.routes) ≡ routes_length l.routes)
