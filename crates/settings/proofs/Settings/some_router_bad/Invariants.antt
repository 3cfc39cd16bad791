-- `settings::Settings::some_router_bad` meets its contract: none of the routers passed is bad, so what is left to ask is the rest of them.
use Prim.Native.Nat.{min}
use mathlib.Core.Path.{◌≡◌}
use lib.ListN.{take, drop}
use Rattle.lists.specs.Any.{any_of}
use Rattle.settings.specs.Settings.{is_bad_end}
use Rattle.settings.proofs.Settings.some_router_bad.Given as goal

abbrev pub invariant-loop-i : goal.invariant-loop-i
invariant-loop-i l = any_of (is_bad_end l.self) (take l.count l.routers) ≡ any_of (is_bad_end l.self) (drop l.i (take (min l.count 16) l.routers))
