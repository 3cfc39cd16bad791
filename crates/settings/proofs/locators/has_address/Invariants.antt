-- `settings::locators::has_address` meets its contract: none of the locators passed fits, so what is left to ask is the rest of them.
use Prim.Native.Nat.{min}
use mathlib.Core.Path.{◌≡◌}
use lib.ListN.{take, drop}
use Rattle.lists.specs.Any.{any_of}
use Rattle.settings.specs.Locators.{is_at}
use Rattle.settings.proofs.locators.has_address.Given as goal

abbrev pub invariant-loop-i : goal.invariant-loop-i
invariant-loop-i l = any_of (is_at l.a) (take l.count l.all) ≡ any_of (is_at l.a) (drop l.i (take (min l.count 8) l.all))
