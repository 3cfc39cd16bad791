-- `input::section::routers` meets its contract: the records read so far stand in front.
use mathlib.Core.Path.{◌≡◌}
use lib.ListN.{length}
use Rattle.input.specs.Section.{router_bytes, router_of}
use Rattle.input.proofs.Records.{filled_to}
use Rattle.input.proofs.section.routers.Given as goal

abbrev pub invariant-loop-i : goal.invariant-loop-i
invariant-loop-i l = (length l.all ≡ 16) × (l.all ≡ filled_to router_of 0 router_bytes 16 l.s l.i)
