-- `input::section::locators` meets its contract: the records read so far stand in front.
use mathlib.Core.Path.{◌≡◌}
use lib.ListN.{length}
use Rattle.settings.specs.Locators.{no_locator}
use Rattle.input.specs.Section.{locator_bytes, locator_of}
use Rattle.input.proofs.Records.{filled_to}
use Rattle.input.proofs.section.locators.Given as goal

abbrev pub invariant-loop-i : goal.invariant-loop-i
invariant-loop-i l = (length l.all ≡ 8) × (l.all ≡ filled_to locator_of no_locator locator_bytes 8 l.s l.i)
