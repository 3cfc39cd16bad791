-- `input::section::locators` meets its contract: the records read so far stand in front.
use mathlib.Core.Path.{refl}
use native.Mathlib.Omega.{arith}
use lib.ListN.{length-set}
use Rattle.settings.specs.Locators.{no_locator}
use Rattle.input.specs.Section.{locator_bytes, locator_of, locators_in}
use Rattle.input.proofs.Records.{fill_turn, fill_end}
use Rattle.input.proofs.section.locators.Goals as goal

pub loop-i-init : goal.loop-i-init
loop-i-init c = (refl, refl)

pub loop-i-preserved : goal.loop-i-preserved
loop-i-preserved c = let l = c.loop-i in
    let s = c.args.s.now in (
      rw length-set l.invariant.0,
      fill_turn locator_of no_locator locator_bytes 8 s l.all l.i c.locator.result (omega arith) (omega arith) l.invariant.1 (rw c.record_at.ensures at c.locator.ensures),
    )

pub returns : goal.returns
unfolding locators_in
returns c = let l = c.loop-i in
    fill_end locator_of no_locator locator_bytes 8 c.args.s.now l.all l.i (omega arith) l.invariant.1
