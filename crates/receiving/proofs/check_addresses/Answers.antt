-- `receiving::check_addresses` meets its contract: at each return the tests that led there say which row holds.
use Rattle.receiving.specs.Stages.{address_check}
use Rattle.receiving.proofs.check_addresses.Goals as goal

pub returns-then-not-our_locator : goal.returns-then-not-our_locator
unfolding address_check
returns-then-not-our_locator c = simp (← c.our_locator.ensures, c.if-not-our_locator.true)

pub returns-then-forbidden_to : goal.returns-then-forbidden_to
unfolding address_check
returns-then-forbidden_to c = simp (← c.our_locator.ensures, c.if-not-our_locator.false, ← c.forbidden_to.ensures, c.if-forbidden_to.true)

pub returns : goal.returns
unfolding address_check
returns c = simp (← c.our_locator.ensures, c.if-not-our_locator.false, ← c.forbidden_to.ensures, c.if-forbidden_to.false)
