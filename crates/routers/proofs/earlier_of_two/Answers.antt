-- `routers::earlier_of_two`: by its test.
--
use borrow.Author.Tests.{lt-ltb, le-ltb}
use Rattle.routers.specs.Routers.{earlier_of}
use Rattle.routers.proofs.earlier_of_two.Goals as goal

pub returns-then-second-first : goal.returns-then-second-first
unfolding earlier_of
returns-then-second-first c = rw (lt-ltb _ _ c.if-second-first.true)

pub returns-else-second-first : goal.returns-else-second-first
unfolding earlier_of
returns-else-second-first c = rw (le-ltb _ _ c.if-second-first.false)
