-- `receiving::judging::check_inner` meets its contract: at each return the tests that led there say which row holds.
use Rattle.receiving.specs.Stages.{inner_check}
use Rattle.receiving.proofs.judging.check_inner.Goals as goal

pub returns-then-malformed : goal.returns-then-malformed
unfolding inner_check
returns-then-malformed c = simp (← c.malformed.ensures, c.if-malformed.true)

pub returns-then-source_bad : goal.returns-then-source_bad
unfolding inner_check
returns-then-source_bad c = simp (← c.malformed.ensures, c.if-malformed.false, ← c.source_bad.ensures, c.if-source_bad.true)

pub returns-then-not-source_right : goal.returns-then-not-source_right
unfolding inner_check
returns-then-not-source_right c = simp (← c.malformed.ensures, c.if-malformed.false, ← c.source_bad.ensures, c.if-source_bad.false, ← c.source_right.ensures, c.if-not-source_right.true)

pub returns : goal.returns
unfolding inner_check
returns c = simp (← c.malformed.ensures, c.if-malformed.false, ← c.source_bad.ensures, c.if-source_bad.false, ← c.source_right.ensures, c.if-not-source_right.false)
