-- `reports::other_message` meets its contract: each call gives its part of the test.
use borrow.Author.Tests.{lt-ltb, le-ltb}
use Rattle.reports.specs.Reading.{is_other_message}
use Rattle.reports.proofs.other_message.Goals as goal

pub returns-then-message-lt-LEAST_MESSAGE : goal.returns-then-message-lt-LEAST_MESSAGE
unfolding is_other_message
returns-then-message-lt-LEAST_MESSAGE c = simp (lt-ltb _ _ c.if-message-lt-LEAST_MESSAGE.true)

pub returns : goal.returns
unfolding is_other_message
returns c = rw (le-ltb _ _ c.if-message-lt-LEAST_MESSAGE.false, c.byte-code.ensures, c.byte-kind.ensures)
