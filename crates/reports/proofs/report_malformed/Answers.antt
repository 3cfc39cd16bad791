-- `reports::report_malformed` meets its contract: its parts, in another order.
use Rattle.reports.proofs.ReadingLaws.{malformed_parts}
use Rattle.reports.proofs.report_malformed.Goals as goal

pub returns-then-other_message : goal.returns-then-other_message
returns-then-other_message c = rw (malformed_parts _ _) (simp (← c.other_message.ensures, c.if-other_message.true))

pub returns : goal.returns
returns c = rw (malformed_parts _ _) (simp (← c.other_message.ensures, c.if-other_message.false, c.quote_wrong.ensures))
