-- `reports::reading::read` meets its contract: at each return the tests that led there say which row holds.
use Rattle.reports.specs.Reading.{reading_of}
use Rattle.reports.proofs.reading.read.Goals as goal

pub returns-then-other_message : goal.returns-then-other_message
unfolding reading_of
returns-then-other_message c = simp (← c.other_message.ensures, c.if-other_message.true)

pub returns-then-quote_wrong : goal.returns-then-quote_wrong
unfolding reading_of
returns-then-quote_wrong c = simp (← c.quote.ensures, ← c.outer_header-quoted.ensures, ← c.other_message.ensures, c.if-other_message.false, ← c.quote_wrong.ensures, c.if-quote_wrong.true)

pub returns-then-never_ours : goal.returns-then-never_ours
unfolding reading_of
returns-then-never_ours c = simp (← c.quote.ensures, ← c.outer_header-quoted.ensures, ← c.other_message.ensures, c.if-other_message.false, ← c.quote_wrong.ensures, c.if-quote_wrong.false, ← c.never_ours.ensures, c.if-never_ours.true)

pub returns : goal.returns
unfolding reading_of
returns c = simp (← c.quote.ensures, ← c.outer_header-quoted.ensures, ← c.other_message.ensures, c.if-other_message.false, ← c.quote_wrong.ensures, c.if-quote_wrong.false, ← c.never_ours.ensures, c.if-never_ours.false, c.candidate_for.ensures)
