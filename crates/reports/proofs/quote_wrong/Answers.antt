-- `reports::quote_wrong` meets its contract: each call gives its part of the test.
use Rattle.reports.specs.Reading.{is_quote_wrong}
use Rattle.reports.proofs.quote_wrong.Goals as goal

pub returns-then-quote_malformed : goal.returns-then-quote_malformed
unfolding is_quote_wrong
returns-then-quote_malformed c = simp (← c.quote-quote.ensures, ← c.quote_malformed.ensures, c.if-quote_malformed.true)

pub returns : goal.returns
unfolding is_quote_wrong
returns c = simp (← c.quote-quote.ensures, ← c.quote_malformed.ensures, c.if-quote_malformed.false, c.right.ensures)
