-- `reports::report_check` meets its contract: at each return the tests that led there say which row holds.
use Rattle.reports.specs.Report.{report_check}
use Rattle.reports.proofs.report_check.Goals as goal

pub returns-then-report_malformed : goal.returns-then-report_malformed
unfolding report_check
returns-then-report_malformed c = simp (← c.report_malformed.ensures, c.if-report_malformed.true)

pub returns-then-quote_foreign : goal.returns-then-quote_foreign
unfolding report_check
returns-then-quote_foreign c = simp (← c.report_malformed.ensures, c.if-report_malformed.false, ← c.quote_foreign.ensures, c.if-quote_foreign.true)

pub returns : goal.returns
unfolding report_check
returns c = simp (← c.report_malformed.ensures, c.if-report_malformed.false, ← c.quote_foreign.ensures, c.if-quote_foreign.false)
