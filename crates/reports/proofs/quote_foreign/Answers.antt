-- `reports::quote_foreign` meets its contract: each call gives its part of the test.
use Rattle.reports.specs.Report.{is_quote_foreign}
use Rattle.reports.proofs.quote_foreign.Goals as goal

pub returns : goal.returns
unfolding is_quote_foreign
returns c = rw (c.bad_end.ensures, c.ours.ensures)
