-- `reports::candidate_for` meets its contract: each call gives its part.
use Rattle.reports.specs.Report.{candidate_for}
use Rattle.reports.proofs.candidate_for.Goals as goal

pub returns : goal.returns
unfolding candidate_for
returns c = rw (c.candidate.ensures, c.word-total.ensures, c.quote.ensures, c.word-size.ensures)
