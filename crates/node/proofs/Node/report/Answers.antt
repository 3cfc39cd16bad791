-- `node::Node::report` meets its contract: the path table and the latest time are put in their places.
use Rattle.node.specs.Report.{report_of}
use Rattle.node.proofs.Node.report.Goals as goal

pub returns : goal.returns
unfolding report_of
returns c = rw (c.reported_by-step.ensures, c.max-latest.ensures)
