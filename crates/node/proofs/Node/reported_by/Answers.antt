-- `node::Node::reported_by` meets its contract: each call's result is put in its place.
use Rattle.node.specs.Report.{report_answer_of}
use Rattle.node.proofs.Node.reported_by.Goals as goal

pub returns : goal.returns
unfolding report_answer_of
returns c = rw (c.paths_after-paths.ensures, c.answer-answer.ensures, c.size_at-size.ensures, c.neighbour_in.ensures, c.judge-judged.ensures, c.service-service.ensures, c.reported_to-name.ensures)
