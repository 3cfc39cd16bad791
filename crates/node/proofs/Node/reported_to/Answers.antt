-- `node::Node::reported_to` meets its contract: by the quoted source.
use Rattle.node.specs.Report.{quotes_other, reported_to}
use Rattle.node.proofs.Node.reported_to.Goals as goal

pub returns-then-self-ours : goal.returns-then-self-ours
unfolding reported_to quotes_other
returns-then-self-ours c = simp (← c.quote.ensures, ← c.outer_header-quoted.ensures, ← c.ours-2.ensures, ← c.ours.ensures, c.if-self-ours.true)

pub returns-else-self-ours : goal.returns-else-self-ours
unfolding reported_to quotes_other
returns-else-self-ours c = simp (← c.quote.ensures, ← c.outer_header-quoted.ensures, ← c.ours-2.ensures, ← c.ours.ensures, c.if-self-ours.false)
