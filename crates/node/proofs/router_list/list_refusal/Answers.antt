-- `node::router_list::list_refusal` meets its contract: by cases.
use Rattle.node.proofs.router_list.list_refusal.Goals as goal

pub returns-then-there : goal.returns-then-there
returns-then-there c = rw c.if-there.true

pub returns-else-there : goal.returns-else-there
returns-else-there c = rw c.if-there.false
