-- `node::router_list::replaced_by` meets its contract: the rules decide whether the list is taken.
use Rattle.std.specs.Prelude.{Ok, Err}
use mathlib.Core.Path.{ap}
use Rattle.node.proofs.router_list.replaced_by.Goals as goal

pub returns-then-there-routers_right : goal.returns-then-there-routers_right
returns-then-there-routers_right c = let r = c.routers_right.ensures in
    simp (← r, c.if-there-routers_right.true) (ap (λ x. record { answer = Ok tt; routers = x }) c.replaced-routers.ensures)

pub returns : goal.returns
returns c = let r = c.routers_right.ensures in
    simp (← r, c.if-there-routers_right.false) (ap (λ x. record { answer = Err x; routers = c.args.service.routers }) c.list_refusal.ensures)
