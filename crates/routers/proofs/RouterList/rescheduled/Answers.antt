-- `routers::RouterList::rescheduled`: by the row of due times.
--
use Rattle.routers.proofs.RouterList.rescheduled.Goals as goal

pub returns : goal.returns
returns c = rw c.dues_after-next.ensures
