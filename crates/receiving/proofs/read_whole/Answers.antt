-- `receiving::read_whole` meets its contract: its payload is read.
use Rattle.std.proofs.Common.{rules}
use Rattle.receiving.specs.Stages.{opened_of, whole_opened, judged_of}
use Rattle.receiving.proofs.read_whole.Goals as goal

pub returns-in_err-read : goal.returns-in_err-read
unfolding whole_opened opened_of
returns-in_err-read c s routers = search rules

pub returns : goal.returns
unfolding whole_opened opened_of judged_of
returns c s routers = let e = c.in_ok-read.ensures in rw (e.0, e.1, c.payload-payload.ensures)
