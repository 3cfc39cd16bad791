-- `receiving::collect::stage_of` meets its contract: by what came of the piece, and what is read then.
use Rattle.std.proofs.Common.{rules}
use Rattle.receiving.specs.Stages.{inner_check, judged_of}
use Rattle.receiving.proofs.collect.stage_of.Goals as goal

pub returns-in_err-read : goal.returns-in_err-read
unfolding inner_check
returns-in_err-read c s routers = search rules

pub returns : goal.returns
unfolding inner_check judged_of
returns c s routers = let e = c.in_ok-read.ensures in rw (c.in_ok-joined.was, e.0, e.1, c.bytes_at-payload.ensures)
