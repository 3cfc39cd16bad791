-- `receiving::judging::judge` meets its contract: by whether anything is to be judged, and by the check.
use Rattle.std.proofs.Common.{rules}
use Rattle.receiving.specs.Stages.{judged_of}
use Rattle.receiving.proofs.judging.judge.Goals as goal

pub returns-in_err-check_inner : goal.returns-in_err-check_inner
unfolding judged_of
returns-in_err-check_inner c = search rules

pub returns-in_ok-check_inner : goal.returns-in_ok-check_inner
unfolding judged_of
returns-in_ok-check_inner c = search rules

pub returns-in_default : goal.returns-in_default
unfolding judged_of
returns-in_default c = search rules
