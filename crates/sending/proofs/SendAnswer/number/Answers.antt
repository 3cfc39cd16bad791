-- `sending::SendAnswer::number` meets its contract: by cases on the answer.
use Rattle.sending.proofs.SendAnswer.number.Goals as goal

pub returns-in-Wrapped : goal.returns-in-Wrapped
returns-in-Wrapped c = rw c.in-Wrapped.is

pub returns-in-TooBig : goal.returns-in-TooBig
returns-in-TooBig c = rw c.in-TooBig.is

pub returns-in-Refused : goal.returns-in-Refused
returns-in-Refused c = rw c.in-Refused.is c.number.ensures
