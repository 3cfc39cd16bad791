-- `node::send::sent_by` meets its contract: what the service makes of it, or 11.
use Rattle.node.specs.Send.{sent_by, sent_through}
use Rattle.node.proofs.send.sent_by.Goals as goal

pub returns-then-there : goal.returns-then-there
unfolding sent_by sent_through
returns-then-there c = let there = c.if-there.true in
    record {
      value = rw there c.send.ensures.value;
      out_after = rw there c.send.ensures.out_after;
    }

pub returns-else-there : goal.returns-else-there
unfolding sent_by sent_through
returns-else-there c = record {
  value = rw c.if-there.false;
  out_after = rw c.if-there.false;
}
