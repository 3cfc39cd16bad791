-- `sending::send` meets its contract: the plan is made, and carried out.
use Rattle.sending.specs.Sending.{sent_of, sent_output}
use Rattle.sending.proofs.send.Goals as goal

pub returns : goal.returns
unfolding sent_of sent_output
returns c = let p = c.send_plan-plan.ensures in
    record {
      value = rw (c.identification_after.ensures, c.carry_out-answer.ensures.value, p);
      out_after = rw p at c.carry_out-answer.ensures.out_after;
    }
