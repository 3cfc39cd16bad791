-- Of the node the next identification of the service and the latest time alone are changed.
use Rattle.std.proofs.Common.{refl}
use Rattle.bogtrumpet.specs.Steps.{sent_step}
use Rattle.bogtrumpet.proofs.send_over.Goals as goal

pub returns : goal.returns
unfolding sent_step
returns c =
    let written = rw c.named-named.ensures.value at c.sent-step.ensures.1 in
    rw (c.sent-step.ensures.0, c.named-named.ensures.value) (refl, refl, written)
