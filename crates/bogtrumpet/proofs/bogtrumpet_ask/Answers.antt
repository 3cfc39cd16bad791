-- Of the node the router list of the service and the latest time alone are changed.
use Rattle.std.proofs.Common.{◌≡◌, ap, ◌∙◌}
use Rattle.node.specs.Node.{service_of}
use Rattle.node.specs.RouterList.{with_routers}
use Rattle.node.specs.declared.Node.{Node}
use Rattle.bogtrumpet.specs.Lending.{with_service}
use Rattle.bogtrumpet.specs.Numbered.{name_of}
use Rattle.bogtrumpet.specs.Steps.{list_after}
use Rattle.bogtrumpet.proofs.Changed.{at-time}
use Rattle.bogtrumpet.proofs.Same.{asked-same}
use Rattle.bogtrumpet.proofs.bogtrumpet_ask.Goals as goal
use Rattle.bogtrumpet.proofs.bogtrumpet_ask.Goals.{in-Some, in_default}

pub returns : goal.returns
returns c =
    let a = c.args in
    let h = a.node.now in
    let w = name_of a.service in
    let z = c.asked-step.result in
    let s = asked-same h a.service a.locator a.time a.out.now z (rw c.named-named.ensures.value at c.asked-step.ensures.0) in
    let left : c.match-step.node ≡ with_service h w (with_routers (service_of h w) (list_after z.rescheduled (service_of h w).routers)) =
    elim c.match-step.branch [
      | in-Some b ↦ rw (b.node-is, b.in-Some.is, b.rescheduled-named.ensures, c.named-named.ensures.value)
      | in_default b ↦ rw (b.node-is, b.in_default.is, c.named-named.ensures.value)
    ] in
    let written = rw c.named-named.ensures.value at c.asked-step.ensures.1 in
    (s.0, ap (λ (n : Node). at-time n z.latest) left ∙ s.1, written ∙ s.2)
