-- Where a piece comes to the collection of the service one place is stored, and the answer is judged by the service that is left.
use Rattle.std.specs.Prelude.{Ok, false}
use Rattle.std.proofs.Common.{rules, ◌≡◌, ◌∙◌}
use Rattle.bogtrumpet.specs.Answers.{plain_received}
use Rattle.routers.specs.Routers.{live}
use Rattle.node.specs.Node.{service_of}
use Rattle.node.specs.declared.Service.{Service}
use Rattle.bogtrumpet.specs.Gathered.{plain_judged, judged_step, gathered_after}
use Rattle.bogtrumpet.specs.Numbered.{name_of}
use Rattle.bogtrumpet.specs.declared.steps.GatheredStep.{GatheredStep}
use Rattle.bogtrumpet.specs.declared.steps.PlainStage.{PlainStage}
use Rattle.bogtrumpet.proofs.Same.{received-same}
use Rattle.bogtrumpet.proofs.bogtrumpet_receive.Goals as goal
use Rattle.bogtrumpet.proofs.bogtrumpet_receive.Goals.{in-Some, in_default, in-Open, in-Passed, in-Refused}

-- what is read, judged by a service
staged : (n : Service) (z : GatheredStep) (y : PlainStage) → z.stage ≡ y → plain_judged n.settings (live n.routers) y ≡ judged_step n z
unfolding judged_step
staged n z y e = rw e

pub returns : goal.returns
returns c =
    let a = c.args in
    let h = a.node.now in
    let step = c.gathered-step.result in
    let told = rw c.named-named.ensures.value at c.gathered-step.ensures.0 in
    let stored = rw c.named-named.ensures.value at c.gathered-step.ensures.1 in
    let s = received-same h a.service a.datagram.now a.interface a.time a.memory.now step told in
    let left = c.match-step.named in
    let after : left ≡ gathered_after (service_of h (name_of a.service)) step =
    elim c.match-step.branch [
      | in-Some b ↦ rw (b.named-is, b.in-Some.is, c.named-named.ensures.value)
      | in_default b ↦ rw (b.named-is, b.in_default.is, c.named-named.ensures.value)
    ] in
    elim c.match-step-2.branch [
      | in-Open w ↦ (w.answer-is ∙ w.judged-answer.ensures ∙ staged left step _ w.in-Open.is ∙ rw after s.0, rw (w.node-is, after, told.at-time) s.1, stored ∙ s.2)
      | in-Passed w ↦ let said : w.plain_received-answer.result ≡ plain_received (Ok w.in-Passed.received) = search rules in
          (w.answer-is ∙ said ∙ staged left step _ w.in-Passed.is ∙ rw after s.0, rw (w.node-is, after, told.at-time) s.1, stored ∙ s.2)
      | in-Refused w ↦ let said : w.refused-answer.result ≡ record { number = w.in-Refused.number; joined = false; offset = 0; length = 0 } = search rules in
          (w.answer-is ∙ said ∙ staged left step _ w.in-Refused.is ∙ rw after s.0, rw (w.node-is, after, told.at-time) s.1, stored ∙ s.2)
    ]
