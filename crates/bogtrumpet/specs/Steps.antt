-- What a function of `steps` answers: the plain answer, and what is changed of the node.
use Rattle.std.specs.Prelude.{ℕ, max, ◌≡◌, Bool, cond, List, Option, Some, None, Ok, Err}
use Rattle.routers.specs.Routers.{rescheduled_of}
use Rattle.routers.specs.declared.Router.{Router}
use Rattle.routers.specs.declared.RouterList.{RouterList}
use Rattle.node.specs.Ask.{asked_by}
use Rattle.node.specs.Hear.{heard_by}
use Rattle.node.specs.Node.{service_of, node_with}
use Rattle.node.specs.Send.{with_identification, sent_by}
use Rattle.node.specs.RouterList.{list_given, replaced_by}
use Rattle.node.specs.declared.Node.{Node}
use Rattle.node.specs.declared.Service.{Service}
use Rattle.refusals.specs.declared.Refusal.TheVariants.{NoLocator}
use Rattle.bogtrumpet.specs.Answers.{plain_sized, plain_sent, plain_asked, plain_heard}
use Rattle.bogtrumpet.specs.Numbered.{is_there, name_of}
use Rattle.bogtrumpet.specs.declared.answers.Asked.{Asked}
use Rattle.bogtrumpet.specs.declared.answers.Heard.{Heard}
use Rattle.bogtrumpet.specs.declared.answers.Sized.{Sized}
use Rattle.bogtrumpet.specs.declared.steps.SentStep.{SentStep}
use Rattle.bogtrumpet.specs.declared.steps.ReplacedStep.{ReplacedStep}
use Rattle.bogtrumpet.specs.declared.steps.RouterStep.{RouterStep}

-- of a sending over a path of that size: the plain answer, the next identification of the service, and the later time
unfoldable pub sent_step : Bool → Service → ℕ → ℕ → List ℕ → List ℕ → ℕ → ℕ → ℕ → SentStep
sent_step there service latest size packet hop k time room =
    let sent = sent_by there service size packet hop k room in
    record { answer = plain_sent sent.answer; identification = sent.identification; latest = max latest time }

-- the node that such a sending leaves: that service has its next identification
abbrev pub sent_after : Node → ℕ → ℕ → List ℕ → List ℕ → ℕ → ℕ → ℕ → Node
sent_after node s size packet hop k time room =
    let service : Service = service_of node (name_of s) in
    let sent = sent_step (is_there node.both s) service node.latest size packet hop k time room in
    node_with node (name_of s) (with_identification service sent.identification) time

-- of the question for a size, which is that one where the service is there
unfoldable pub sized_step : ℕ → ℕ → ℕ → Sized
sized_step both k size = plain_sized (cond (is_there both k) (Ok size) (Err NoLocator))

-- of a new router list: 11, 1 or 0, the router list in force afterwards, and the later time
unfoldable pub replaced_step : Bool → Service → ℕ → List ℕ → ℕ → ℕ → ReplacedStep
replaced_step there service latest addresses count time =
    let done = replaced_by there service (max latest time) addresses count in
    record { answer = (list_given done.answer).number; routers = done.routers; latest = max latest time }

-- the router list that a step leaves: a router whose due time it changes is due then
abbrev pub list_after : Option Router → RouterList → RouterList
list_after (Some r) l = rescheduled_of r.address r.due l
list_after None l = l

-- of asking: the plain answer, what it leaves of the router list, and the later time
pub record AskedAs (there : Bool) (service : Service) (latest locator time room : ℕ) (step : RouterStep Asked) : Type 0 where
  pub answer : step.answer ≡ plain_asked (asked_by there service (max latest time) locator room).answer
  pub list : list_after step.rescheduled service.routers ≡ (asked_by there service (max latest time) locator room).routers
  pub at-time : step.latest ≡ max latest time

-- of an advertisement: the plain answer, what it leaves of the router list, and the later time
pub record HeardAs (there : Bool) (service : Service) (latest : ℕ) (packet : List ℕ) (time : ℕ) (step : RouterStep Heard) : Type 0 where
  pub answer : step.answer ≡ plain_heard (heard_by there service (max latest time) packet).answer
  pub list : list_after step.rescheduled service.routers ≡ (heard_by there service (max latest time) packet).routers
  pub at-time : step.latest ≡ max latest time
