-- What the step of receiving says, up to what is to be judged (R23). Only functions of the crate's own cite this.
use Rattle.std.specs.Prelude.{ℕ, ◌<◌, ◌≡◌, Bool, false, List, Option, Some, None, IfSome, Result, Ok, Err}
use Rattle.refusals.specs.Refusals.{number_of}
use Rattle.refusals.specs.declared.Refusal.{Refusal}
use Rattle.routers.specs.Routers.{live}
use Rattle.routers.specs.declared.Router.{Router}
use Rattle.settings.specs.declared.Settings.{Settings}
use Rattle.pieces.specs.Places.{places}
use Rattle.receiving.specs.Stages.{judged_of, collected_after}
use Rattle.receiving.specs.declared.Received as receiving
use Rattle.receiving.specs.declared.judging.Opening.{Opening}
use Rattle.receiving.specs.declared.judging.Stage.{Stage}
use Rattle.node.specs.Receive.{with_pieces, collected_by}
use Rattle.node.specs.declared.Service.{Service}
use Rattle.bogtrumpet.specs.Answers.{plain_received}
use Rattle.bogtrumpet.specs.declared.answers.Received.{Received}
use Rattle.bogtrumpet.specs.declared.steps.GatheredStep.{GatheredStep}
use Rattle.bogtrumpet.specs.declared.steps.PlainStage.{PlainStage}
use Rattle.bogtrumpet.specs.declared.steps.PlainStage.TheVariants.{Open, Passed, Refused}

-- what is to be judged, if anything is, before it is said where the packet stands
abbrev pub plain_open : receiving.Received → Option Opening → PlainStage
plain_open p (Some x) = Open p x
plain_open p None = Passed p

-- what is read, with its number for a refusal
abbrev pub plain_stage : Result Stage Refusal → PlainStage
plain_stage (Ok x) = plain_open x.received x.open
plain_stage (Err r) = Refused (number_of r)

-- the plain answer to what is read, by settings and routers
abbrev pub plain_judged : Settings → List Router → PlainStage → Received
plain_judged s routers (Open p x) = plain_received (judged_of s routers (record { received = p; «open» = Some x }))
plain_judged s routers (Passed p) = plain_received (Ok p)
plain_judged s routers (Refused n) = record { number = n; joined = false; offset = 0; length = 0 }

-- the same of a step, by the settings and the router list of a service
unfoldable pub judged_step : Service → GatheredStep → Received
judged_step service step = plain_judged service.settings (live service.routers) step.stage

-- the service that receiving leaves: a piece that comes to the collection changes one place
abbrev pub gathered_after : Service → GatheredStep → Service
gathered_after service step = with_pieces service (collected_after step.stored service.pieces)

-- of a datagram (R23): what the service makes of it, now, which is the latest time; the place that is named is there
pub record GatheredAs (there : Bool) (service : Service) (now : ℕ) (d : List ℕ) (interface : ℕ) (memory : List ℕ) (step : GatheredStep) : Type 0 where
  pub at-time : step.latest ≡ now
  pub next : gathered_after service step ≡ with_pieces service (collected_by there service now d interface memory).pieces
  pub answer : judged_step (gathered_after service step) step ≡ plain_received (collected_by there service now d interface memory).answer
  pub in_bounds : IfSome step.stored (λ x. x.0 < places)
