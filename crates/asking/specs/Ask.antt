-- Asking (R13): the order 11, 22, 15, the solicitation, and the router's next due time.
use Rattle.refusals.specs.declared.Refusal.{Refusal}
use Rattle.std.specs.Prelude.{ℕ, ◌+◌, cond, List, [], ◌∷◌, length, ltb, Option, Some, None, Result, Ok, Err}
use Rattle.address.specs.Address.{link_local_of}
use Rattle.lent.specs.Written.{written}
use Rattle.refusals.specs.Given.{Given, answered, refused}
use Rattle.refusals.specs.declared.Refusal.TheVariants.{NoLocator, OutputShort, NoRouterDue}
use Rattle.messages.specs.Icmp.{solicitation_length, solicitation_of}
use Rattle.routers.specs.Routers.{live, next_of, rescheduled_of}
use Rattle.routers.specs.declared.RouterList.{RouterList}
use Rattle.settings.specs.Settings.{locator_of}
use Rattle.settings.specs.declared.Settings.{Settings}
use Rattle.asking.specs.declared.Asked.{Asked}

-- a router that is asked, and the address of the locator that it is asked from
pub record Asking : Type 0 where
  pub from : ℕ
  pub router : ℕ

-- 11: no locator of that number; 22: no router due; 15: output too short for a solicitation; else the router is asked
unfoldable pub plan_for : Option ℕ → Option ℕ → ℕ → Result Asking Refusal
plan_for None next room = Err NoLocator
plan_for (Some from) None room = Err NoRouterDue
plan_for (Some from) (Some router) room = cond (ltb room solicitation_length) (Err OutputShort) (Ok (record { from = from; router = router }))

-- the router with the earliest due time that is not in the future, lowest place on a tie, is asked from the numbered locator
unfoldable pub ask_plan : Settings → RouterList → ℕ → ℕ → ℕ → Result Asking Refusal
ask_plan s routers now locator room = plan_for (locator_of s locator) (next_of now (live routers)) room

-- the answer names the router
abbrev pub answer_of : Result Asking Refusal → Result ℕ Refusal
answer_of (Ok asking) = Ok asking.router
answer_of (Err refusal) = Err refusal

-- an answer, and the router list after it: the due time of a router that is asked becomes `due`
abbrev pub answered_with : Result ℕ Refusal → ℕ → RouterList → Asked
answered_with (Ok router) due routers = record { answer = Ok router; routers = rescheduled_of router due routers }
answered_with (Err refusal) due routers = record { answer = Err refusal; routers = routers }

-- what comes of a plan
abbrev pub carried_out : Result Asking Refusal → ℕ → RouterList → Asked
carried_out p due routers = answered_with (answer_of p) due routers

-- the output gets a solicitation: our link-local address to the router's
abbrev pub planned_output : Result Asking Refusal → List ℕ → List ℕ
planned_output (Ok asking) out = written (solicitation_of (link_local_of asking.from) (link_local_of asking.router)) out
planned_output (Err refusal) out = out

-- the answer of an asking and the router list after it: the due time of the router asked becomes now + interval
unfoldable pub asked_of : Settings → RouterList → ℕ → ℕ → ℕ → Asked
asked_of s routers now locator room = carried_out (ask_plan s routers now locator room) (now + s.interval) routers

-- what an asking leaves in the output: after a refusal it is untouched
unfoldable pub asked_output : Settings → RouterList → ℕ → ℕ → List ℕ → List ℕ
asked_output s routers now locator out = planned_output (ask_plan s routers now locator (length out)) out

-- number and values (R1.17): the router's IPv4 address
abbrev pub ask_given : Result ℕ Refusal → Given
ask_given (Ok a) = answered (a ∷ [])
ask_given (Err refusal) = refused refusal
