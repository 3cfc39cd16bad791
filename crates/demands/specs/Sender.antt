-- A sender of demand 3: any choice of the list's sending calls through one service with one neighbour, and what each call is to it.
use Rattle.std.specs.Prelude.{ℕ, suc, Bool, cond, ◌&&◌, List, [], ◌∷◌, eqb, length, Result, Ok, Err}
use Rattle.refusals.specs.declared.Refusal.{Refusal}
use Rattle.address.specs.Address.{last_quad}
use Rattle.paths.specs.Sender.{Event, told, passed, lowered, nothing}
use Rattle.sending.specs.declared.SendAnswer.{SendAnswer}
use Rattle.sending.specs.declared.SendAnswer.TheVariants.{Wrapped, TooBig, Refused}
use Rattle.reports.specs.declared.Report.{Report}
use Rattle.node.specs.Send.{send_of}
use Rattle.node.specs.Report.{report_of}
use Rattle.node.specs.declared.Node.{Node}
use Rattle.node.specs.declared.ServiceName.{ServiceName}
use Rattle.demands.specs.Calls.{NodeCall, outcome_of, is_same, OfSizes, a_sending, a_report, no_size, view_of}

-- each offers n bytes; its Too Big answers are its 14s, with a message or without (R12.6)
abbrev pub sent_event : ℕ → SendAnswer → Event
sent_event n (TooBig size written) = told n size
sent_event n (Wrapped written) = passed n
sent_event n (Refused r) = passed n

-- an accepted report for the neighbour v
abbrev pub reported_event : ℕ → Result Report Refusal → Event
reported_event v (Ok report) = cond (eqb report.neighbour v) lowered nothing
reported_event v (Err r) = nothing

-- a call with that time and room to the sender through the service w with neighbour v, where `mine` says whether it is one of the sender's; a
-- report counts whichever service it belongs to
abbrev pub event_in : ServiceName → Bool → ℕ → Node → ℕ → ℕ → OfSizes → Event
event_in w mine v n time room (a_sending u packet hop k) =
    cond (mine && is_same u w && eqb (last_quad hop) v) (sent_event (length packet) (send_of n u packet hop k time room).answer) nothing
event_in w mine v n time room (a_report m) = reported_event v (report_of n m time).answer
event_in w mine v n time room no_size = nothing

-- the calls of a list, of which `choice` picks the sender's by their place
abbrev pub node_events : ServiceName → (ℕ → Bool) → ℕ → Node → List NodeCall → List Event
node_events w choice v n [] = []
node_events w choice v n (x ∷ xs) =
    event_in w (choice 0) v n (view_of x).time (length (view_of x).lent) (view_of x).sizes
    ∷ node_events w (λ k. choice (suc k)) v (outcome_of n x).node xs
