-- What a call on the path sizes, by its answer, is to a sender. Assumes nothing.
use Prim.Native.Nat.{ℕ}
use mathlib.Core.Bool.{cond, ◌&&◌}
use mathlib.Core.List.{List, [], ◌∷◌}
use lib.Dec.{eqb}
use Rattle.paths.proofs.Calls.{PathCall, clock, report, send, Answer, accepted, not_below, too_big, other}
use Rattle.paths.specs.Sender.{Event, told, passed, lowered, nothing}

-- a packet of n bytes, by its answer
abbrev pub packet_event : ℕ → Answer → Event
packet_event n (too_big m) = told n m
packet_event n (accepted w c) = passed n
packet_event n not_below = passed n
packet_event n other = passed n

-- a report, by its answer, to a sender with neighbour v
abbrev pub report_event : ℕ → Answer → Event
report_event v (accepted w c) = cond (eqb w v) lowered nothing
report_event v (too_big m) = nothing
report_event v not_below = nothing
report_event v other = nothing

-- a call and its answer, to the sender through the service j with neighbour v whose packets are marked; a report counts whichever service it is of
abbrev pub event_of : ℕ → ℕ → PathCall → Answer → Event
event_of j v (clock t) a = nothing
event_of j v (report i w c) a = report_event v a
event_of j v (send mine i w n fits) a = cond (mine && eqb i j && eqb w v) (packet_event n a) nothing

-- a list of calls with their answers, to that sender
abbrev pub events_of : ℕ → ℕ → List (PathCall × Answer) → List Event
events_of j v [] = []
events_of j v (x ∷ h) = event_of j v x.0 x.1 ∷ events_of j v h
