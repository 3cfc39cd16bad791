-- A node's calls as calls of `paths`: each is a clock and then what is seen of it, and no clock is anything to a sender. Assumes nothing.
use Rattle.std.specs.Prelude.{Result, Ok, Err}
use Rattle.refusals.specs.declared.Refusal.{Refusal}
use Prim.Native.Nat.{ℕ, suc, max}
use mathlib.Core.Path.{◌≡◌, refl, ap, sym, ◌∙◌}
use mathlib.Core.Bool.{Bool, true, false, cond, ◌&&◌}
use mathlib.Core.List.{List, [], ◌∷◌}
use native.Mathlib.Omega.{arith}
use native.Mathlib.Nat.{max-zero}
use lib.Dec.{ltb, eqb}
use lib.ListN.{length}
use Rattle.address.specs.Address.{last_quad}
use Rattle.settings.specs.declared.Settings.{Settings}
use Rattle.paths.specs.Candidate.{is_below}
use Rattle.paths.specs.Kept.{in_force}
use Rattle.paths.specs.Packets.{largest_packet}
use Rattle.paths.specs.Table.{kept_in}
use Rattle.paths.proofs.Calls.{PathCall, clock, report, send, Answer, accepted, not_below, other, table, answer, remembered, latest, history, send_answer}
use Rattle.paths.specs.Sender.{Event, nothing}
use Rattle.paths.proofs.Events.{packet_event, event_of, events_of}
use Rattle.paths.specs.declared.PathTable.{PathTable}
use Rattle.sending.specs.Plan.{send_check}
use Rattle.sending.proofs.Seen.{too_big_seen, takes_message, seen_after, sent_seen}
use Rattle.sending.specs.declared.SendAnswer.{SendAnswer}
use Rattle.sending.specs.declared.SendAnswer.TheVariants as sent
use Rattle.reports.specs.Report.{judged_of, neighbour_in, accepted_below, answer_at}
use Rattle.reports.specs.declared.Report.{Report}
use Rattle.node.specs.Node.{pick, service_of, has_service, path_size_at}
use Rattle.node.specs.Send.{path_size_toward, sent_by, send_of}
use Rattle.node.specs.Report.{quotes_other, reported_to, paths_after, report_answer_of, report_of}
use Rattle.node.specs.declared.Node.{Node}
use Rattle.node.specs.declared.Service.{Service}
use Rattle.node.specs.declared.ServiceName.{ServiceName}
use Rattle.node.specs.declared.ServiceName.TheVariants.{First, Second}
use Rattle.demands.specs.Calls.{NodeCall, Outcome, outcome_of, is_same, OfSizes, a_sending, a_report, no_size, view_of}
use Rattle.demands.specs.Sender.{sent_event, reported_event, event_in, node_events}
use Rattle.demands.proofs.Left.{Left, left}

abbrev passes : Result Unit Refusal → Bool
passes (Ok tt) = true
passes (Err r) = false

-- the number of a service among the links, and its link's size
abbrev pub place_of : ServiceName → ℕ
place_of w = pick w 0 1

abbrev pub links_of : Settings → Settings → ℕ → ℕ
links_of a b i = cond (eqb i 0) a.link_size b.link_size

-- a report of the service i that 16, 17 or 18 refuses is none
abbrev judged_call : ℕ → Result Report Refusal → PathCall
judged_call i (Ok r) = report i r.neighbour r.size
judged_call i (Err r) = clock 0

-- what a node's services see of a call, with that much room in the output
module _ (a b : Settings) (both : ℕ) where
  abbrev theirs : ServiceName → Settings
  theirs w = pick w a b

  abbrev is_there : ServiceName → Bool
  is_there w = pick w true (ltb 0 both)

  -- whose a report is
  abbrev whose : List ℕ → ServiceName
  whose m = cond (ltb 0 both && quotes_other a b m) Second First

  abbrev call_seen : Bool → ℕ → OfSizes → PathCall
  call_seen mine room (a_sending w packet hop k) =
      send mine (place_of w) (last_quad hop) (length packet) (is_there w && (passes (send_check (theirs w) packet hop k) && takes_message packet room))
  call_seen mine room (a_report m) = judged_call (place_of (whose m)) (judged_of (theirs (whose m)) m)
  call_seen mine room no_size = clock 0

  abbrev pub calls_seen : (ℕ → Bool) → List NodeCall → List PathCall
  calls_seen choice [] = []
  calls_seen choice (x ∷ xs) =
      clock (view_of x).time ∷ (call_seen (choice 0) (length (view_of x).lent) (view_of x).sizes ∷ calls_seen (λ k. choice (suc k)) xs)

-- ---- answers

and_false : (b : Bool) → (b && false) ≡ false
and_false true = refl
and_false false = refl

send_seen : (check : Result Unit Refusal) (M n : ℕ) (takes : Bool) → send_answer M n (passes check && takes) ≡ seen_after check (send_answer M n takes)
send_seen (Ok tt) M n takes = refl
send_seen (Err r) M n takes = rw (and_false (ltb M n))

-- what is seen of a sending, by whether its service is there
there_seen : (there : Bool) (service : Service) (P : ℕ) (packet hop : List ℕ) (k room : ℕ)
    → send_answer (largest_packet P) (length packet) (there && (passes (send_check service.settings packet hop k) && takes_message packet room)) ≡ too_big_seen (sent_by there service P packet hop k room).answer
unfolding sent_by
there_seen true service P packet hop k room =
    send_seen (send_check service.settings packet hop k) (largest_packet P) (length packet) (takes_message packet room)
    ∙ sym (sent_seen service.settings service.identification P packet hop k room)
there_seen false service P packet hop k room = rw (and_false (ltb (largest_packet P) (length packet)))

abbrev report_seen : Result Report Refusal → Answer
report_seen (Ok r) = accepted r.neighbour r.size
report_seen (Err r) = not_below

-- what is seen of the answer to a judged report
abbrev judged_seen : Result Report Refusal → Result Report Refusal → Answer
judged_seen (Ok r) a = report_seen a
judged_seen (Err r) a = other

below_seen : (b : Bool) (r : Report) (x : Refusal) → cond b (accepted r.neighbour r.size) not_below ≡ report_seen (cond b (Ok r) (Err x))
below_seen true r x = refl
below_seen false r x = refl

module _ (links : ℕ → ℕ) (now : ℕ) (t : PathTable) where
  report_seen_lem : (i : ℕ) (j : Result Report Refusal) → answer table largest_packet links t now (judged_call i j) ≡ judged_seen j (answer_at j (in_force (links i) (kept_in t (neighbour_in j) now)))
  unfolding accepted_below
  report_seen_lem i (Ok r) = below_seen (is_below r.size (in_force (links i) (kept_in t r.neighbour now))) r _
  report_seen_lem i (Err r) = refl

module _ (now : ℕ) (t : PathTable) where
  sent_remembered : (a : SendAnswer) → remembered table t now (too_big_seen a) ≡ t
  sent_remembered (sent.Wrapped n) = refl
  sent_remembered (sent.TooBig size n) = refl
  sent_remembered (sent.Refused r) = refl

  report_remembered : (a : Result Report Refusal) → remembered table t now (report_seen a) ≡ paths_after a t now
  report_remembered (Ok r) = refl
  report_remembered (Err r) = refl

  judged_remembered : (j : Result Report Refusal) (P : ℕ) → remembered table t now (judged_seen j (answer_at j P)) ≡ paths_after (answer_at j P) t now
  judged_remembered (Ok r) P = report_remembered (answer_at (Ok r) P)
  judged_remembered (Err r) P = refl

judged-latest : (i : ℕ) (j : Result Report Refusal) (now : ℕ) → latest now (judged_call i j) ≡ now
judged-latest i (Ok r) now = refl
judged-latest i (Err r) now = omega arith

-- ---- events

sent_event_lem : (a : SendAnswer) (n : ℕ) → packet_event n (too_big_seen a) ≡ sent_event n a
sent_event_lem (sent.Wrapped k) n = refl
sent_event_lem (sent.TooBig size k) n = refl
sent_event_lem (sent.Refused r) n = refl

report_event_lem : (a : Result Report Refusal) (j v i w c : ℕ) → event_of j v (report i w c) (report_seen a) ≡ reported_event v a
report_event_lem (Ok r) j v i w c = refl
report_event_lem (Err r) j v i w c = refl

judged_event : (i : ℕ) (q : Result Report Refusal) (j v P : ℕ) → event_of j v (judged_call i q) (judged_seen q (answer_at q P)) ≡ reported_event v (answer_at q P)
judged_event i (Ok r) j v P = report_event_lem (answer_at (Ok r) P) j v i r.neighbour r.size
judged_event i (Err r) j v P = refl

-- services are the same where their numbers are
same_place : (u w : ServiceName) → eqb (place_of u) (place_of w) ≡ is_same u w
same_place First First = refl
same_place First Second = refl
same_place Second First = refl
same_place Second Second = refl

-- nothing before each event: the clock
abbrev pub spaced : List Event → List Event
spaced [] = []
spaced (e ∷ h) = nothing ∷ (e ∷ spaced h)

-- one more call, whatever is known of its answer
module _ (j v : ℕ) (links : ℕ → ℕ) (t t₂ : PathTable) (now now₂ : ℕ) (x : PathCall) (a : Answer) (e : Event) (xs : List PathCall) (h : List Event) where
  one_more : answer table largest_packet links t now x ≡ a → remembered table t now a ≡ t₂ → latest now x ≡ now₂ → event_of j v x a ≡ e
      → events_of j v (history table largest_packet links t₂ now₂ xs) ≡ h → events_of j v (history table largest_packet links t now (x ∷ xs)) ≡ e ∷ h
  one_more p q l w i = cc

-- the size in force for a service is that over its link
own_link : (n : Node) (w : ServiceName) (v now : ℕ) → in_force (links_of n.first.settings n.second.settings (place_of w)) (kept_in n.paths v now) ≡ path_size_at n w v now
unfolding path_size_at
own_link n First v now = refl
own_link n Second v now = refl

own-settings : (n : Node) (w : ServiceName) → pick w n.first.settings n.second.settings ≡ (service_of n w).settings
own-settings n First = refl
own-settings n Second = refl

module _ (w : ServiceName) (v : ℕ) where
  -- the events of the calls xs on the node n, as `paths` has them
  abbrev Same : (ℕ → Bool) → Node → List NodeCall → Type 0
  Same choice n xs =
      events_of (place_of w) v
      (history table largest_packet (links_of n.first.settings n.second.settings) n.paths n.latest (calls_seen n.first.settings n.second.settings n.both choice xs))
      ≡ spaced (node_events w choice v n xs)

  -- a call is its clock, which is nothing, and then what is seen of it
  module _ (mine : Bool) (choice : ℕ → Bool) (n : Node) (time room : ℕ) (o : Outcome) (xs : List NodeCall) (same : Same choice o.node xs) where
    abbrev a : Settings
    a = n.first.settings

    abbrev b : Settings
    b = n.second.settings

    abbrev links : ℕ → ℕ
    links = links_of n.first.settings n.second.settings

    abbrev now : ℕ
    now = max n.latest time

    abbrev rest : List PathCall
    rest = calls_seen n.first.settings n.second.settings n.both choice xs

    -- what comes after it, with the settings that it leaves
    after : (c : OfSizes) → Left n time room c o → events_of (place_of w) v (history table largest_packet links o.node.paths o.node.latest rest) ≡ spaced (node_events w choice v o.node xs)
    after c l = rw (← l.settings First, ← l.settings Second, ← l.both) same

    clocked : (c : OfSizes) → Left n time room c o
        → events_of (place_of w) v (history table largest_packet links n.paths now (call_seen a b n.both mine room c ∷ rest)) ≡ event_in w mine v n time room c ∷ spaced (node_events w choice v o.node xs)
    unfolding send_of report_of report_answer_of reported_to
    clocked (a_sending u packet hop k) l =
        let x : SendAnswer = (send_of n u packet hop k time room).answer in
        one_more (place_of w) v links n.paths o.node.paths now o.node.latest (call_seen a b n.both mine room (a_sending u packet hop k)) (too_big_seen x)
        (cond (mine && is_same u w && eqb (last_quad hop) v) (sent_event (length packet) x) nothing) rest (spaced (node_events w choice v o.node xs))
        (rw (own_link n u (last_quad hop) now, own-settings n u) (there_seen (has_service n u) (service_of n u) (path_size_toward n u hop time) packet hop k room))
        (sent_remembered now n.paths x ∙ sym l.sizes.1) (sym l.latest)
        (rw (same_place u w) (ap (λ (e : Event). cond (mine && is_same u w && eqb (last_quad hop) v) e nothing) (sent_event_lem x (length packet))))
        (after (a_sending u packet hop k) l)
    clocked (a_report m) l =
        let u : ServiceName = reported_to n m in
        let j : Result Report Refusal = judged_of (service_of n u).settings m in
        let P : ℕ = path_size_at n u (neighbour_in j) now in
        let x : Result Report Refusal = answer_at j P in
        one_more (place_of w) v links n.paths o.node.paths now o.node.latest (judged_call (place_of u) (judged_of (pick u a b) m)) (judged_seen j x) (reported_event v x)
        rest (spaced (node_events w choice v o.node xs))
        (rw (own-settings n u) (report_seen_lem links now n.paths (place_of u) j ∙ ap (λ (p : ℕ). judged_seen j (answer_at j p)) (own_link n u (neighbour_in j) now)))
        (judged_remembered now n.paths j P ∙ sym l.sizes.1)
        (judged-latest (place_of u) (judged_of (pick u a b) m) now ∙ sym l.latest) (rw (own-settings n u) (judged_event (place_of u) j (place_of w) v P))
        (after (a_report m) l)
    clocked no_size l =
        one_more (place_of w) v links n.paths o.node.paths now o.node.latest (clock 0) other nothing
        rest (spaced (node_events w choice v o.node xs)) refl (sym l.sizes) (max-zero _ ∙ sym l.latest) refl
        (after no_size l)

  pub same_events : (choice : ℕ → Bool) (n : Node) (xs : List NodeCall) → Same choice n xs
  same_events choice n [] = refl
  same_events choice n (x ∷ xs) =
      let later : ℕ → Bool = λ k. choice (suc k) in
      ap (λ (h : List Event). nothing ∷ h)
      (clocked (choice 0) later n (view_of x).time (length (view_of x).lent) (outcome_of n x) xs
      (same_events later (outcome_of n x).node xs) (view_of x).sizes (left n x))
