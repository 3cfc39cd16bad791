-- The fairness law holds of every node that has grown from accepted settings: its calls as calls on the router list. Assumes nothing.
use Rattle.std.specs.Prelude.{Some, Result, Ok, Err, Option, None}
use Rattle.refusals.specs.declared.Refusal.{Refusal}
use Prim.Native.Nat.{ℕ, ◌+◌, ◌≤◌, max}
use mathlib.Core.Path.{◌≡◌, refl, sym, ap, ◌∙◌}
use mathlib.Core.Bool.{Bool, true, false, ◌&&◌, not}
use mathlib.Core.List.{List, [], ◌∷◌, ◌++◌}
use native.Mathlib.Omega.{arith}
use borrow.Author.Tests.{leb-true}
use lib.Dec.{leb}
use lib.ListN.{length}
use Rattle.lists.proofs.Tests.{and_left, and_right}
use Rattle.settings.specs.Settings.{are_locators_right, are_routers_right, are_numbers_right, is_accepted, share_address, are_pair_accepted}
use Rattle.settings.specs.declared.Settings.{Settings}
use Rattle.address.specs.Address.{is_multicast_or_unspecified}
use Rattle.options.specs.Lifetimes.{without_lifetime}
use Rattle.routers.specs.Routers.{live, next_of, rescheduled_of}
use Rattle.refusals.specs.Given.{Given}
use Rattle.routers.specs.declared.RouterList.{RouterList}
use Rattle.routers.specs.declared.Router.{Router}
use Rattle.routers.proofs.FairCalls as routers
use Rattle.routers.proofs.FairCalls.{RouterCall, served, Unheard}
use Rattle.routers.proofs.Fairness.{fair}
use Rattle.routers.proofs.Live.{live-rescheduled}
use Rattle.asking.specs.Ask.{ask_given}
use Rattle.asking.proofs.Laws as asking
use Rattle.hearing.specs.Heard.{heard_given}
use Rattle.hearing.proofs.Laws as hearing
use Rattle.node.specs.Node.{service_of, has_service, node_with}
use Rattle.node.specs.Receive.{receive_of}
use Rattle.node.specs.Send.{send_of}
use Rattle.node.specs.Report.{report_of}
use Rattle.node.specs.RouterList.{with_routers, list_given, replaced_by, replace_of}
use Rattle.node.specs.Ask.{asked_by, ask_of}
use Rattle.node.specs.Hear.{heard_by, hear_of}
use Rattle.node.specs.declared.Node.{Node}
use Rattle.node.specs.declared.Service.{Service}
use Rattle.node.specs.declared.ServiceName.{ServiceName}
use Rattle.node.specs.declared.ServiceName.TheVariants.{First, Second}
use Rattle.node.proofs.Services.{put_same, put-kept}
use Rattle.demands.specs.Starts.{Start, accepted_with, is_right, start_of, settings_of}
use Rattle.demands.specs.Calls.{NodeCall, receiving, receiving_part, sending, reporting, relisting, asking, hearing, advertising, outcome_of, OfRouters, an_asking, an_advertisement, a_list, routers_of, view_of, node_after}
use Rattle.demands.specs.Fair.{serves, served_by, Quiet, AllQuiet, FairNode}
use Rattle.demands.proofs.Left.{left, settings-kept}
use Rattle.demands.specs.Plain.{fresh_plain}
use Rattle.demands.proofs.Follows.{same_some, no_some, its-settings, fresh_follows}

-- what a call does to the router list of a service, now: it leaves it, asks one of its routers, puts one of them off, or is not quiet
data Turn (q : Service) (now : ℕ) (c : OfRouters) (g : Given) (after : RouterList) : Type 0 where
  leaves : serves c g ≡ [] → after ≡ q.routers → Turn q now c g after
  asks : (b : ℕ) → serves c g ≡ b ∷ [] → next_of now (live q.routers) ≡ Some b
      → after ≡ rescheduled_of b (now + q.settings.interval) q.routers → Turn q now c g after
  puts_off : (b delay : ℕ) → serves c g ≡ [] → ((a : ℕ) → Quiet a c g → b ≡ a → ⊥)
      → (q.settings.interval ≤ without_lifetime → q.settings.interval ≤ delay)
      → after ≡ rescheduled_of b (now + delay) q.routers → Turn q now c g after
  takes : ((a : ℕ) → Quiet a c g → ⊥) → Turn q now c g after

-- of the service itself, which may not be there
module _ (q : Service) (now : ℕ) where
  asking_turn : (there : Bool) (k : ℕ) (out : List ℕ) (a : Result ℕ Refusal) → (asked_by there q now k (length out)).answer ≡ a
      → Turn q now an_asking (ask_given (asked_by there q now k (length out)).answer) (asked_by there q now k (length out)).routers
  unfolding asked_by
  asking_turn true k out (Ok b) e =
      let a = asking.answered-next q.settings q.routers now k out b e in
      asks b (rw e) a.next a.rescheduled
  asking_turn true k out (Err x) e = leaves (rw e) (asking.refused-unchanged q.settings q.routers now k out x e).0
  asking_turn false k out a e = leaves refl refl

  hearing_turn : (there : Bool) (packet : List ℕ) (a : Result ℕ Refusal) → (heard_by there q now packet).answer ≡ a
      → Turn q now an_advertisement (heard_given (heard_by there q now packet).answer) (heard_by there q now packet).routers
  unfolding heard_by
  hearing_turn true packet (Ok b) e =
      let p = hearing.accepted_puts_off q.settings q.routers now packet b e in
      puts_off b p.delay refl (λ a quiet same. quiet (rw (e, same))) p.interval p.rescheduled
  hearing_turn true packet (Err x) e = leaves refl (hearing.refused-unchanged q.settings q.routers now packet x e)
  hearing_turn false packet a e = leaves refl refl

  relisting_turn : (there : Bool) (addresses : List ℕ) (count : ℕ) (b : Bool) → (there && are_routers_right q.settings addresses count) ≡ b
      → Turn q now a_list (list_given (replaced_by there q now addresses count).answer) (replaced_by there q now addresses count).routers
  relisting_turn there addresses count true e = takes (λ a quiet. quiet (rw e))
  relisting_turn there addresses count false e = leaves refl (rw e)

-- a call through the service w
abbrev Turned : ServiceName → Node → NodeCall → Type 0
Turned w n x = Turn (service_of n w) (max n.latest (view_of x).time) (routers_of w x) (outcome_of n x).given (service_of (outcome_of n x).node w).routers

own_turn : (n : Node) (w : ServiceName) (time : ℕ) (routers : RouterList) (c : OfRouters) (g : Given) → Turn (service_of n w) (max n.latest time) c g routers
    → Turn (service_of n w) (max n.latest time) c g (service_of (node_with n w (with_routers (service_of n w) routers) time) w).routers
own_turn n w time routers c g t = rw (put_same n w (with_routers (service_of n w) routers) time) t

-- a call that leaves the service's routers leaves those of both
put-routers : (n : Node) (v : ServiceName) (q : Service) (time : ℕ) → q.routers ≡ (service_of n v).routers → (w : ServiceName) → (service_of (node_with n v q time) w).routers ≡ (service_of n w).routers
put-routers = put-kept (λ (q : Service). q.routers)

asked_turn : (w : ServiceName) (n : Node) (k time : ℕ) (out : List ℕ)
    → Turn (service_of n w) (max n.latest time) an_asking (outcome_of n (asking w k time out)).given (service_of (outcome_of n (asking w k time out)).node w).routers
unfolding ask_of
asked_turn w n k time out = own_turn n w time _ _ _ (asking_turn (service_of n w) (max n.latest time) (has_service n w) k out _ refl)

heard_turn : (w : ServiceName) (n : Node) (packet : List ℕ) (time : ℕ)
    → Turn (service_of n w) (max n.latest time) an_advertisement (outcome_of n (hearing w packet time)).given (service_of (outcome_of n (hearing w packet time)).node w).routers
unfolding hear_of
heard_turn w n packet time = own_turn n w time _ _ _ (hearing_turn (service_of n w) (max n.latest time) (has_service n w) packet _ refl)

relisted_turn : (w : ServiceName) (n : Node) (addresses : List ℕ) (count time : ℕ)
    → Turn (service_of n w) (max n.latest time) a_list (outcome_of n (relisting w addresses count time)).given (service_of (outcome_of n (relisting w addresses count time)).node w).routers
unfolding replace_of
relisted_turn w n addresses count time = own_turn n w time _ _ _ (relisting_turn (service_of n w) (max n.latest time) (has_service n w) addresses count _ refl)

turn : (w : ServiceName) (n : Node) (x : NodeCall) → Turned w n x
unfolding receive_of send_of report_of replace_of ask_of hear_of
turn w n (receiving v d interface time memory) = leaves refl (put-routers n v _ time refl w)
turn w n (receiving_part v d interface) = leaves refl refl
turn w n (sending v packet hop k time out) = leaves refl (put-routers n v _ time refl w)
turn w n (reporting m time) = leaves refl refl
turn First n (relisting First addresses count time) = relisted_turn First n addresses count time
turn First n (relisting Second addresses count time) = leaves refl refl
turn Second n (relisting First addresses count time) = leaves refl refl
turn Second n (relisting Second addresses count time) = relisted_turn Second n addresses count time
turn First n (asking First k time out) = asked_turn First n k time out
turn First n (asking Second k time out) = leaves refl refl
turn Second n (asking First k time out) = leaves refl refl
turn Second n (asking Second k time out) = asked_turn Second n k time out
turn First n (hearing First packet time) = heard_turn First n packet time
turn First n (hearing Second packet time) = leaves refl refl
turn Second n (hearing First packet time) = leaves refl refl
turn Second n (hearing Second packet time) = heard_turn Second n packet time
turn w n (advertising v packet k a out) = leaves refl refl

-- a call as a call on the router list
call_of : {q : Service} {now : ℕ} {c : OfRouters} {g : Given} {after : RouterList} (time : ℕ) → Turn q now c g after → RouterCall
call_of time (leaves s r) = routers.other time
call_of time (asks b s d r) = routers.asked time
call_of time (puts_off b delay s q i r) = routers.heard time b delay
call_of time (takes q) = routers.other time

calls_of : ServiceName → Node → List NodeCall → List RouterCall
calls_of w n [] = []
calls_of w n (x ∷ xs) = call_of (view_of x).time (turn w n x) ∷ calls_of w (outcome_of n x).node xs

module _ (v : ℕ) where
  moved : (t u : ℕ) (rs qs : List Router) (cs : List RouterCall) (l : List ℕ) → t ≡ u → rs ≡ qs → served v t rs cs ≡ l → served v u qs cs ≡ l
  moved t u rs qs cs l p q h = rw (← p, ← q) h

  -- one call serves on the node what it serves on its router list, if those after it do
  module _ (a : ℕ) (q : Service) (latest time : ℕ) (c : OfRouters) (g : Given) (after : RouterList) (then : ℕ) (cs : List RouterCall) (later : List ℕ) where
    step : (t : Turn q (max latest time) c g after) → q.settings.interval ≡ v → then ≡ max latest time → Quiet a c g
        → served v then (live after) cs ≡ later
        → served v latest (live q.routers) (call_of time t ∷ cs) ≡ serves c g ++ later
    unfolding served call_of
    step (leaves s r) ev el quiet same = rw s (moved _ _ _ _ cs _ el (ap live r) same)
    step (asks b s d r) ev el quiet same =
        rw (s, d) (ap (λ (l : List ℕ). b ∷ l) (moved _ _ _ _ cs _ el (rw (r, ← ev) (live-rescheduled b _ q.routers)) same))
    step (puts_off b delay s f i r) ev el quiet same = rw s (moved _ _ _ _ cs _ el (rw r (live-rescheduled b _ q.routers)) same)
    step (takes f) ev el quiet same = absurd (f a quiet)

    unheard_step : (t : Turn q (max latest time) c g after) → q.settings.interval ≡ v → v ≤ without_lifetime → Quiet a c g → Unheard v a cs
        → Unheard v a (call_of time t ∷ cs)
    unfolding Unheard call_of
    unheard_step (leaves s r) ev most quiet u = u
    unheard_step (asks b s d r) ev most quiet u = u
    unheard_step (puts_off b delay s f i r) ev most quiet u =
        let long : v ≤ delay = rw (← ev) (i (rw ev most)) in
        (f a quiet, long, u)
    unheard_step (takes f) ev most quiet u = u

  module _ (w : ServiceName) where
    same_served : (a : ℕ) (n : Node) (xs : List NodeCall) → (service_of n w).settings.interval ≡ v → AllQuiet w a n xs
        → served v n.latest (live (service_of n w).routers) (calls_of w n xs) ≡ served_by w n xs
    unfolding served calls_of
    same_served a n [] ev quiet = refl
    same_served a n (x ∷ xs) ev quiet =
        let m = (outcome_of n x).node in
        step a (service_of n w) n.latest (view_of x).time (routers_of w x) (outcome_of n x).given (service_of m w).routers m.latest (calls_of w m xs) (served_by w m xs) (turn w n x) ev (left n x).latest quiet.0
        (same_served a m xs (rw ((left n x).settings w) ev) quiet.1)

    unheard : (a : ℕ) (n : Node) (xs : List NodeCall) → (service_of n w).settings.interval ≡ v → v ≤ without_lifetime → AllQuiet w a n xs → Unheard v a (calls_of w n xs)
    unfolding Unheard calls_of
    unheard a n [] ev most quiet = tt
    unheard a n (x ∷ xs) ev most quiet =
        let m = (outcome_of n x).node in
        unheard_step a (service_of n w) n.latest (view_of x).time (routers_of w x) (outcome_of n x).given (service_of m w).routers m.latest (calls_of w m xs) [] (turn w n x) ev most quiet.0
        (unheard a m xs (rw ((left n x).settings w) ev) most quiet.1)

  -- the first call may as well find the latest time raised to its own
  module _ (t time : ℕ) (rs : List Router) (cs : List RouterCall) where
    twice : max (max t time) time ≡ max t time
    twice = omega arith

    raised : {q : Service} {now : ℕ} {c : OfRouters} {g : Given} {after : RouterList} (x : Turn q now c g after) → served v t rs (call_of time x ∷ cs) ≡ served v (max t time) rs (call_of time x ∷ cs)
    unfolding served call_of
    raised (leaves s r) = rw twice
    raised (asks b s d r) = rw twice
    raised (puts_off b delay s q i r) = rw twice
    raised (takes q) = rw twice

-- accepted settings have an interval of 1 to 3,600 seconds
interval-right : (s : Settings) → is_accepted s ≡ true → (1 ≤ s.interval) × (s.interval ≤ without_lifetime)
unfolding is_accepted are_numbers_right
interval-right s e =
    let others = leb s.prefix_count 8 && leb 576 s.link_size && leb s.link_size 9216 && leb 1 s.ttl in
    let least = leb 1 s.interval in
    let most = leb s.interval 3600 in
    let lists = are_locators_right s && are_routers_right s s.routers s.router_count in
    let numbers = and_right lists (are_numbers_right s) (and_left (lists && are_numbers_right s) (not (is_multicast_or_unspecified s.reporting)) e) in (
      leb-true 1 s.interval (and_right others least (and_left (others && least) most numbers)),
      leb-true s.interval 3600 (and_right (others && least) most numbers),
    )

-- each of them, where there are two
pair-right : (a b : Settings) → are_pair_accepted a b ≡ true → (is_accepted a ≡ true) × (is_accepted b ≡ true)
unfolding are_pair_accepted
pair-right a b e =
    let both = and_left (is_accepted a && is_accepted b) (not (share_address a b)) e in
    (and_left (is_accepted a) (is_accepted b) both, and_right (is_accepted a) (is_accepted b) both)

first-right : (a : Settings) (o : Option Settings) → accepted_with a o ≡ true → is_accepted a ≡ true
first-right a None e = e
first-right a (Some b) e = (pair-right a b e).0

second-right : (a t : Settings) (o : Option Settings) → accepted_with a o ≡ true → o ≡ Some t → is_accepted t ≡ true
second-right a t None e is = absurd (no_some t is)
second-right a t (Some b) e is = rw (← same_some b t is) (pair-right a b e).1

service-right : (s : Start) → is_right s ≡ true → (w : ServiceName) (t : Settings) → settings_of s w ≡ Some t → is_accepted t ≡ true
service-right s e First t is = rw (← same_some s.first t is) (first-right s.first s.second e)
service-right s e Second t is = second-right s.first t s.second e is

pub fair_node : FairNode
unfolding FairNode calls_of
fair_node s a w t is before r x xs inside due quiet enough =
    let n = node_after (start_of s) before in
    let ev : (service_of n w).settings.interval ≡ t.interval = ap (λ (z : Settings). z.interval) (settings-kept (start_of s) before w ∙ (its-settings s (start_of s) fresh_plain (fresh_follows s a) w t is).0) in
    let right = interval-right t (service-right s a w t is) in
    let rs = live (service_of n w).routers in
    let v = t.interval in
    let first = raised v n.latest (view_of x).time rs (calls_of w (outcome_of n x).node xs) (turn w n x) in
    let same = sym first ∙ same_served v w r.address n (x ∷ xs) ev quiet in
    rw (← same)
    (fair v (max n.latest (view_of x).time) r rs (calls_of w n (x ∷ xs)) right.0 inside due
    (unheard v w r.address n (x ∷ xs) ev right.1 quiet) (rw same enough))
