-- What the calls on a node are, as those over a pointer make them: the one place that looks into the node's own definitions. Assumes nothing.
--     by_number_lem        of a service's number.
--     size_is, size_now     a size over the table's rows is the node's
--     gathered-same, absent-same     what receiving gathers changes one place, or none.        received-same     with the latest time it is the node's
--     sent-same        a sending over a path of the size toward the tunnel end is the node's
--     asked-same, heard-same, replaced-same     these change the router list of their service and the latest time alone.        advertised-same     advertising
use Rattle.std.specs.Prelude.{Result, Ok, Err, Option, Some, None, IfSome}
use mathlib.Core.Path.{◌≡◌, refl, ap, ◌∙◌}
use Prim.Native.Nat.{ℕ, max, ◌<◌}
use mathlib.Core.Bool.{Bool, true, false, cond}
use mathlib.Core.List.{List}
use lib.Dec.{eqb, ltb}
use lib.ListN.{length}
use native.Mathlib.Omega.{arith}
use Rattle.advertisements.specs.declared.Advertisement.{Advertisement}
use Rattle.asking.specs.declared.Asked as asking
use Rattle.hearing.specs.declared.Heard as hearing
use Rattle.paths.specs.Kept.{in_force}
use Rattle.paths.specs.Table.{kept_among, kept_in}
use Rattle.refusals.specs.declared.Refusal.{Refusal}
use Rattle.refusals.specs.declared.Refusal.TheVariants.{NoLocator}
use Rattle.routers.specs.Routers.{live}
use Rattle.routers.specs.declared.Router.{Router}
use Rattle.routers.specs.declared.RouterList.{RouterList}
use Rattle.settings.specs.declared.Settings.{Settings}
use Rattle.sending.specs.declared.SendAnswer.TheVariants as sent
use Rattle.pieces.specs.Places.{places}
use Rattle.pieces.specs.Take.{with_place}
use Rattle.pieces.specs.declared.Place.{Place}
use Rattle.receiving.specs.Collect.{Collected, collected_of}
use Rattle.receiving.specs.Stages.{judged_of, judged_or, judged_with}
use Rattle.receiving.specs.declared.collect.Gathered.{Gathered}
use Rattle.receiving.specs.declared.judging.Opening.{Opening}
use Rattle.receiving.specs.declared.judging.Stage.{Stage}
use Rattle.node.specs.Advertise.{advertised_by, advertised_through, advertise_of, advertise_output}
use Rattle.node.specs.Ask.{asked_by, asked_through, ask_of, ask_output}
use Rattle.node.specs.Hear.{heard_by, hear_of}
use Rattle.node.specs.Receive.{with_pieces, collected_by, collected_through, receive_of, receive_memory}
use Rattle.node.specs.RouterList.{with_routers, list_given, replace_of}
use Rattle.node.specs.Node.{service_of, node_with, raised_to, path_size_at}
use Rattle.node.specs.Send.{path_size_toward, with_identification, sent_by, sent_through, send_of, send_output}
use Rattle.node.specs.Size.{path_size_of}
use Rattle.node.specs.declared.Node.{Node}
use Rattle.node.specs.declared.Service.{Service}
use Rattle.node.specs.declared.ServiceName.{ServiceName}
use Rattle.node.specs.declared.ServiceName.TheVariants.{First, Second}
use Rattle.bogtrumpet.specs.Answers.{plain_received, plain_sized, plain_sent, plain_asked, plain_heard, plain_advertised}
use Rattle.bogtrumpet.specs.Gathered.{plain_open, plain_stage, plain_judged, judged_step, gathered_after, GatheredAs}
use Rattle.bogtrumpet.specs.Numbered.{by_number, name_of, is_there}
use Rattle.bogtrumpet.specs.Steps.{sent_step, sent_after, sized_step, replaced_step, list_after, AskedAs, HeardAs}
use Rattle.bogtrumpet.specs.declared.answers.Asked.{Asked}
use Rattle.bogtrumpet.specs.declared.answers.Heard.{Heard}
use Rattle.bogtrumpet.specs.declared.steps.RouterStep.{RouterStep}
use Rattle.bogtrumpet.specs.declared.steps.GatheredStep.{GatheredStep}
use Rattle.bogtrumpet.specs.declared.steps.ReplacedStep.{ReplacedStep}
use Rattle.bogtrumpet.specs.declared.steps.SentStep.{SentStep}
use Rattle.bogtrumpet.specs.Lending.{with_service}
use Rattle.bogtrumpet.proofs.Changed.{at-time}

-- a call on the service of a number, as what it is for the first, for the second, and for no service
by_number_lem : {A : Type 0} (f : Bool → ServiceName → A) (call : ServiceName → A) (none : A) (both k : ℕ) → f true First ≡ call First → f (ltb 0 both) Second ≡ call Second → f false Second ≡ none
    → f (is_there both k) (name_of k) ≡ by_number k call none
by_number_lem f call none both k at_first at_second at_none = go (eqb k 0) (eqb k 1)
  where
    go : (a b : Bool) → f (cond a true (cond b (ltb 0 both) false)) (cond a First Second) ≡ cond a (call First) (cond b (call Second) none)
    go true b = at_first
    go false true = at_second
    go false false = at_none

abbrev pub size-among : Node → ServiceName → ℕ → ℕ → ℕ
size-among h w v t = in_force (service_of h w).settings.link_size (kept_among h.paths.neighbours h.paths.sizes h.paths.times h.paths.count v t)

pub size_is : (h : Node) (w : ServiceName) (v t : ℕ) → size-among h w v t ≡ path_size_at h w v t
unfolding path_size_at kept_in
size_is h w v t = refl

pub size_now : (h : Node) (k v : ℕ) → sized_step h.both k (path_size_at h (name_of k) v h.latest) ≡ by_number k (λ w. plain_sized (path_size_of h w v)) (plain_sized (Err NoLocator))
unfolding sized_step path_size_of
size_now h k v = by_number_lem (λ there w. plain_sized (cond there (Ok (path_size_at h w v h.latest)) (Err NoLocator))) (λ w. plain_sized (path_size_of h w v)) (plain_sized (Err NoLocator)) h.both k refl refl refl

module _ (h : Node) (k : ℕ) (p hop : List ℕ) (locator t : ℕ) (out : List ℕ) where
  -- over a path of that size
  abbrev Sent-same : ℕ → Type 0
  Sent-same size =
      ((sent_step (is_there h.both k) (service_of h (name_of k)) h.latest size p hop locator t (length out)).answer ≡ by_number k (λ w. plain_sent (send_of h w p hop locator t (length out)).answer) (plain_sent (sent.Refused NoLocator)))
      × (sent_after h k size p hop locator t (length out) ≡ by_number k (λ w. (send_of h w p hop locator t (length out)).node) (raised_to h t))
      × (sent_through (is_there h.both k) (service_of h (name_of k)) size p hop locator out ≡ by_number k (λ w. send_output h w p hop locator t out) out)

  at_size : Sent-same (path_size_toward h (name_of k) hop t)
  unfolding sent_step send_of sent_by sent_through send_output raised_to
  at_size =
      let step : Bool → ServiceName → SentStep = λ there w. sent_step there (service_of h w) h.latest (path_size_toward h w hop t) p hop locator t (length out) in (
        by_number_lem (λ there w. (step there w).answer) (λ w. plain_sent (send_of h w p hop locator t (length out)).answer) (plain_sent (sent.Refused NoLocator)) h.both k refl refl refl,
        by_number_lem (λ there w. node_with h w (with_identification (service_of h w) (step there w).identification) t) (λ w. (send_of h w p hop locator t (length out)).node) (raised_to h t) h.both k refl refl refl,
        by_number_lem (λ there w. sent_through there (service_of h w) (path_size_toward h w hop t) p hop locator out) (λ w. send_output h w p hop locator t out) out h.both k refl refl refl,
      )

  pub sent-same : (size : ℕ) → size ≡ path_size_toward h (name_of k) hop t → Sent-same size
  sent-same size sized = rw sized at_size

-- what is read comes to the same with a refusal's number for it
plain_judged_lem : (s : Settings) (routers : List Router) (x : Result Stage Refusal) → plain_judged s routers (plain_stage x) ≡ plain_received (judged_or s routers x)
unfolding judged_of
plain_judged_lem s routers (Ok x) = go x.open
  where
    go : (o : Option Opening) → plain_judged s routers (plain_open x.received o) ≡ plain_received (judged_of s routers (record { received = x.received; «open» = o }))
    go (Some y) = refl
    go None = refl
plain_judged_lem s routers (Err r) = refl

-- what is gathered, with one place changed or none, says all that is asked of receiving
module _ (s : Service) (now : ℕ) (d : List ℕ) (i : ℕ) (memory : List ℕ) where
  module _ (g : Gathered) where
    abbrev gathered : GatheredStep
    gathered = record { stage = plain_stage g.stage; stored = g.stored; latest = now }

    pub gathered-same : judged_with s.settings (live s.routers) s.pieces g ≡ collected_of s.settings (live s.routers) s.pieces now d i memory
        → IfSome g.stored (λ x. x.0 < places)
        → GatheredAs true s now d i memory gathered
    unfolding collected_by judged_step
    gathered-same told in_bounds = record {
      at-time = refl;
      next = ap (λ (c : Collected). with_pieces s c.pieces) told;
      answer = plain_judged_lem s.settings (live s.routers) g.stage ∙ ap (λ (c : Collected). plain_received c.answer) told;
      in_bounds = in_bounds;
    }

  pub absent-same : GatheredAs false s now d i memory (record { stage = plain_stage (Err NoLocator); stored = None; latest = now })
  unfolding collected_by judged_step judged_of
  absent-same = record { at-time = refl; next = refl; answer = refl; in_bounds = tt }

-- with the latest time it is the node's
module _ (h : Node) (k : ℕ) (d : List ℕ) (i t : ℕ) (memory : List ℕ) where
  abbrev service : Service
  service = service_of h (name_of k)

  abbrev there : Bool
  there = is_there h.both k

  abbrev now : ℕ
  now = max h.latest t

  as_numbered : (plain_received (collected_by there service now d i memory).answer ≡ by_number k (λ w. plain_received (receive_of h w d i t memory).answer) (plain_received (Err NoLocator)))
      × (node_with h (name_of k) (with_pieces service (collected_by there service now d i memory).pieces) t ≡ by_number k (λ w. (receive_of h w d i t memory).node) (raised_to h t))
      × (collected_through there service now d i memory ≡ by_number k (λ w. receive_memory h w d i t memory) memory)
  unfolding collected_by collected_through receive_of receive_memory raised_to
  as_numbered = (
    by_number_lem (λ there w. plain_received (collected_by there (service_of h w) now d i memory).answer) (λ w. plain_received (receive_of h w d i t memory).answer) (plain_received (Err NoLocator)) h.both k refl refl refl,
    by_number_lem (λ there w. node_with h w (with_pieces (service_of h w) (collected_by there (service_of h w) now d i memory).pieces) t) (λ w. (receive_of h w d i t memory).node) (raised_to h t) h.both k refl refl refl,
    by_number_lem (λ there w. collected_through there (service_of h w) now d i memory) (λ w. receive_memory h w d i t memory) memory h.both k refl refl refl,
  )

  pub received-same : (z : GatheredStep) → GatheredAs there service now d i memory z
      → (judged_step (gathered_after service z) z ≡ by_number k (λ w. plain_received (receive_of h w d i t memory).answer) (plain_received (Err NoLocator)))
      × (node_with h (name_of k) (gathered_after service z) t ≡ by_number k (λ w. (receive_of h w d i t memory).node) (raised_to h t))
      × (collected_through there service now d i memory ≡ by_number k (λ w. receive_memory h w d i t memory) memory)
  received-same z told = (told.answer ∙ as_numbered.0, ap (λ (s : Service). node_with h (name_of k) s t) told.next ∙ as_numbered.1, as_numbered.2)

-- the node whose service has that router list, at that time
abbrev pub routed : Node → ServiceName → RouterList → ℕ → Node
routed h w routers t = at-time (with_service h w (with_routers (service_of h w) routers)) t

pub asked-same : (h : Node) (k locator t : ℕ) (out : List ℕ) (z : RouterStep Asked) → AskedAs (is_there h.both k) (service_of h (name_of k)) h.latest locator t (length out) z
    → (z.answer ≡ by_number k (λ w. plain_asked (ask_of h w locator t (length out)).answer) (plain_asked (Err NoLocator)))
    × (routed h (name_of k) (list_after z.rescheduled (service_of h (name_of k)).routers) z.latest ≡ by_number k (λ w. (ask_of h w locator t (length out)).node) (raised_to h t))
    × (asked_through (is_there h.both k) (service_of h (name_of k)) (max h.latest t) locator out ≡ by_number k (λ w. ask_output h w locator t out) out)
unfolding ask_of ask_output asked_by asked_through raised_to
asked-same h k locator t out z so =
    let step : Bool → ServiceName → asking.Asked = λ there w. asked_by there (service_of h w) (max h.latest t) locator (length out) in (
      so.answer ∙ by_number_lem (λ there w. plain_asked (step there w).answer) (λ w. plain_asked (ask_of h w locator t (length out)).answer) (plain_asked (Err NoLocator)) h.both k refl refl refl,
      rw (so.list, so.at-time) (by_number_lem (λ there w. routed h w (step there w).routers (max h.latest t)) (λ w. (ask_of h w locator t (length out)).node) (raised_to h t) h.both k refl refl refl),
      by_number_lem (λ there w. asked_through there (service_of h w) (max h.latest t) locator out) (λ w. ask_output h w locator t out) out h.both k refl refl refl,
    )

pub heard-same : (h : Node) (k : ℕ) (p : List ℕ) (t : ℕ) (z : RouterStep Heard) → HeardAs (is_there h.both k) (service_of h (name_of k)) h.latest p t z
    → (z.answer ≡ by_number k (λ w. plain_heard (hear_of h w p t).answer) (plain_heard (Err NoLocator)))
    × (routed h (name_of k) (list_after z.rescheduled (service_of h (name_of k)).routers) z.latest ≡ by_number k (λ w. (hear_of h w p t).node) (raised_to h t))
unfolding hear_of heard_by raised_to
heard-same h k p t z so =
    let step : Bool → ServiceName → hearing.Heard = λ there w. heard_by there (service_of h w) (max h.latest t) p in (
      so.answer ∙ by_number_lem (λ there w. plain_heard (step there w).answer) (λ w. plain_heard (hear_of h w p t).answer) (plain_heard (Err NoLocator)) h.both k refl refl refl,
      rw (so.list, so.at-time) (by_number_lem (λ there w. routed h w (step there w).routers (max h.latest t)) (λ w. (hear_of h w p t).node) (raised_to h t) h.both k refl refl refl),
    )

pub replaced-same : (h : Node) (k : ℕ) (l : List ℕ) (n t : ℕ)
    → let step : ReplacedStep = replaced_step (is_there h.both k) (service_of h (name_of k)) h.latest l n t in
    (step.answer ≡ by_number k (λ w. (list_given (replace_of h w l n t).answer).number) (list_given (Err NoLocator)).number)
    × (routed h (name_of k) step.routers step.latest ≡ by_number k (λ w. (replace_of h w l n t).node) (raised_to h t))
unfolding replaced_step replace_of raised_to
replaced-same h k l n t =
    let step : Bool → ServiceName → ReplacedStep = λ there w. replaced_step there (service_of h w) h.latest l n t in (
      by_number_lem (λ there w. (step there w).answer) (λ w. (list_given (replace_of h w l n t).answer).number) (list_given (Err NoLocator)).number h.both k refl refl refl,
      by_number_lem (λ there w. routed h w (step there w).routers (step there w).latest) (λ w. (replace_of h w l n t).node) (raised_to h t) h.both k refl refl refl,
    )

pub advertised-same : (h : Node) (k : ℕ) (p : List ℕ) (locator : ℕ) (x : Advertisement) (out : List ℕ)
    → (plain_advertised (advertised_by (is_there h.both k) (service_of h (name_of k)) p locator x (length out)) ≡ by_number k (λ w. plain_advertised (advertise_of h w p locator x (length out))) (plain_advertised (Err NoLocator)))
    × (advertised_through (is_there h.both k) (service_of h (name_of k)) p locator x out ≡ by_number k (λ w. advertise_output h w p locator x out) out)
unfolding advertise_of advertise_output
advertised-same h k p locator x out = (
  by_number_lem (λ there w. plain_advertised (advertised_by there (service_of h w) p locator x (length out))) (λ w. plain_advertised (advertise_of h w p locator x (length out))) (plain_advertised (Err NoLocator)) h.both k refl refl refl,
  by_number_lem (λ there w. advertised_through there (service_of h w) p locator x out) (λ w. advertise_output h w p locator x out) out h.both k refl refl refl,
)
