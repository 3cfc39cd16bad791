-- Neither service sees how the other is set up: two nodes that are alike to the service beside x stay so. Assumes nothing.
use Rattle.std.specs.Prelude.{Option, None, Some, Result}
use Rattle.refusals.specs.declared.Refusal.{Refusal}
use Prim.Native.Nat.{ℕ, max}
use mathlib.Core.Path.{◌≡◌, refl, sym, ap, subst, ◌∙◌}
use mathlib.Core.Logic.{◌⊎◌, ⊎_elim, inl, inr}
use mathlib.Core.Bool.{true}
use mathlib.Core.List.{List, [], ◌∷◌}
use lib.Dec.{ltb}
use Rattle.refusals.specs.Given.{Given}
use Rattle.header.specs.Outer.{outer_of, quote_of}
use Rattle.header.specs.declared.outer.Outer.{Outer}
use Rattle.settings.specs.Settings.{forbidden_to, is_ours, is_bad_end}
use Rattle.settings.specs.declared.Settings.{Settings}
use Rattle.paths.specs.Table.{no_reports}
use Rattle.reports.specs.Report.{is_quote_foreign, report_check, judged_of, neighbour_in, answer_at, report_given}
use Rattle.reports.specs.declared.Report.{Report}
use Rattle.advertisements.specs.declared.Advertisement.{Advertisement}
use Rattle.node.specs.Node.{no_settings, service_from, node_of, pair_of, service_of, has_service, node_with, path_size_at}
use Rattle.node.specs.Size.{path_size_of}
use Rattle.node.specs.Receive.{receive_of, receive_memory, part_in}
use Rattle.node.specs.Send.{send_of, send_output}
use Rattle.node.specs.Report.{quotes_other, reported_to, paths_after, report_answer_of}
use Rattle.node.specs.RouterList.{replace_of}
use Rattle.node.specs.Ask.{ask_of, ask_output}
use Rattle.node.specs.Hear.{hear_of}
use Rattle.node.specs.Advertise.{advertise_of, advertise_output}
use Rattle.node.specs.declared.Node.{Node}
use Rattle.node.specs.declared.Service.{Service}
use Rattle.node.specs.declared.ServiceName.{ServiceName}
use Rattle.node.specs.declared.ServiceName.TheVariants.{First, Second}
use Rattle.node.proofs.Services.{put_same}
use Rattle.demands.specs.Starts.{Start, accepted_with, is_right, made_with, start_of, settings_of}
use Rattle.demands.specs.Calls.{NodeCall, receiving, receiving_part, sending, reporting, relisting, asking, hearing, advertising, Outcome, outcome_of, view_of, node_after}
use Rattle.demands.specs.NonInterference.{beside, SeenAlike, BothAlike, AlikeBut, AlikeCall, AlikeCalls, seen_beside, run_beside, NonInterference}
use Rattle.demands.proofs.Left.{left}
use Rattle.demands.proofs.Others.{others_left, not_same, not-same-back, no_name}
use Rattle.demands.proofs.RightSettings.{made-node, paired_node}

-- two nodes that are alike to the service beside x
pub record Alike (x : ServiceName) (n m : Node) : Type 0 where
  pub its : SeenAlike (service_of n x).settings (service_of m x).settings
  pub others : service_of n (beside x) ≡ service_of m (beside x)
  pub both : n.both ≡ m.both
  pub paths : n.paths ≡ m.paths
  pub latest : n.latest ≡ m.latest

-- ---- what a call makes of a service

-- two outcomes of a call that names w
record Same (w : ServiceName) (o p : Outcome) : Type 0 where
  given : o.given ≡ p.given
  output : o.output ≡ p.output
  service : service_of o.node w ≡ service_of p.node w

module _ (w : ServiceName) (n m : Node) (here : service_of n w ≡ service_of m w) (there : has_service n w ≡ has_service m w) (paths : n.paths ≡ m.paths) (latest : n.latest ≡ m.latest) where
  now : (time : ℕ) → max n.latest time ≡ max m.latest time
  now time = ap (λ (t : ℕ). max t time) latest

  size : (v time : ℕ) → path_size_at n w v (max n.latest time) ≡ path_size_at m w v (max m.latest time)
  unfolding path_size_at
  size v time = rw (here, paths, latest)

  -- a service that is put back in both
  put : (s t : Service) (time : ℕ) → s ≡ t → service_of (node_with n w s time) w ≡ service_of (node_with m w t time) w
  put s t time e = put_same n w s time ∙ e ∙ sym (put_same m w t time)

  received : (d : List ℕ) (interface time : ℕ) (memory : List ℕ) → Same w (outcome_of n (receiving w d interface time memory)) (outcome_of m (receiving w d interface time memory))
  unfolding receive_of receive_memory
  received d interface time memory = record {
    given = rw (there, here, now time);
    output = rw (there, here, now time);
    service = put _ _ time (rw (there, here, now time));
  }

  part : (d : List ℕ) (interface : ℕ) → Same w (outcome_of n (receiving_part w d interface)) (outcome_of m (receiving_part w d interface))
  unfolding part_in
  part d interface = record { given = rw (there, here); output = refl; service = here }

  sent : (packet hop : List ℕ) (k time : ℕ) (out : List ℕ) → Same w (outcome_of n (sending w packet hop k time out)) (outcome_of m (sending w packet hop k time out))
  unfolding send_of send_output
  sent packet hop k time out = record {
    given = rw (there, size, here);
    output = rw (there, size, here);
    service = put _ _ time (rw (there, size, here));
  }

  relisted : (addresses : List ℕ) (count time : ℕ) → Same w (outcome_of n (relisting w addresses count time)) (outcome_of m (relisting w addresses count time))
  unfolding replace_of
  relisted addresses count time = record { given = rw (there, here, now time); output = refl; service = put _ _ time (rw (there, here, now time)) }

  asked : (k time : ℕ) (out : List ℕ) → Same w (outcome_of n (asking w k time out)) (outcome_of m (asking w k time out))
  unfolding ask_of ask_output
  asked k time out = record {
    given = rw (there, here, now time);
    output = rw (there, here, now time);
    service = put _ _ time (rw (there, here, now time));
  }

  heard : (packet : List ℕ) (time : ℕ) → Same w (outcome_of n (hearing w packet time)) (outcome_of m (hearing w packet time))
  unfolding hear_of
  heard packet time = record { given = rw (there, here, now time); output = refl; service = put _ _ time (rw (there, here, now time)) }

  advertised : (packet : List ℕ) (k : ℕ) (a : Advertisement) (out : List ℕ) → Same w (outcome_of n (advertising w packet k a out)) (outcome_of m (advertising w packet k a out))
  unfolding advertise_of advertise_output
  advertised packet k a out = record { given = rw (there, here); output = rw (there, here); service = here }

  -- every call that names the service
  same_name : (u v : ServiceName) → Some u ≡ Some v → u ≡ v
  same_name First First e = refl
  same_name First Second e = absurd (not-same-back e)
  same_name Second First e = absurd (not_same e)
  same_name Second Second e = refl

  same-call : (c : NodeCall) → (view_of c).service ≡ Some w → Same w (outcome_of n c) (outcome_of m c)
  same-call (receiving v d interface time memory) e = rw (same_name v w e) (received d interface time memory)
  same-call (receiving_part v d interface) e = rw (same_name v w e) (part d interface)
  same-call (sending v packet hop k time out) e = rw (same_name v w e) (sent packet hop k time out)
  same-call (reporting r time) e = absurd (no_name w e)
  same-call (relisting v addresses count time) e = rw (same_name v w e) (relisted addresses count time)
  same-call (asking v k time out) e = rw (same_name v w e) (asked k time out)
  same-call (hearing v packet time) e = rw (same_name v w e) (heard packet time)
  same-call (advertising v packet k a out) e = rw (same_name v w e) (advertised packet k a out)

-- ---- what a report makes of settings that are seen alike

module _ (s t : Settings) (a : SeenAlike s t) where
  ours_same : (v : ℕ) → is_ours s v ≡ is_ours t v
  unfolding is_ours
  ours_same v = rw a.locators

  bad_same : (v : ℕ) → is_bad_end s v ≡ is_bad_end t v
  unfolding is_bad_end forbidden_to
  bad_same v = rw (ours_same v)

  foreign-same : (q : Outer) → is_quote_foreign s q ≡ is_quote_foreign t q
  unfolding is_quote_foreign
  foreign-same q = rw (ours_same q.source, bad_same q.destination)

  judged-same : (r : List ℕ) → judged_of s r ≡ judged_of t r
  unfolding judged_of report_check
  judged-same r = rw (foreign-same (outer_of (quote_of r)))

-- the same settings are seen alike
seen_same : (s t : Settings) → s ≡ t → SeenAlike s t
seen_same s t e = subst (λ (q : Settings). SeenAlike s q) e (record { locators = refl; link_size = refl })

module _ (x : ServiceName) (n m : Node) (a : Alike x n m) where
  -- both services are seen alike, and are there in both
  alike_in : (y : ServiceName) → SeenAlike (service_of n y).settings (service_of m y).settings → service_of n (beside y) ≡ service_of m (beside y)
      → (w : ServiceName) → SeenAlike (service_of n w).settings (service_of m w).settings
  alike_in First its others First = its
  alike_in First its others Second = seen_same _ _ (ap (λ (q : Service). q.settings) others)
  alike_in Second its others First = seen_same _ _ (ap (λ (q : Service). q.settings) others)
  alike_in Second its others Second = its

  alike : (w : ServiceName) → SeenAlike (service_of n w).settings (service_of m w).settings
  alike = alike_in x a.its a.others

  has_same : (w : ServiceName) → has_service n w ≡ has_service m w
  has_same First = refl
  has_same Second = ap (λ (k : ℕ). ltb 0 k) a.both

  belongs_same : (r : List ℕ) → reported_to n r ≡ reported_to m r
  unfolding reported_to quotes_other
  belongs_same r = rw (a.both, ours_same _ _ (alike First) (outer_of (quote_of r)).source, ours_same _ _ (alike Second) (outer_of (quote_of r)).source)

  size_same : (w : ServiceName) (v time : ℕ) → path_size_at n w v (max n.latest time) ≡ path_size_at m w v (max m.latest time)
  unfolding path_size_at
  size_same w v time = rw ((alike w).link_size, a.paths, a.latest)

  abbrev answered : Node → ServiceName → List ℕ → ℕ → Result Report Refusal
  answered k w r now = answer_at (judged_of (service_of k w).settings r) (path_size_at k w (neighbour_in (judged_of (service_of k w).settings r)) now)

  by_name : (w : ServiceName) (r : List ℕ) (time : ℕ) → answered n w r (max n.latest time) ≡ answered m w r (max m.latest time)
  by_name w r time =
      let j = judged-same (service_of n w).settings (service_of m w).settings (alike w) r in
      rw (j, size_same w (neighbour_in (judged_of (service_of m w).settings r)) time)

  report-same : (r : List ℕ) (time : ℕ) → report_answer_of n r (max n.latest time) ≡ report_answer_of m r (max m.latest time)
  unfolding report_answer_of
  report-same r time =
      by_name (reported_to n r) r time ∙ ap (λ (w : ServiceName). answered m w r (max m.latest time)) (belongs_same r)

  -- ---- the nodes after a call

  -- a call that names a service leaves the path sizes
  kept_paths : (k : Node) (c : NodeCall) (w : ServiceName) → (view_of c).service ≡ Some w → (outcome_of k c).node.paths ≡ k.paths
  kept_paths k (receiving v d interface time memory) w e = (left k (receiving v d interface time memory)).sizes
  kept_paths k (receiving_part v d interface) w e = refl
  kept_paths k (sending v packet hop i time out) w e = (left k (sending v packet hop i time out)).sizes.1
  kept_paths k (reporting r time) w e = absurd (no_name w e)
  kept_paths k (relisting v addresses count time) w e = (left k (relisting v addresses count time)).sizes
  kept_paths k (asking v i time out) w e = (left k (asking v i time out)).sizes
  kept_paths k (hearing v packet time) w e = (left k (hearing v packet time)).sizes
  kept_paths k (advertising v packet i b out) w e = refl

  module _ (c d : NodeCall) (time : (view_of c).time ≡ (view_of d).time) where
    same-time : max n.latest (view_of c).time ≡ max m.latest (view_of d).time
    same-time = rw (a.latest, time)

    next_alike : service_of (outcome_of n c).node (beside x) ≡ service_of (outcome_of m d).node (beside x) → (outcome_of n c).node.paths ≡ (outcome_of m d).node.paths
        → Alike x (outcome_of n c).node (outcome_of m d).node
    next_alike others paths = record {
      its = rw ((left n c).settings x, (left m d).settings x) a.its;
      others = others;
      both = (left n c).both ∙ a.both ∙ sym (left m d).both;
      paths = paths;
      latest = (left n c).latest ∙ same-time ∙ sym (left m d).latest;
    }

  apart : (y : ServiceName) → Some y ≡ Some (beside y) → ⊥
  apart First e = not-same-back e
  apart Second e = not_same e

  -- two calls of the service x
  of-its-own : (c d : NodeCall) → (view_of c).service ≡ Some x → (view_of d).service ≡ Some x → (view_of c).time ≡ (view_of d).time → Alike x (outcome_of n c).node (outcome_of m d).node
  of-its-own c d e f time =
      next_alike c d time
      (others_left n c (beside x) (λ h. apart x (sym e ∙ h)) ∙ a.others ∙ sym (others_left m d (beside x) (λ h. apart x (sym f ∙ h))))
      (kept_paths n c x e ∙ a.paths ∙ sym (kept_paths m d x f))

  -- a call of the service beside it
  of_the_other : (c : NodeCall) → (view_of c).service ≡ Some (beside x) → Same (beside x) (outcome_of n c) (outcome_of m c)
  of_the_other c e = same-call (beside x) n m a.others (has_same (beside x)) a.paths a.latest c e

  other_alike : (c : NodeCall) → (view_of c).service ≡ Some (beside x) → Alike x (outcome_of n c).node (outcome_of m c).node
  other_alike c e = next_alike c c refl (of_the_other c e).service (kept_paths n c (beside x) e ∙ a.paths ∙ sym (kept_paths m c (beside x) e))

  -- a report
  same_table : (r : List ℕ) (time : ℕ)
      → paths_after (report_answer_of n r (max n.latest time)) n.paths (max n.latest time) ≡ paths_after (report_answer_of m r (max m.latest time)) m.paths (max m.latest time)
  same_table r time = rw (report-same r time, a.paths, a.latest)

  report_alike : (r : List ℕ) (time : ℕ) → Alike x (outcome_of n (reporting r time)).node (outcome_of m (reporting r time)).node
  report_alike r time =
      next_alike (reporting r time) (reporting r time) refl
      (others_left n (reporting r time) (beside x) (λ h. no_name (beside x) h) ∙ a.others ∙ sym (others_left m (reporting r time) (beside x) (λ h. no_name (beside x) h)))
      ((left n (reporting r time)).sizes.1 ∙ same_table r time ∙ sym (left m (reporting r time)).sizes.1)

  report-given : (r : List ℕ) (time : ℕ) → (outcome_of n (reporting r time)).given ≡ (outcome_of m (reporting r time)).given
  report-given r time = (left n (reporting r time)).sizes.0 ∙ ap report_given (report-same r time) ∙ sym (left m (reporting r time)).sizes.0

-- ---- lists of calls

-- what is seen of a call, and that the nodes after it are alike
record Onward (x : ServiceName) (n m : Node) (c d : NodeCall) : Type 0 where
  seen : seen_beside x (view_of c).service (outcome_of n c) ≡ seen_beside x (view_of d).service (outcome_of m d)
  next : Alike x (outcome_of n c).node (outcome_of m d).node

own_unseen : (x : ServiceName) (o : Outcome) → seen_beside x (Some x) o ≡ None
own_unseen First o = refl
own_unseen Second o = refl

other_seen : (x : ServiceName) (o : Outcome) → seen_beside x (Some (beside x)) o ≡ Some (record { given = o.given; output = o.output })
other_seen First o = refl
other_seen Second o = refl

either : (x w : ServiceName) → (w ≡ x) ⊎ (w ≡ beside x)
either First First = inl refl
either First Second = inr refl
either Second First = inr refl
either Second Second = inl refl

module _ (x : ServiceName) (n m : Node) (a : Alike x n m) where
  unlike : (c d : NodeCall) → (view_of c).service ≡ Some x → (view_of d).service ≡ Some x → (view_of c).time ≡ (view_of d).time → Onward x n m c d
  unlike c d e f time = record { seen = rw (e, f, own_unseen x (outcome_of n c), own_unseen x (outcome_of m d)); next = of-its-own x n m a c d e f time }

  -- the same call, by the service that it names
  named : (c : NodeCall) (w : ServiceName) → (view_of c).service ≡ Some w → Onward x n m c c
  named c w e =
      ⊎_elim
      (λ (own : w ≡ x). unlike c c (e ∙ ap Some own) (e ∙ ap Some own) refl)
      (λ (other : w ≡ beside x).
      let f = e ∙ ap Some other in
      let same = of_the_other x n m a c f in
      record {
        seen = rw (f, other_seen x (outcome_of n c), other_seen x (outcome_of m c), same.given, same.output);
        next = other_alike x n m a c f;
      })
      (either x w)

  the_same : (c : NodeCall) → Onward x n m c c
  the_same (receiving v d interface time memory) = named (receiving v d interface time memory) v refl
  the_same (receiving_part v d interface) = named (receiving_part v d interface) v refl
  the_same (sending v packet hop k time out) = named (sending v packet hop k time out) v refl
  the_same (reporting r time) = record {
    seen = ap (λ (g : Given). Some (record { given = g; output = [] })) (report-given x n m a r time);
    next = report_alike x n m a r time;
  }
  the_same (relisting v addresses count time) = named (relisting v addresses count time) v refl
  the_same (asking v k time out) = named (asking v k time out) v refl
  the_same (hearing v packet time) = named (hearing v packet time) v refl
  the_same (advertising v packet k b out) = named (advertising v packet k b out) v refl

  onward : (c d : NodeCall) → AlikeCall x c d → Onward x n m c d
  onward c d h = ⊎_elim (λ (e : c ≡ d). subst (λ (z : NodeCall). Onward x n m c z) e (the_same c)) (λ u. unlike c d u.0 u.1 u.2) h

-- what is seen of lists, and that the nodes after them are alike
module _ (x : ServiceName) where
  seen_all : (n m : Node) → Alike x n m → (cs ds : List NodeCall) → AlikeCalls x cs ds
      → (run_beside x n cs ≡ run_beside x m ds) × Alike x (node_after n cs) (node_after m ds)
  seen_all n m a [] [] h = (refl, a)
  seen_all n m a [] (d ∷ ds) h = absurd h
  seen_all n m a (c ∷ cs) [] h = absurd h
  seen_all n m a (c ∷ cs) (d ∷ ds) h =
      let o = onward x n m a c d h.0 in
      let rest = seen_all (outcome_of n c).node (outcome_of m d).node o.next cs ds h.1 in
      (cc (o.seen, rest.0), rest.1)

-- ---- the nodes that settings make

abbrev or_none : Option Settings → Settings
or_none None = no_settings
or_none (Some s) = s

abbrev both_of : Option Settings → ℕ
both_of None = 0
both_of (Some s) = 1

-- what the node of a start is
record MadeOf (s : Start) (n : Node) : Type 0 where
  services : (w : ServiceName) → service_of n w ≡ service_from (or_none (settings_of s w))
  both : n.both ≡ both_of s.second
  paths : n.paths ≡ no_reports
  latest : n.latest ≡ 0

one-made : (a : Settings) → MadeOf (record { first = a; second = None }) (node_of a)
unfolding node_of
one-made a = record { services = services; both = refl; paths = refl; latest = refl }
  where
    services : (w : ServiceName) → service_of (node_of a) w ≡ service_from (or_none (settings_of (record { first = a; second = None }) w))
    services First = refl
    services Second = refl

pair_made : (a b : Settings) → MadeOf (record { first = a; second = Some b }) (pair_of a b)
unfolding pair_of
pair_made a b = record { services = services; both = refl; paths = refl; latest = refl }
  where
    services : (w : ServiceName) → service_of (pair_of a b) w ≡ service_from (or_none (settings_of (record { first = a; second = Some b }) w))
    services First = refl
    services Second = refl

made_of : (a : Settings) (o : Option Settings) → accepted_with a o ≡ true → MadeOf (record { first = a; second = o }) (made_with a o)
made_of a None h = subst (λ (n : Node). MadeOf (record { first = a; second = None }) n) (sym (made-node a h)) (one-made a)
made_of a (Some b) h = subst (λ (n : Node). MadeOf (record { first = a; second = Some b }) n) (sym (paired_node a b h)) (pair_made a b)

alike_none : (o p : Option Settings) → BothAlike o p → SeenAlike (or_none o) (or_none p)
alike_none None None h = seen_same no_settings no_settings refl
alike_none None (Some b) h = absurd h
alike_none (Some a) None h = absurd h
alike_none (Some a) (Some b) h = h

alike_both : (o p : Option Settings) → BothAlike o p → both_of o ≡ both_of p
alike_both None None h = refl
alike_both None (Some b) h = absurd h
alike_both (Some a) None h = absurd h
alike_both (Some a) (Some b) h = refl

both-same : (x : ServiceName) (s t : Start) → AlikeBut x s t → both_of s.second ≡ both_of t.second
both-same First s t h = ap both_of h.others
both-same Second s t h = alike_both s.second t.second h.its

start_alike : (x : ServiceName) (s t : Start) → is_right s ≡ true → is_right t ≡ true → AlikeBut x s t → Alike x (start_of s) (start_of t)
unfolding service_from
start_alike x s t p q h =
    let f = made_of s.first s.second p in
    let g = made_of t.first t.second q in
    record {
      its = rw (f.services x, g.services x) (alike_none (settings_of s x) (settings_of t x) h.its);
      others = f.services (beside x) ∙ ap (λ (o : Option Settings). service_from (or_none o)) h.others ∙ sym (g.services (beside x));
      both = f.both ∙ both-same x s t h ∙ sym g.both;
      paths = f.paths ∙ sym g.paths;
      latest = f.latest ∙ sym g.latest;
    }

-- the size in force for the service beside x
asked-size : (x : ServiceName) (n m : Node) → Alike x n m → (v : ℕ) → path_size_of n (beside x) v ≡ path_size_of m (beside x) v
unfolding path_size_of path_size_at
asked-size x n m a v = rw (has_same x n m a (beside x), a.others, a.paths, a.latest)

pub non_interference : NonInterference
unfolding NonInterference
non_interference x s t p q h cs ds alike =
    let r = seen_all x (start_of s) (start_of t) (start_alike x s t p q h) cs ds alike in
    record { calls = r.0; sizes = asked-size x (node_after (start_of s) cs) (node_after (start_of t) ds) r.1 }

-- settings that differ in routers, prefixes and first identification alone are seen alike
pub differ_in_these : (s : Settings) (routers : List ℕ) (m : ℕ) (prefixes : List ℕ) (n i : ℕ)
    → SeenAlike s (record {
      locators = s.locators;
      locator_count = s.locator_count;
      prefixes = prefixes;
      prefix_count = n;
      routers = routers;
      router_count = m;
      link_size = s.link_size;
      ttl = s.ttl;
      interval = s.interval;
      identification = i;
      reporting = s.reporting;
    })
differ_in_these s routers m prefixes n i = record { locators = refl; link_size = refl }
