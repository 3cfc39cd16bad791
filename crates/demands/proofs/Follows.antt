-- The plain record keeps up with the node: the same settings and latest time, and the table of the record's entries. Assumes nothing.
use Rattle.std.specs.Prelude.{Option, None, Some, Result, Ok, Err}
use Rattle.refusals.specs.declared.Refusal.{Refusal}
use Prim.Native.Nat.{ℕ, max}
use mathlib.Core.Path.{◌≡◌, refl, sym, ap, ◌∙◌}
use mathlib.Core.Bool.{Bool, true, false, cond}
use mathlib.Core.List.{List, [], ◌∷◌}
use native.Mathlib.Omega.{arith}
use lib.Dec.{ltb}
use lib.ListN.{length}
use Rattle.address.specs.Address.{last_quad}
use Rattle.settings.specs.Settings.{is_accepted, are_pair_accepted}
use Rattle.settings.specs.declared.Settings.{Settings}
use Rattle.paths.proofs.Claim.{table_of}
use Rattle.paths.specs.declared.PathTable.{PathTable}
use Rattle.paths.proofs.Answers.{same_in_force}
use Rattle.sending.specs.Sending.{sent_of, send_given}
use Rattle.reports.specs.Report.{judged_of, neighbour_in, answer_at, answer_toward, report_given}
use Rattle.reports.specs.declared.Report.{Report}
use Rattle.node.specs.Node.{service_from, node_of, pair_of, setup_of, setup_pair_of, service_of, has_service, path_size_at}
use Rattle.node.specs.Send.{sent_by, send_of}
use Rattle.node.specs.Report.{quotes_other, reported_to, paths_after, report_answer_of}
use Rattle.node.specs.declared.Node.{Node}
use Rattle.node.specs.declared.ServiceName.{ServiceName}
use Rattle.node.specs.declared.ServiceName.TheVariants.{First, Second}
use Rattle.demands.specs.Starts.{Start, accepted_with, is_right, made_with, start_of, settings_of}
use Rattle.demands.specs.Calls.{NodeCall, Outcome, outcome_of, OfSizes, a_sending, a_report, no_size, view_of, node_after}
use Rattle.demands.specs.Plain.{Plain, fresh_plain, raised, entered, plain_size, reported_with, sent_with, plain_report, plain_given, plain_entered, plain_next, plain_after, plain_run, given_if, run}
use Rattle.demands.proofs.Left.{Left, left}

-- the second service is there with these settings, or there is none
abbrev pub SecondIs : Option Settings → Node → Type 0
SecondIs None n = ltb 0 n.both ≡ false
SecondIs (Some b) n = (n.second.settings ≡ b) × (ltb 0 n.both ≡ true)

pub record Follows (s : Start) (n : Node) (r : Plain) : Type 0 where
  pub first : n.first.settings ≡ s.first
  pub second : SecondIs s.second n
  pub latest : n.latest ≡ r.latest
  pub paths : n.paths ≡ table_of r.entries

one_follows : (a : Settings) → is_accepted a ≡ true → Follows (record { first = a; second = None }) (setup_of a).node fresh_plain
unfolding setup_of node_of service_from
one_follows a h = record { first = rw h; second = rw h; latest = rw h; paths = rw h }

pair_follows : (a b : Settings) → are_pair_accepted a b ≡ true → Follows (record { first = a; second = Some b }) (setup_pair_of a b).node fresh_plain
unfolding setup_pair_of pair_of service_from
pair_follows a b h = record { first = rw h; second = (rw h, rw h); latest = rw h; paths = rw h }

made_follows : (a : Settings) (o : Option Settings) → accepted_with a o ≡ true → Follows (record { first = a; second = o }) (made_with a o) fresh_plain
made_follows a None h = one_follows a h
made_follows a (Some b) h = pair_follows a b h

pub fresh_follows : (s : Start) → is_right s ≡ true → Follows s (start_of s) fresh_plain
fresh_follows s h = made_follows s.first s.second h

pub same_some : (a b : Settings) → Some a ≡ Some b → a ≡ b
same_some a b e = cc

pub no_some : (b : Settings) → None ≡ Some b → ⊥
no_some b e = let z : ◌≡◌ {A = ℕ} 0 1 = ap marked e in omega arith
  where
    marked : Option Settings → ℕ
    marked None = 0
    marked (Some t) = 1

-- what an answer to a report leaves of both
same_entries : (r : Plain) (a : Result Report Refusal) (t : PathTable) → t ≡ table_of r.entries
    → (paths_after a t r.latest ≡ table_of (entered r a).entries) × ((entered r a).latest ≡ r.latest)
same_entries r (Ok report) t e = (rw e, refl)
same_entries r (Err x) t e = (e, refl)

module _ (s : Start) where
  module _ (n : Node) (r : Plain) (f : Follows s n r) where
    -- a service has its settings, and is there
    second-settings : (t : Settings) (o : Option Settings) → SecondIs o n → o ≡ Some t → (n.second.settings ≡ t) × (ltb 0 n.both ≡ true)
    second-settings t None is e = absurd (no_some t e)
    second-settings t (Some b) is e = (is.0 ∙ same_some b t e, is.1)

    second_none : (o : Option Settings) → SecondIs o n → o ≡ None → ltb 0 n.both ≡ false
    second_none None is e = is
    second_none (Some b) is e = absurd (no_some b (sym e))

    pub its-settings : (w : ServiceName) (t : Settings) → settings_of s w ≡ Some t → ((service_of n w).settings ≡ t) × (has_service n w ≡ true)
    its-settings First t e = (f.first ∙ same_some s.first t e, refl)
    its-settings Second t e = second-settings t s.second f.second e

    not_there : (w : ServiceName) → settings_of s w ≡ None → has_service n w ≡ false
    not_there First e = absurd (no_some s.first (sym e))
    not_there Second e = second_none s.second f.second e

    -- toward any neighbour and at any time both have the same size, for a service of these settings
    sized : (w : ServiceName) (t : Settings) → (service_of n w).settings ≡ t → (v time : ℕ) → path_size_at n w v (max n.latest time) ≡ plain_size t (raised r time) v
    unfolding path_size_at
    sized w t is v time = rw (is, f.latest, f.paths) (same_in_force r.entries v (max r.latest time) t.link_size)

    pub size-at : (w : ServiceName) (t : Settings) → settings_of s w ≡ Some t → (v time : ℕ) → path_size_at n w v (max n.latest time) ≡ plain_size t (raised r time) v
    size-at w t e = sized w t (its-settings w t e).0

    same-send : (w : ServiceName) (packet hop : List ℕ) (k time room : ℕ) → (send_of n w packet hop k time room).answer ≡ sent_with (settings_of s w) (raised r time) packet hop k room
    unfolding send_of sent_by sent_of
    same-send w packet hop k time room = go (settings_of s w) refl
      where
        go : (o : Option Settings) → settings_of s w ≡ o → (send_of n w packet hop k time room).answer ≡ sent_with o (raised r time) packet hop k room
        go None e = rw (not_there w e)
        go (Some t) e = rw ((its-settings w t e).1, (its-settings w t e).0, size-at w t e (last_quad hop) time)

    -- a report, once it is known whose it is
    by_name : (m : List ℕ) (time : ℕ) (w : ServiceName) (t : Settings) → (service_of n w).settings ≡ t
        → answer_at (judged_of (service_of n w).settings m) (path_size_at n w (neighbour_in (judged_of (service_of n w).settings m)) (max n.latest time)) ≡ answer_toward t m (plain_size t (raised r time))
    by_name m time w t is = rw (is, sized w t is (neighbour_in (judged_of t m)) time)

    -- whose it is
    belongs : (m : List ℕ) (b : Settings) → SecondIs (Some b) n → reported_to n m ≡ cond (quotes_other s.first b m) Second First
    unfolding reported_to
    belongs m b is = rw (is.1, f.first, is.0)

    belongs_first : (m : List ℕ) → SecondIs None n → reported_to n m ≡ First
    unfolding reported_to
    belongs_first m is = rw is

    same-report : (m : List ℕ) (time : ℕ) → report_answer_of n m (max n.latest time) ≡ plain_report s (raised r time) m
    unfolding report_answer_of
    same-report m time = go s.second f.second
      where
        answered : ServiceName → Result Report Refusal
        answered w = answer_at (judged_of (service_of n w).settings m) (path_size_at n w (neighbour_in (judged_of (service_of n w).settings m)) (max n.latest time))

        pick_by : (b : Settings) → n.second.settings ≡ b → (q : Bool) → answered (cond q Second First) ≡ answer_toward (cond q b s.first) m (plain_size (cond q b s.first) (raised r time))
        pick_by b is true = by_name m time Second b is
        pick_by b is false = by_name m time First s.first f.first

        go : (o : Option Settings) → SecondIs o n
            → answered (reported_to n m) ≡ answer_toward (reported_with s.first o m) m (plain_size (reported_with s.first o m) (raised r time))
        go None is = ap answered (belongs_first m is) ∙ by_name m time First s.first f.first
        go (Some b) is = ap answered (belongs m b is) ∙ pick_by b is.0 (quotes_other s.first b m)

    module _ (time room : ℕ) (o : Outcome) where
      same-given : (c : OfSizes) → Left n time room c o → given_if c o.given ≡ plain_given s (raised r time) room c
      same-given (a_sending w packet hop k) l = ap Some (l.sizes.0 ∙ ap send_given (same-send w packet hop k time room))
      same-given (a_report m) l = ap Some (l.sizes.0 ∙ ap report_given (same-report m time))
      same-given no_size l = refl

      -- the settings of the second service stay
      second_left : (c : OfSizes) → Left n time room c o → (t : Option Settings) → SecondIs t n → SecondIs t o.node
      second_left c l None is = rw l.both is
      second_left c l (Some b) is = (l.settings Second ∙ is.0, rw l.both is.1)

      follows_left : (c : OfSizes) → Left n time room c o → Follows s o.node (plain_entered s (raised r time) c)
      follows_left (a_sending w packet hop k) l =
          record { first = l.settings First ∙ f.first; second = second_left _ l s.second f.second; latest = rw (l.latest, f.latest); paths = rw (l.sizes.1, f.paths) }
      follows_left (a_report m) l =
          let e = same_entries (raised r time) (plain_report s (raised r time) m) n.paths f.paths in
          record {
            first = l.settings First ∙ f.first;
            second = second_left _ l s.second f.second;
            latest = rw (e.1, l.latest, f.latest);
            paths = rw (l.sizes.1, same-report m time, f.latest) e.0;
          }
      follows_left no_size l =
          record { first = l.settings First ∙ f.first; second = second_left _ l s.second f.second; latest = rw (l.latest, f.latest); paths = rw (l.sizes, f.paths) }

    follows_next : (x : NodeCall) → Follows s (outcome_of n x).node (plain_next s r x)
    follows_next x = follows_left (view_of x).time (length (view_of x).lent) (outcome_of n x) (view_of x).sizes (left n x)

  pub same-run : (n : Node) (r : Plain) → Follows s n r → (xs : List NodeCall) → run n xs ≡ plain_run s r xs
  same-run n r f [] = refl
  same-run n r f (x ∷ xs) =
      cc (
        same-given n r f (view_of x).time (length (view_of x).lent) (outcome_of n x) (view_of x).sizes (left n x),
        same-run (outcome_of n x).node (plain_next s r x) (follows_next n r f x) xs,
      )

  pub follows_after : (n : Node) (r : Plain) → Follows s n r → (xs : List NodeCall) → Follows s (node_after n xs) (plain_after s r xs)
  follows_after n r f [] = f
  follows_after n r f (x ∷ xs) = follows_after (outcome_of n x).node (plain_next s r x) (follows_next n r f x) xs
