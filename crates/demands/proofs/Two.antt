-- Demand 2 holds of every node: each call's own law, at what is in force. Assumes nothing.
use Rattle.std.specs.Prelude.{Err}
use Prim.Native.Nat.{ℕ, max}
use mathlib.Core.Path.{◌≡◌, refl, sym, ap, ◌∙◌}
use mathlib.Core.Bool.{Bool, true, false, cond, not, ◌&&◌, false≢true}
use mathlib.Core.List.{List}
use lib.Dec.{ltb}
use lib.ListN.{length}
use Rattle.address.specs.Address.{link_local_of}
use Rattle.lists.proofs.Decides.{Decides, refutes, decides_and}
use Rattle.refusals.specs.declared.Refusal.TheVariants as refusal
use Rattle.header.specs.Fields.{quad_at}
use Rattle.header.specs.Outer.{outer_of, quote_of}
use Rattle.settings.specs.Settings.{defaults_for, is_ours, are_routers_right}
use Rattle.settings.proofs.Facts.{decides_ours}
use Rattle.routers.specs.Routers.{live, replaced_of}
use Rattle.pieces.proofs.Exactly.{piece-exactly}
use Rattle.pieces.proofs.History.{history_tells}
use Rattle.pieces.proofs.ByHistory.{history_exactly}
use Rattle.reports.specs.Accepts.{WellFormed, ReportedExactly}
use Rattle.reports.proofs.AcceptsLaws.{reported-exactly}
use Rattle.sending.specs.Exactly.{SentExactly}
use Rattle.sending.specs.Sending.{sent_of, sent_output}
use Rattle.sending.specs.declared.Sent as sending
use Rattle.sending.proofs.ExactlyLaws.{sent-exactly}
use Rattle.receiving.proofs.Collected.{collected-exactly}
use Rattle.receiving.proofs.Delivered.{delivers_exactly}
use Rattle.asking.proofs.Laws.{asked-exactly}
use Rattle.hearing.proofs.Laws.{heard-exactly}
use Rattle.advertising.proofs.Laws.{advertised-exactly}
use Rattle.node.specs.Node.{service_of, has_service, node_with, path_size_at}
use Rattle.node.specs.Size.{path_size_of}
use Rattle.node.specs.Receive.{collected_by, collected_through, receive_of, receive_memory, part_in}
use Rattle.node.specs.Send.{path_size_toward, with_identification, sent_by, sent_through, send_of, send_output}
use Rattle.node.specs.Report.{quotes_other, reported_to, report_answer_of, report_of}
use Rattle.node.specs.RouterList.{with_routers, replace_of}
use Rattle.node.specs.Ask.{asked_by, asked_through, ask_of, ask_output}
use Rattle.node.specs.Hear.{heard_by, hear_of}
use Rattle.node.specs.Advertise.{advertise_of, advertise_output}
use Rattle.node.specs.declared.Node.{Node}
use Rattle.node.specs.declared.Service.{Service}
use Rattle.node.specs.declared.ServiceName.{ServiceName}
use Rattle.node.specs.declared.ServiceName.TheVariants.{First, Second}
use Rattle.node.proofs.Services.{put_same, put-own}
use Rattle.demands.specs.Two.{Relists, Sends, Present, Absent, Quotes, Reports, Exactly, DemandTwo}
use Rattle.demands.proofs.Others.{decides_has}
use Rattle.demands.proofs.RightList.{decides_right}
use Rattle.demands.proofs.NewList.{replaced-list}
use Rattle.demands.proofs.RightSettings.{sets, sets-pair}
use Rattle.demands.proofs.Readings.{readings}
use Rattle.demands.proofs.Collecting.{collected_by_history}

-- ---- a service that the node has

module _ (n : Node) (w : ServiceName) (there : has_service n w ≡ true) where
  relists : (addresses : List ℕ) (count time : ℕ) → Relists n w addresses count time
  unfolding replace_of
  relists addresses count time =
      let s = (service_of n w).settings in
      let d = decides_right s addresses count in
      record {
        taken = λ right. rw (there, d.passes right);
        replaced = λ right. rw (there, d.passes right, put_same n w (with_routers (service_of n w) (replaced_of addresses count (max n.latest time) (service_of n w).routers)) time) (replaced-list addresses count (max n.latest time) (service_of n w).routers);
        refused = λ wrong. rw (there, refutes (are_routers_right s addresses count) d wrong, ← put-own n w time);
      }

  module _ (packet hop : List ℕ) (k time : ℕ) (out : List ℕ) where
    -- the identification that the sending leaves
    abbrev left : ℕ
    left = (sent_by (has_service n w) (service_of n w) (path_size_toward n w hop time) packet hop k (length out)).identification

    pub stored : (service_of (send_of n w packet hop k time (length out)).node w).identification ≡ left
    unfolding send_of
    stored = ap (λ (s : Service). s.identification) (put_same n w (with_identification (service_of n w) left) time)

    sent-node : (send_of n w packet hop k time (length out)).node ≡ node_with n w (with_identification (service_of n w) left) time
    unfolding send_of
    sent-node = refl

    -- what the service makes of it
    abbrev made : sending.Sent
    made = sent_of (service_of n w).settings (service_of n w).identification (path_size_toward n w hop time) packet hop k (length out)

    by_there : (b : Bool) → b ≡ true → sent_by b (service_of n w) (path_size_toward n w hop time) packet hop k (length out) ≡ made
    unfolding sent_by
    by_there true e = refl
    by_there false e = absurd (false≢true e)

    pub sent-answer : (send_of n w packet hop k time (length out)).answer ≡ made.answer
    unfolding send_of
    sent-answer = ap (λ (x : sending.Sent). x.answer) (by_there (has_service n w) there)

    pub sent-identification : left ≡ made.identification
    sent-identification = ap (λ (x : sending.Sent). x.identification) (by_there (has_service n w) there)

    pub sent-output : send_output n w packet hop k time out ≡ sent_output (service_of n w).settings (service_of n w).identification (path_size_toward n w hop time) packet hop k out
    unfolding send_output sent_through
    sent-output = rw there

    told : SentExactly (service_of n w).settings (service_of n w).identification (path_size_toward n w hop time) packet hop k out
        (send_of n w packet hop k time (length out)).answer left (send_output n w packet hop k time out)
    told = rw (sent-answer, sent-identification, sent-output) (sent-exactly (service_of n w).settings (service_of n w).identification (path_size_toward n w hop time) packet hop k out)

    sends : Sends n w packet hop k time out
    sends = record { node = rw stored sent-node; exactly = rw stored told }

  present : Present n w
  unfolding receive_of receive_memory collected_by collected_through part_in ask_of asked_by ask_output asked_through hear_of heard_by advertise_of advertise_output path_size_of
  present =
      let s = (service_of n w).settings in
      let routers = (service_of n w).routers in
      record {
        gives_part = λ d interface. record { part = rw there; exactly = delivers_exactly s (live routers) d interface };
        receives = λ d interface time memory. record {
          answer = rw there;
          node = rw there;
          lent = rw there;
          exactly = collected-exactly s (live routers) (service_of n w).pieces (max n.latest time) d interface memory;
        };
        sends = sends;
        relists = relists;
        asks = λ k time out. record { answer = rw there; node = rw there; output = rw there; exactly = asked-exactly s routers (max n.latest time) k out };
        hears = λ packet time. record { answer = rw there; node = rw there; exactly = heard-exactly s routers (max n.latest time) packet };
        advertises = λ packet k a out. record { exactly = λ fits. rw there (advertised-exactly s packet k a fits out) };
        sizes = λ v. rw there;
      }

-- ---- a service that it has not

module _ (n : Node) (w : ServiceName) (lacks : has_service n w ≡ false) where
  absent : Absent n w
  unfolding receive_of receive_memory collected_by collected_through part_in send_of sent_by send_output sent_through replace_of ask_of asked_by ask_output asked_through hear_of heard_by advertise_of advertise_output path_size_of
  absent = record {
    gives_part = λ d interface. rw lacks;
    receives = λ d interface time memory. (rw (lacks, ← put-own n w time), rw lacks);
    sends = λ packet hop k time out. (rw (lacks, ← put-own n w time), rw lacks);
    relists = λ addresses count time. rw (lacks, ← put-own n w time);
    asks = λ k time out. (rw (lacks, ← put-own n w time), rw lacks);
    hears = λ packet time. rw (lacks, ← put-own n w time);
    advertises = λ packet k a out. (rw lacks, rw lacks);
    sizes = λ v. rw lacks;
  }

-- ---- a report

module _ (n : Node) (m : List ℕ) where
  abbrev source : ℕ
  source = quad_at (quote_of m) 12

  quoted_source : (outer_of (quote_of m)).source ≡ source
  unfolding outer_of
  quoted_source = refl

  decides_quotes : (w : ServiceName) → Decides (has_service n w && is_ours (service_of n w).settings source) (Quotes n w m)
  decides_quotes w = decides_and _ _ (decides_has n w) (decides_ours (service_of n w).settings source)

  -- whose it is, by the two tests
  belongs : reported_to n m ≡ cond (ltb 0 n.both && (not (is_ours n.first.settings source) && is_ours n.second.settings source)) Second First
  unfolding reported_to quotes_other
  belongs = rw quoted_source

  abbrev by_tests : (x y z : Bool) → ServiceName
  by_tests x y z = cond (x && (not y && z)) Second First

  of-first : (x y z : Bool) → y ≡ true → by_tests x y z ≡ First
  of-first true true z h = refl
  of-first false true z h = refl
  of-first x false z h = absurd (false≢true h)

  of-second : (x y z : Bool) → y ≡ false → (x && z) ≡ true → by_tests x y z ≡ Second
  of-second true false true h k = refl
  of-second true false false h k = absurd (false≢true k)
  of-second false false z h k = absurd (false≢true k)
  of-second x true z h k = absurd (false≢true (sym h))

  of_none : (x y z : Bool) → y ≡ false → (x && z) ≡ false → by_tests x y z ≡ First
  of_none true false true h k = absurd (false≢true (sym k))
  of_none true false false h k = refl
  of_none false false z h k = refl
  of_none x true z h k = absurd (false≢true (sym h))

  module _ (time : ℕ) where
    abbrev now : ℕ
    now = max n.latest time

    -- the answer of the service that it belongs to
    answer-of : (w : ServiceName) → reported_to n m ≡ w
        → ReportedExactly (service_of n w).settings m (λ v. path_size_at n w v now) (report_of n m time).answer
    unfolding report_of report_answer_of
    answer-of w e = rw e (reported-exactly (service_of n w).settings m (λ v. path_size_at n w v now))

    abbrev x : Bool
    x = ltb 0 n.both

    abbrev y : Bool
    y = is_ours n.first.settings source

    abbrev z : Bool
    z = is_ours n.second.settings source

    not_first : (Quotes n First m → ⊥) → y ≡ false
    not_first h = refutes y (decides_ours n.first.settings source) (λ o. h (tt, o))

    neither-answer : WellFormed m → (Quotes n First m → ⊥) → (Quotes n Second m → ⊥) → (report_of n m time).answer ≡ Err refusal.QuoteNotOurs
    neither-answer formed f s =
        (answer-of First (belongs ∙ of_none x y z (not_first f) (refutes (x && z) (decides_quotes Second) s))).not_ours formed (λ v o. f (tt, o.source))

    malformed-answer : (WellFormed m → ⊥) → (report_of n m time).answer ≡ Err refusal.ReportMalformed
    malformed-answer wrong = (answer-of (reported_to n m) refl).malformed wrong

    pub reports : Reports n m time
    unfolding report_of
    reports = record {
      first = λ q. answer-of First (belongs ∙ of-first x y z ((decides_ours n.first.settings source).passes q.1));
      second = λ f s. answer-of Second (belongs ∙ of-second x y z (not_first f) ((decides_quotes Second).passes s));
      malformed = malformed-answer;
      neither = neither-answer;
      node = refl;
    }

exactly : (n : Node) → Exactly n
exactly n = record {
  present = λ w has. present n w ((decides_has n w).passes has);
  absent = λ w lacks. absent n w (refutes (has_service n w) (decides_has n w) lacks);
  reports = reports n;
}

pub demand_two : DemandTwo
unfolding defaults_for link_local_of
demand_two = record {
  readings = readings;
  defaults = λ first others locators prefixes on_link routers listed. record { link_size = refl; ttl = refl; interval = refl; identification = refl; reporting = refl };
  sets = sets;
  sets_pair = sets-pair;
  calls = exactly;
  collects = record { exactly = piece-exactly; tells = history_tells; by_history = history_exactly; handed_in = collected_by_history };
}
