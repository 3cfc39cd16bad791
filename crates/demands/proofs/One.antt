-- Demand 1 holds of every call. Assumes nothing.
use Rattle.std.specs.Prelude.{Result, Ok, Err, Option, None, Some}
use Prim.Native.Nat.{ℕ, max}
use mathlib.Core.Path.{◌≡◌, refl, sym, ap, subst, ◌∙◌}
use mathlib.Core.Bool.{Bool, true, false, cond, ◌&&◌}
use mathlib.Core.List.{List, [], ◌∷◌}
use native.Mathlib.Omega.{arith}
use native.Mathlib.Nat.{max-zero}
use lib.ListN.{length}
use Rattle.refusals.specs.Given.{Given, answered, refused}
use Rattle.refusals.specs.Refusals.{number_of}
use Rattle.refusals.specs.declared.Refusal.{Refusal}
use Rattle.refusals.specs.declared.Refusal.TheVariants as refusal
use Rattle.header.specs.Outer.{outer_of}
use Rattle.header.specs.Wrap.{written_given}
use Rattle.settings.specs.Settings.{locator_of, are_routers_right}
use Rattle.pieces.specs.declared.Collection.{Collection}
use Rattle.receiving.specs.Collect.{is_piece}
use Rattle.receiving.specs.Receive.{received_given}
use Rattle.receiving.specs.declared.Received.{Received}
use Rattle.receiving.specs.declared.Received.TheVariants as received
use Rattle.routers.specs.declared.RouterList.{RouterList}
use Rattle.sending.proofs.Leaves.{message_of, refused_leaves, too_big_leaves}
use Rattle.sending.specs.Sending.{send_given}
use Rattle.sending.specs.declared.SendAnswer.{SendAnswer}
use Rattle.sending.specs.declared.SendAnswer.TheVariants as sent
use Rattle.reports.specs.declared.Report.{Report}
use Rattle.asking.specs.Ask.{ask_given}
use Rattle.asking.proofs.Laws as asking
use Rattle.hearing.specs.Heard.{heard_given}
use Rattle.hearing.proofs.Laws as hearing
use Rattle.advertisements.specs.declared.Advertisement.{Advertisement}
use Rattle.advertising.specs.Advertise.{advertised_of, advertised_output}
use Rattle.advertising.proofs.Laws as advertising
use Rattle.node.specs.Node.{service_of, has_service, node_with, raised_to}
use Rattle.node.specs.Receive.{with_pieces, receive_of, receive_memory, part_in}
use Rattle.node.specs.Send.{path_size_toward, with_identification, sent_by, sent_through, send_of, send_output}
use Rattle.node.specs.Report.{report_answer_of, report_of}
use Rattle.node.specs.RouterList.{with_routers, list_refusal, replace_of}
use Rattle.node.specs.Ask.{asked_by, asked_through, ask_of, ask_output}
use Rattle.node.specs.Hear.{heard_by, hear_of}
use Rattle.node.specs.Advertise.{advertise_of, advertise_output}
use Rattle.node.specs.declared.Node.{Node}
use Rattle.node.specs.declared.Service.{Service}
use Rattle.node.specs.declared.ServiceName.{ServiceName}
use Rattle.node.proofs.Services.{put_same, put-own, raised-service}
use Rattle.demands.specs.Calls.{NodeCall, receiving, receiving_part, sending, reporting, relisting, asking, hearing, advertising, Outcome, outcome_of, View, view_of}
use Rattle.demands.specs.One.{Message, changed_by, OnlyCollected, Refusing, DemandOne}
use Rattle.demands.proofs.Collects.{Leaves, received_leaves}
use Rattle.demands.proofs.Steps.{state_of}
use Rattle.demands.proofs.Seats.{seat_of, collected_at, memory_at}

-- a call that is not refused
answers : (n : Node) (v : View) (o : Outcome) (values : List ℕ) → o.given ≡ answered values → Refusing n v o
answers n v o values e =
    let zero : o.given.number ≡ 0 = rw e in
    let never : (size len : ℕ) → answered values ≡ record { number = 14; values = size ∷ len ∷ [] } → ⊥ =
    λ size len h. let z : ◌≡◌ {A = ℕ} 0 14 = ap (λ (g : Given). g.number) h in omega arith in
    record {
      state = λ h c. absurd (h zero);
      collected = λ h. absurd (h zero);
      output = λ h g c. absurd (h zero);
      too_big = λ size len h. absurd (never size len (sym e ∙ h));
    }

-- a refusal is not 14
never_tells : (r : Refusal) (size len : ℕ) → refused r ≡ record { number = 14; values = size ∷ len ∷ [] } → ⊥
never_tells r size len h =
    let v : [] ≡ size ∷ len ∷ [] = ap (λ (g : Given). g.values) h in
    let z : ◌≡◌ {A = ℕ} 0 1 = cc in
    omega arith

-- what leaves all but the latest time leaves what is collected
raised-collected : (v : Option ServiceName) (n : Node) (time : ℕ) (next : Node) → next ≡ raised_to n time → OnlyCollected v n time next
raised-collected None n time next e = e
raised-collected (Some w) n time next e = e ∙ sym (put-own n w time) ∙ ap (λ (s : Service). node_with n w (with_pieces (service_of n w) s.pieces) time) (sym (ap (λ (k : Node). service_of k w) e ∙ raised-service n time w))

-- a refusal, which is not 14, and what it leaves
refuses : (n : Node) (v : View) (o : Outcome) (r : Refusal) → o.given ≡ refused r → o.node ≡ raised_to n v.time → o.output ≡ v.lent → Refusing n v o
refuses n v o r e state output =
    record {
      state = λ h c. state;
      collected = λ h. raised-collected v.service n v.time o.node state;
      output = λ h g c. output;
      too_big = λ size len h. absurd (never_tells r size len (sym e ∙ h));
    }

-- 14, and the message that it leaves
tells : (n : Node) (v : View) (o : Outcome) (size len : ℕ) → o.given ≡ record { number = 14; values = size ∷ len ∷ [] }
    → o.node ≡ raised_to n v.time → Message v.lent o.output len → Refusing n v o
tells n v o size len e state message =
    record {
      state = λ h c. state;
      collected = λ h. raised-collected v.service n v.time o.node state;
      output = λ h g c. absurd (g (rw e));
      too_big = λ m l h. record { message = message.message; size = message.size ∙ ends o.given m l e h; output = message.output };
    }
  where
    ends : (g : Given) (m l : ℕ) → g ≡ record { number = 14; values = size ∷ len ∷ [] } → g ≡ record { number = 14; values = m ∷ l ∷ [] } → len ≡ l
    ends g m l p q = let v : size ∷ len ∷ [] ≡ m ∷ l ∷ [] = ap (λ (x : Given). x.values) (sym p ∙ q) in cc

raised-zero : (n : Node) → n ≡ raised_to n 0
unfolding raised_to
raised-zero n = rw max-zero

-- the call for the number: what it collects is its own
module _ (n : Node) (w : ServiceName) (d : List ℕ) (interface time : ℕ) (memory : List ℕ) where
  abbrev call : NodeCall
  call = receiving w d interface time memory

  -- a piece by its bytes is a piece by its fields
  piece_view : is_piece (outer_of d) ≡ (view_of (receiving w d interface time memory)).piece
  unfolding outer_of
  piece_view = refl

  abbrev collected : Collection
  collected = (collected_at (seat_of w n) d interface time memory).pieces

  own-node : (receive_of n w d interface time memory).node ≡ node_with n w (with_pieces (service_of n w) collected) time
  unfolding receive_of
  own-node = refl

  own-collected : (receive_of n w d interface time memory).node
      ≡ node_with n w (with_pieces (service_of n w) (service_of (receive_of n w d interface time memory).node w).pieces) time
  own-collected =
      own-node
      ∙ ap (λ (c : Collection). node_with n w (with_pieces (service_of n w) c) time)
      (sym (ap (λ (k : Node). (service_of k w).pieces) own-node ∙ ap (λ (s : Service). s.pieces) (put_same n w (with_pieces (service_of n w) collected) time)))

  same-pieces : (c : Collection) → c ≡ (service_of n w).pieces → node_with n w (with_pieces (service_of n w) c) time ≡ raised_to n time
  same-pieces c e = ap (λ (k : Collection). node_with n w (with_pieces (service_of n w) k) time) e ∙ put-own n w time

  own-answer : (receive_of n w d interface time memory).answer ≡ (collected_at (seat_of w n) d interface time memory).answer
  unfolding receive_of
  own-answer = refl

  own-memory : receive_memory n w d interface time memory ≡ memory_at (seat_of w n) d interface time memory
  unfolding receive_memory
  own-memory = refl

  receiving_refusing : (a : Result Received Refusal) → (collected_at (seat_of w n) d interface time memory).answer ≡ a → Refusing n (view_of call) (outcome_of n call)
  receiving_refusing (Ok (received.Delivered offset size)) e = answers n (view_of call) _ (0 ∷ offset ∷ size ∷ []) (ap received_given (own-answer ∙ e))
  receiving_refusing (Ok (received.Joined offset size)) e = answers n (view_of call) _ (1 ∷ offset ∷ size ∷ []) (ap received_given (own-answer ∙ e))
  receiving_refusing (Err r) e =
      let g : (outcome_of n call).given ≡ refused r = ap received_given (own-answer ∙ e) in
      let l = subst
      (λ (b : Bool). Leaves (changed_by b (number_of r)) (state_of (seat_of w n) memory) (record { collection = collected; memory = memory_at (seat_of w n) d interface time memory }))
      piece_view (received_leaves (seat_of w n) d interface time memory r e) in
      let number : (outcome_of n call).given.number ≡ number_of r = ap (λ (x : Given). x.number) g in
      let changes : changed_by (view_of call).piece (outcome_of n call).given.number ≡ changed_by (view_of call).piece (number_of r) = ap (changed_by (view_of call).piece) number in
      record {
        state = λ h c. own-node ∙ same-pieces collected (l.collected (sym changes ∙ c));
        collected = λ h. own-collected;
        output = λ h q c. own-memory ∙ l.memory (λ z. c (changes ∙ z));
        too_big = λ size len h. absurd (never_tells r size len (sym g ∙ h));
      }

-- a service that is put back as it was
module _ (n : Node) (w : ServiceName) (time : ℕ) where
  same-identification : (i : ℕ) → i ≡ (service_of n w).identification → node_with n w (with_identification (service_of n w) i) time ≡ raised_to n time
  same-identification i e = ap (λ (k : ℕ). node_with n w (with_identification (service_of n w) k) time) e ∙ put-own n w time

  same-routers : (l : RouterList) → l ≡ (service_of n w).routers → node_with n w (with_routers (service_of n w) l) time ≡ raised_to n time
  same-routers l e = ap (λ (k : RouterList). node_with n w (with_routers (service_of n w) k) time) e ∙ put-own n w time

-- what a service makes of a sending, where it is there or not
module _ (there : Bool) (q : Service) (full : length q.settings.reporting ≡ 16) (P : ℕ) (packet hop : List ℕ) (k : ℕ) (out : List ℕ) where
  refused-sending : (r : Refusal) → (sent_by there q P packet hop k (length out)).answer ≡ sent.Refused r
      → ((sent_by there q P packet hop k (length out)).identification ≡ q.identification) × (sent_through there q P packet hop k out ≡ out)
  unfolding sent_by sent_through
  refused-sending r e = go there e
    where
      go : (b : Bool) → (sent_by b q P packet hop k (length out)).answer ≡ sent.Refused r
          → ((sent_by b q P packet hop k (length out)).identification ≡ q.identification) × (sent_through b q P packet hop k out ≡ out)
      go true e = refused_leaves q.settings q.identification P packet hop k out r e
      go false e = (refl, refl)

  told-sending : (size len : ℕ) → (sent_by there q P packet hop k (length out)).answer ≡ sent.TooBig size len
      → ((sent_by there q P packet hop k (length out)).identification ≡ q.identification) × Message out (sent_through there q P packet hop k out) len
  unfolding sent_by sent_through
  told-sending size len e = go there e
    where
      go : (b : Bool) → (sent_by b q P packet hop k (length out)).answer ≡ sent.TooBig size len
          → ((sent_by b q P packet hop k (length out)).identification ≡ q.identification) × Message out (sent_through b q P packet hop k out) len
      go true e =
          let l = too_big_leaves q.settings q.identification P packet hop k out size len full e in
          (l.0, record { message = message_of q.settings size packet; size = l.2; output = l.1 })
      go false e = let z : ◌≡◌ {A = ℕ} 0 1 = ap marked e in absurd (omega arith)
        where
          marked : SendAnswer → ℕ
          marked (sent.Refused r) = 0
          marked (sent.TooBig s l) = 1
          marked (sent.Wrapped l) = 2

module _ (n : Node) (w : ServiceName) (full : length (service_of n w).settings.reporting ≡ 16) (packet hop : List ℕ) (k time : ℕ) (out : List ℕ) where
  abbrev asked_for : SendAnswer → Type 0
  asked_for a = (sent_by (has_service n w) (service_of n w) (path_size_toward n w hop time) packet hop k (length out)).answer ≡ a

  sending_refusing : (a : SendAnswer) → asked_for a → Refusing n (view_of (sending w packet hop k time out)) (outcome_of n (sending w packet hop k time out))
  unfolding send_of send_output
  sending_refusing (sent.Wrapped len) e = answers n (view_of (sending w packet hop k time out)) _ (len ∷ []) (ap send_given e)
  sending_refusing (sent.TooBig size len) e =
      let l = told-sending (has_service n w) (service_of n w) full (path_size_toward n w hop time) packet hop k out size len e in
      tells n (view_of (sending w packet hop k time out)) _ size len (ap send_given e) (same-identification n w time _ l.0) l.1
  sending_refusing (sent.Refused r) e =
      let l = refused-sending (has_service n w) (service_of n w) full (path_size_toward n w hop time) packet hop k out r e in
      refuses n (view_of (sending w packet hop k time out)) _ r (ap send_given e) (same-identification n w time _ l.0) l.1

reporting_refusing : (n : Node) (m : List ℕ) (time : ℕ) (a : Result Report Refusal) → report_answer_of n m (max n.latest time) ≡ a
    → Refusing n (view_of (reporting m time)) (outcome_of n (reporting m time))
unfolding report_of raised_to
reporting_refusing n m time (Ok report) e = answers n (view_of (reporting m time)) _ (report.neighbour ∷ report.size ∷ []) (rw e)
reporting_refusing n m time (Err r) e = refuses n (view_of (reporting m time)) _ r (rw e) (rw e) refl

relisting_refusing : (n : Node) (w : ServiceName) (addresses : List ℕ) (count time : ℕ) (b : Bool) → (has_service n w && are_routers_right (service_of n w).settings addresses count) ≡ b
    → Refusing n (view_of (relisting w addresses count time)) (outcome_of n (relisting w addresses count time))
unfolding replace_of
relisting_refusing n w addresses count time true e = answers n (view_of (relisting w addresses count time)) _ [] (rw e)
relisting_refusing n w addresses count time false e =
    refuses n (view_of (relisting w addresses count time)) _ (list_refusal (has_service n w)) (rw e) (rw (e, ← put-own n w time)) refl

-- what a service leaves of its routers, and of the output, where it is there or not
module _ (q : Service) (now : ℕ) where
  refused-asking : (there : Bool) (k : ℕ) (out : List ℕ) (r : Refusal) → (asked_by there q now k (length out)).answer ≡ Err r
      → ((asked_by there q now k (length out)).routers ≡ q.routers) × (asked_through there q now k out ≡ out)
  unfolding asked_by asked_through
  refused-asking true k out r e = asking.refused-unchanged q.settings q.routers now k out r e
  refused-asking false k out r e = (refl, refl)

  refused-hearing : (there : Bool) (packet : List ℕ) (r : Refusal) → (heard_by there q now packet).answer ≡ Err r → (heard_by there q now packet).routers ≡ q.routers
  unfolding heard_by
  refused-hearing true packet r e = hearing.refused-unchanged q.settings q.routers now packet r e
  refused-hearing false packet r e = refl

asking_refusing : (n : Node) (w : ServiceName) (k time : ℕ) (out : List ℕ) (a : Result ℕ Refusal) → (asked_by (has_service n w) (service_of n w) (max n.latest time) k (length out)).answer ≡ a
    → Refusing n (view_of (asking w k time out)) (outcome_of n (asking w k time out))
unfolding ask_of ask_output
asking_refusing n w k time out (Ok v) e = answers n (view_of (asking w k time out)) _ (v ∷ []) (ap ask_given e)
asking_refusing n w k time out (Err r) e =
    let l = refused-asking (service_of n w) (max n.latest time) (has_service n w) k out r e in
    refuses n (view_of (asking w k time out)) _ r (ap ask_given e) (same-routers n w time _ l.0) l.1

hearing_refusing : (n : Node) (w : ServiceName) (packet : List ℕ) (time : ℕ) (a : Result ℕ Refusal) → (heard_by (has_service n w) (service_of n w) (max n.latest time) packet).answer ≡ a
    → Refusing n (view_of (hearing w packet time)) (outcome_of n (hearing w packet time))
unfolding hear_of
hearing_refusing n w packet time (Ok v) e = answers n (view_of (hearing w packet time)) _ (v ∷ []) (ap heard_given e)
hearing_refusing n w packet time (Err r) e =
    refuses n (view_of (hearing w packet time)) _ r (ap heard_given e) (same-routers n w time _ (refused-hearing (service_of n w) (max n.latest time) (has_service n w) packet r e)) refl

refused-advertising : (n : Node) (w : ServiceName) (packet : List ℕ) (k : ℕ) (a : Advertisement) (out : List ℕ) (r : Refusal) → advertise_of n w packet k a (length out) ≡ Err r
    → advertise_output n w packet k a out ≡ out
unfolding advertise_of advertise_output
refused-advertising n w packet k a out r e = go (has_service n w) e
  where
    go : (b : Bool) → cond b (advertised_of (locator_of (service_of n w).settings k) packet a (length out)) (Err refusal.NoLocator) ≡ Err r
        → cond b (advertised_output (locator_of (service_of n w).settings k) packet a out) out ≡ out
    go true h = advertising.refused-untouched (locator_of (service_of n w).settings k) packet a out r h
    go false h = refl

advertising_refusing : (n : Node) (w : ServiceName) (packet : List ℕ) (k : ℕ) (a : Advertisement) (out : List ℕ) (x : Result ℕ Refusal) → advertise_of n w packet k a (length out) ≡ x
    → Refusing n (view_of (advertising w packet k a out)) (outcome_of n (advertising w packet k a out))
advertising_refusing n w packet k a out (Ok len) e = answers n (view_of (advertising w packet k a out)) _ (len ∷ []) (ap written_given e)
advertising_refusing n w packet k a out (Err r) e =
    refuses n (view_of (advertising w packet k a out)) _ r (ap written_given e) (raised-zero n) (refused-advertising n w packet k a out r e)

pub demand_one : DemandOne
unfolding DemandOne
demand_one n full (receiving w d interface time memory) = receiving_refusing n w d interface time memory _ refl
demand_one n full (receiving_part w d interface) = answers n (view_of (receiving_part w d interface)) _ (part_in n w d interface) refl
demand_one n full (sending w packet hop k time out) = sending_refusing n w (full w) packet hop k time out _ refl
demand_one n full (reporting m time) = reporting_refusing n m time _ refl
demand_one n full (relisting w addresses count time) = relisting_refusing n w addresses count time _ refl
demand_one n full (asking w k time out) = asking_refusing n w k time out _ refl
demand_one n full (hearing w packet time) = hearing_refusing n w packet time _ refl
demand_one n full (advertising w packet k a out) = advertising_refusing n w packet k a out _ refl
