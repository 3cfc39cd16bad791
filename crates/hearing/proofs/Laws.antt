-- An advertisement is accepted exactly if the rules hold; what an accepted and a refused one leave. Assumes nothing.
use Rattle.std.specs.Prelude.{Option, Some, None, Result, Ok, Err}
use Prim.Native.Nat.{ℕ, ◌+◌, ◌≤◌}
use mathlib.Core.Path.{◌≡◌, refl, sym, ap, subst, ◌∙◌}
use mathlib.Core.Bool.{Bool, true, false, cond}
use mathlib.Core.List.{List}
use native.Mathlib.Omega.{arith}
use borrow.Author.Tests.{not-false}
use lib.ListN.{length, take, drop}
use Rattle.lists.proofs.Tests.{and_left, and_right}
use Rattle.lists.proofs.Decides.{refutes}
use Rattle.address.specs.Address.{is_link_local}
use Rattle.address.proofs.Facts.{decides_link_local}
use Rattle.refusals.specs.Refusals.{first_of, stop_or}
use Rattle.refusals.proofs.Laws.{all_false, stop_passed}
use Rattle.refusals.specs.declared.Refusal.{Refusal}
use Rattle.refusals.specs.declared.Refusal.TheVariants.{InnerMalformed, AdvertisementInvalid, AdvertiserNotListed}
use Rattle.header.specs.Fields.{word_at}
use Rattle.header.specs.Inner.{inner_of, is_inner_malformed}
use Rattle.header.specs.Whole.{WholeInner}
use Rattle.header.specs.declared.inner.Inner.{Inner}
use Rattle.header.proofs.InnerLaws.{inner-whole, whole-inner}
use Rattle.options.specs.Options.{options_of}
use Rattle.options.specs.Lifetimes.{without_lifetime, delay_of, due_after}
use Rattle.options.specs.Facts.{DueBy}
use Rattle.options.proofs.PutOff.{interval-delay}
use Rattle.options.proofs.Facts.{options_are_read, due_by}
use Rattle.routers.specs.Routers.{live, listed, rescheduled_of}
use Rattle.routers.specs.Facts.{Listed, OnlyDue}
use Rattle.routers.specs.declared.RouterList.{RouterList}
use Rattle.routers.proofs.Facts.{decides_listed}
use Rattle.routers.proofs.Due.{only_due}
use Rattle.settings.specs.Settings.{embedded_to}
use Rattle.settings.specs.declared.Settings.{Settings}
use Rattle.settings.specs.Facts.{IsatapTo}
use Rattle.settings.proofs.Facts.{embedded_to_lem, isatap_to}
use Rattle.messages.specs.Icmp.{advertisement_type}
use Rattle.hearing.specs.Message.{message_of, is_valid_message}
use Rattle.hearing.specs.Heard.{options_start, options_in, is_valid_advertisement, refused_by, heard_of_router, heard_from, heard_rows, heard_of}
use Rattle.hearing.specs.Facts.{fields_of, IsAdvertisement, ValidAdvertisement, router_lifetime, HeardExactly}
use Rattle.hearing.proofs.MessageLaws.{message_rules, rules_message}
use Rattle.hearing.specs.declared.Heard.{Heard}

-- the last stage, of what the source embeds

module _ (routers : RouterList) (due : ℕ) where
  known : (t : Bool) (b a : ℕ) (l : RouterList) → (cond t (record { answer = Ok b; routers = l }) (refused_by AdvertiserNotListed routers)).answer ≡ Ok a
      → (t ≡ true) × (b ≡ a) × ((cond t (record { answer = Ok b; routers = l }) (refused_by AdvertiserNotListed routers)).routers ≡ l)
  known true b a l h = (refl, cc, refl)
  known false b a l h = (cc, cc, cc)

  unknown : (t : Bool) (b : ℕ) (l : RouterList) (r : Refusal) → (cond t (record { answer = Ok b; routers = l }) (refused_by AdvertiserNotListed routers)).answer ≡ Err r
      → (cond t (record { answer = Ok b; routers = l }) (refused_by AdvertiserNotListed routers)).routers ≡ routers
  unknown true b l r h = cc
  unknown false b l r h = refl

  router_known : (e : Option ℕ) (a : ℕ) → (heard_of_router e routers due).answer ≡ Ok a
      → (e ≡ Some a) × (listed a (live routers) ≡ true) × ((heard_of_router e routers due).routers ≡ rescheduled_of a due routers)
  router_known (Some b) a h =
      let k = known (listed b (live routers)) b a (rescheduled_of b due routers) h in
      (ap Some k.1, rw k.1 at k.0, k.2 ∙ ap (λ (x : ℕ). rescheduled_of x due routers) k.1)
  router_known None a h = (cc, cc, cc)

  router_unknown : (e : Option ℕ) (r : Refusal) → (heard_of_router e routers due).answer ≡ Err r → (heard_of_router e routers due).routers ≡ routers
  router_unknown (Some b) r h = unknown (listed b (live routers)) b (rescheduled_of b due routers) r h
  router_unknown None r h = refl

-- what is answered with a router has passed the stages before the router is looked up
passed : (c : Result Unit Refusal) (routers : RouterList) (x : Heard) (a : ℕ) → (stop_or (λ r. refused_by r routers) c x).answer ≡ Ok a
    → (c ≡ Ok tt) × (x ≡ stop_or (λ r. refused_by r routers) c x)
passed c routers x a h =
    let refuse : Refusal → Heard = λ r. refused_by r routers in
    let none : (r : Refusal) → refuse r ≡ stop_or refuse c x → ⊥ = λ r e. refused-not-router r a (ap (λ (y : Heard). y.answer) e ∙ h) in
    stop_passed refuse c x (stop_or refuse c x) none refl
  where
    refused-not-router : (r : Refusal) (a : ℕ) → Err r ≡ Ok a → ⊥
    refused-not-router r a e = let z : ◌≡◌ {A = ℕ} 0 1 = cc in omega arith

stopped : (c : Result Unit Refusal) (routers : RouterList) (x : Heard) (r : Refusal) → (x.answer ≡ Err r → x.routers ≡ routers)
    → (stop_or (λ q. refused_by q routers) c x).answer ≡ Err r → (stop_or (λ q. refused_by q routers) c x).routers ≡ routers
stopped (Ok tt) routers x r f h = f h
stopped (Err q) routers x r f h = refl

-- a valid advertisement is one of the facts

module _ (i : Inner) (q : List ℕ) where
  valid_facts : is_valid_advertisement i q ≡ true → IsAdvertisement i q (options_of (drop options_start (message_of q)))
  valid_facts v =
      let message = is_valid_message advertisement_type options_start i q in
      record {
        message = message_rules advertisement_type options_start i q (and_right (is_link_local i.source) message v);
        link_local = (decides_link_local i.source).holds (and_left (is_link_local i.source) message v);
      }

  facts_valid : (os : List (List ℕ)) → IsAdvertisement i q os → is_valid_advertisement i q ≡ true
  facts_valid os a = rw ((decides_link_local i.source).passes a.link_local, rules_message advertisement_type options_start i q os a.message)

  none-valid : ((os : List (List ℕ)) → IsAdvertisement i q os → ⊥) → is_valid_advertisement i q ≡ false
  none-valid n = go (is_valid_advertisement i q) refl
    where
      go : (t : Bool) → is_valid_advertisement i q ≡ t → t ≡ false
      go true e = absurd (n _ (valid_facts e))
      go false e = refl

none-whole : (n : ℕ) (i : Inner) → (WholeInner n i → ⊥) → is_inner_malformed n i ≡ true
none-whole n i w = go (is_inner_malformed n i) refl
  where
    go : (t : Bool) → is_inner_malformed n i ≡ t → t ≡ true
    go true e = refl
    go false e = absurd (w (inner-whole n i e))

router-unlisted : (routers : RouterList) (due : ℕ) (e : Option ℕ) → ((a : ℕ) → e ≡ Some a → Listed a (live routers) → ⊥)
    → (heard_of_router e routers due).answer ≡ Err AdvertiserNotListed
router-unlisted routers due (Some a) n = rw (refutes _ (decides_listed a (live routers)) (n a refl))
router-unlisted routers due None n = refl

-- an accepted advertisement puts its router, and no other, off, by the interval at least
pub record PutOff (s : Settings) (routers : RouterList) (now : ℕ) (p : List ℕ) (router : ℕ) : Type 0 where
  pub delay : ℕ
  pub rescheduled : (heard_of s routers now p).routers ≡ rescheduled_of router (now + delay) routers
  pub interval : s.interval ≤ without_lifetime → s.interval ≤ delay

module _ (s : Settings) (routers : RouterList) (now : ℕ) (p : List ℕ) where
  -- after a refusal the router list is as before
  pub refused-unchanged : (r : Refusal) → (heard_of s routers now p).answer ≡ Err r → (heard_of s routers now p).routers ≡ routers
  unfolding heard_of heard_from
  refused-unchanged r h =
      let i = inner_of p in
      let smallest = (options_in (take i.length p)).smallest in
      stopped (first_of (heard_rows p)) routers (heard_from s routers now i.source smallest) r
      (router_unknown routers (due_after now s.interval smallest) (embedded_to s i.source) r)
      h

  -- what an accepted advertisement passed, and what it leaves
  accepted_parts : (router : ℕ) → (heard_of s routers now p).answer ≡ Ok router
      → (first_of (heard_rows p) ≡ Ok tt)
      × (embedded_to s (inner_of p).source ≡ Some router)
      × (listed router (live routers) ≡ true)
      × ((heard_of s routers now p).routers ≡ rescheduled_of router (due_after now s.interval (options_in (take (inner_of p).length p)).smallest) routers)
  unfolding heard_of heard_from
  accepted_parts router h =
      let i = inner_of p in
      let smallest = (options_in (take i.length p)).smallest in
      let x = heard_from s routers now i.source smallest in
      let g = passed (first_of (heard_rows p)) routers x router h in
      let k = router_known routers (due_after now s.interval smallest) (embedded_to s i.source) router (ap (λ (y : Heard). y.answer) g.1 ∙ h) in
      (g.0, k.0, k.1, ap (λ (y : Heard). y.routers) (sym g.1) ∙ k.2)

  -- an advertisement is accepted only if the rules hold
  accepted_only_if : (router : ℕ) → (heard_of s routers now p).answer ≡ Ok router → ValidAdvertisement s routers p router
  unfolding inner_of
  accepted_only_if router h =
      let i = inner_of p in
      let q = take i.length p in
      let g = accepted_parts router h in
      let f = all_false (heard_rows p) g.0 in
      record {
        whole = inner-whole (length p) i f.0;
        options = options_of (drop options_start (message_of q));
        valid = valid_facts i q (not-false _ f.1.0);
        embeds = embedded_to_lem s i.source router g.1;
        in_list = (decides_listed router (live routers)).holds g.2;
      }

  -- an advertisement is accepted whenever its rules hold
  accepted-if : (router : ℕ) → ValidAdvertisement s routers p router → (heard_of s routers now p).answer ≡ Ok router
  unfolding heard_of heard_from inner_of
  accepted-if router a =
      let i = inner_of p in
      let q = take i.length p in
      simp (
        whole-inner (length p) i a.whole,
        facts_valid i q a.options a.valid,
        isatap_to s i.source router a.embeds,
        (decides_listed router (live routers)).passes a.in_list,
      )

  -- its router, and no other, is then due when the lifetimes say
  accepted-due : (router : ℕ) (a : ValidAdvertisement s routers p router)
      → (due : ℕ)
      × DueBy now s.interval (router_lifetime (take (fields_of p).length p)) a.options due
      × OnlyDue routers router due (heard_of s routers now p).routers
  unfolding word_at inner_of
  accepted-due router a =
      let q = take (inner_of p).length p in
      let bs = drop options_start (message_of q) in
      let due = due_after now s.interval (options_in q).smallest in
      let parts = accepted_parts router (accepted-if router a) in
      let read = options_are_read bs a.options a.valid.message.options in
      let by : DueBy now s.interval (router_lifetime q) a.options due =
      subst (λ (os : List (List ℕ)). DueBy now s.interval (router_lifetime q) os due) (sym read) (due_by (router_lifetime q) (options_of bs) now s.interval) in
      (due, by, subst (OnlyDue routers router due) (sym parts.3) (only_due routers router due))

  malformed : (WholeInner (length p) (inner_of p) → ⊥) → (heard_of s routers now p).answer ≡ Err InnerMalformed
  unfolding heard_of
  malformed n = rw (none-whole (length p) (inner_of p) n)

  invalid : WholeInner (length p) (inner_of p) → ((os : List (List ℕ)) → IsAdvertisement (inner_of p) (take (inner_of p).length p) os → ⊥)
      → (heard_of s routers now p).answer ≡ Err AdvertisementInvalid
  unfolding heard_of
  invalid w n = rw (whole-inner (length p) (inner_of p) w, none-valid (inner_of p) (take (inner_of p).length p) n)

  unlisted : WholeInner (length p) (inner_of p) → (os : List (List ℕ)) → IsAdvertisement (inner_of p) (take (inner_of p).length p) os
      → ((router : ℕ) → IsatapTo s (inner_of p).source router → Listed router (live routers) → ⊥)
      → (heard_of s routers now p).answer ≡ Err AdvertiserNotListed
  unfolding heard_of heard_from
  unlisted w os a n =
      let i = inner_of p in
      let q = take i.length p in
      let due = due_after now s.interval (options_in q).smallest in
      rw (whole-inner (length p) i w, facts_valid i q os a)
      (router-unlisted routers due (embedded_to s i.source) (λ router e. n router (embedded_to_lem s i.source router e)))

  pub heard-exactly : HeardExactly s routers now p
  unfolding inner_of
  heard-exactly = record {
    only_if = accepted_only_if;
    whenever = accepted-if;
    due = accepted-due;
    malformed = malformed;
    invalid = invalid;
    unlisted = unlisted;
  }

  pub accepted_puts_off : (router : ℕ) → (heard_of s routers now p).answer ≡ Ok router → PutOff s routers now p router
  accepted_puts_off router h =
      let lifetime = (options_in (take (inner_of p).length p)).smallest in
      record {
        delay = delay_of s.interval lifetime;
        rescheduled = (accepted_parts router h).3;
        interval = interval-delay s.interval lifetime;
      }
