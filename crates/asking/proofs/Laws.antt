-- When an asking is answered, and what an answered and a refused one leave. Assumes nothing.
use Rattle.std.specs.Prelude.{Option, Some, None, Result, Ok, Err}
use Prim.Native.Nat.{ℕ, ◌+◌, ◌≤◌, ◌<◌}
use mathlib.Core.Path.{◌≡◌, refl, ap, ◌∙◌}
use mathlib.Core.Bool.{Bool, true, false, cond}
use mathlib.Core.List.{List}
use native.Mathlib.Omega.{arith}
use borrow.Author.Tests.{ltb-false, le-ltb, lt-ltb}
use lib.ListN.{length}
use lib.Dec.{ltb}
use Rattle.refusals.specs.declared.Refusal.{Refusal}
use Rattle.refusals.specs.declared.Refusal.TheVariants.{NoLocator, OutputShort, NoRouterDue}
use Rattle.address.specs.Address.{link_local_of}
use Rattle.lent.specs.Written.{written}
use Rattle.messages.specs.Icmp.{icmp_sum, icmp_message, icmp_packet, solicitation_of, solicitation_length}
use Rattle.routers.specs.Routers.{live, next_of, rescheduled_of}
use Rattle.routers.specs.Facts.{EarliestDue, NoneIsDue, OnlyDue}
use Rattle.routers.proofs.Due.{earliest-due, due-earliest, none-due, due-none, only_due}
use Rattle.routers.specs.declared.RouterList.{RouterList}
use Rattle.settings.specs.Settings.{locator_of}
use Rattle.settings.specs.Facts.{LocatorAt}
use Rattle.settings.proofs.Facts.{found-locator, locator-found}
use Rattle.settings.specs.declared.Settings.{Settings}
use Rattle.asking.specs.Ask.{Asking, plan_for, ask_plan, carried_out, planned_output, asked_of, asked_output}
use Rattle.asking.specs.Facts.{MayAsk, solicitation_bytes, AskedExactly}

within : (short : Bool) (a p : Asking) → cond short (Err OutputShort) (Ok a) ≡ Ok p → (short ≡ false) × (a ≡ p)
within true a p h = (cc, cc)
within false a p h = (refl, cc)

-- a router is asked only from a locator that there is, if it is the next one, and if there is room
pub planned : (found : Option ℕ) (next : Option ℕ) (room : ℕ) (p : Asking) → plan_for found next room ≡ Ok p
    → (found ≡ Some p.from) × (next ≡ Some p.router) × (solicitation_length ≤ room)
unfolding plan_for
planned None next room p h = let z : ◌≡◌ {A = ℕ} 0 1 = cc in (cc, cc, omega arith)
planned (Some f) None room p h = let z : ◌≡◌ {A = ℕ} 0 1 = cc in (cc, cc, omega arith)
planned (Some f) (Some a) room p h =
    let w = within (ltb room solicitation_length) (record { from = f; router = a }) p h in
    (ap (λ (x : Asking). Some x.from) w.1, ap (λ (x : Asking). Some x.router) w.1, ltb-false _ _ w.0)

-- 22 is given only from a locator that there is, if no router is due
none_planned : (found : Option ℕ) (next : Option ℕ) (room : ℕ) → plan_for found next room ≡ Err NoRouterDue → ((from : ℕ) × (found ≡ Some from)) × (next ≡ None)
unfolding plan_for
none_planned None next room h = let z : ◌≡◌ {A = ℕ} 0 1 = cc in absurd (omega arith)
none_planned (Some f) None room h = ((f, refl), refl)
none_planned (Some f) (Some a) room h = ((f, refl), never (ltb room solicitation_length) h)
  where
    never : (short : Bool) → cond {A = Result Asking Refusal} short (Err OutputShort) (Ok (record { from = f; router = a })) ≡ Err NoRouterDue → Some a ≡ None
    never true h = cc
    never false h = cc

asked_from : (p : Result Asking Refusal) (due : ℕ) (routers : RouterList) (router : ℕ) → (carried_out p due routers).answer ≡ Ok router
    → (a : Asking) × (p ≡ Ok a) × (a.router ≡ router)
asked_from (Ok a) due routers router h = (a, refl, cc)
asked_from (Err r) due routers router h = (record { from = 0; router = router }, cc, refl)

asked-refused : (p : Result Asking Refusal) (due : ℕ) (routers : RouterList) (r : Refusal) → (carried_out p due routers).answer ≡ Err r → p ≡ Err r
asked-refused (Ok a) due routers r h = cc
asked-refused (Err x) due routers r h = cc

refused_plan : (p : Result Asking Refusal) (due : ℕ) (routers : RouterList) (out : List ℕ) (r : Refusal) → (carried_out p due routers).answer ≡ Err r
    → ((carried_out p due routers).routers ≡ routers) × (planned_output p out ≡ out)
refused_plan (Ok a) due routers out r h = (cc, cc)
refused_plan (Err x) due routers out r h = (refl, refl)

-- the definitions that an answered asking went by, for the laws over lists of calls
pub record AskedNext (s : Settings) (routers : RouterList) (now number : ℕ) (out : List ℕ) (router : ℕ) : Type 0 where
  pub from : ℕ
  pub locator : locator_of s number ≡ Some from
  pub next : next_of now (live routers) ≡ Some router
  pub long : solicitation_length ≤ length out
  pub rescheduled : (asked_of s routers now number (length out)).routers ≡ rescheduled_of router (now + s.interval) routers

module _ (s : Settings) (routers : RouterList) (now number : ℕ) (out : List ℕ) where
  -- after a refusal the router list and the output are as before
  pub refused-unchanged : (r : Refusal) → (asked_of s routers now number (length out)).answer ≡ Err r
      → ((asked_of s routers now number (length out)).routers ≡ routers) × (asked_output s routers now number out ≡ out)
  unfolding asked_of asked_output
  refused-unchanged r h = refused_plan (ask_plan s routers now number (length out)) (now + s.interval) routers out r h

  -- what an answered asking passed, and what it leaves
  pub answered-next : (router : ℕ) → (asked_of s routers now number (length out)).answer ≡ Ok router → AskedNext s routers now number out router
  unfolding asked_of ask_plan
  answered-next router h =
      let found = locator_of s number in
      let f = asked_from (ask_plan s routers now number (length out)) (now + s.interval) routers router h in
      let w = planned found (next_of now (live routers)) (length out) f.0 f.1 in
      record {
        from = f.0.from;
        locator = w.0;
        next = w.1 ∙ ap Some f.2;
        long = w.2;
        rescheduled = rw f.1 (ap (λ (r : ℕ). rescheduled_of r (now + s.interval) routers) f.2);
      }

  only_if : (router : ℕ) → (asked_of s routers now number (length out)).answer ≡ Ok router → (from : ℕ) × MayAsk s routers now number (length out) from router
  only_if router h =
      let n = answered-next router h in
      (n.from, record { locator = found-locator s number n.from n.locator; next = earliest-due now router (live routers) n.next; long = n.long })

  module _ (from router : ℕ) (m : MayAsk s routers now number (length out) from router) where
    plan : ask_plan s routers now number (length out) ≡ Ok (record { from = from; router = router })
    unfolding ask_plan plan_for
    plan = rw (locator-found s number from m.locator, due-earliest now router (live routers) m.next, le-ltb (length out) solicitation_length m.long)

    whenever : (asked_of s routers now number (length out)).answer ≡ Ok router
    unfolding asked_of
    whenever = ap (λ (q : Result Asking Refusal). (carried_out q (now + s.interval) routers).answer) plan

    output : asked_output s routers now number out ≡ written (solicitation_bytes from router) out
    unfolding asked_output solicitation_of icmp_packet icmp_message icmp_sum link_local_of
    output = ap (λ (q : Result Asking Refusal). planned_output q out) plan

    due : OnlyDue routers router (now + s.interval) (asked_of s routers now number (length out)).routers
    unfolding asked_of
    due = rw plan (only_due routers router (now + s.interval))

  none-due-found : (asked_of s routers now number (length out)).answer ≡ Err NoRouterDue → ((from : ℕ) × LocatorAt s number from) × NoneIsDue now (live routers)
  unfolding asked_of ask_plan
  none-due-found h =
      let found = locator_of s number in
      let p = asked-refused (ask_plan s routers now number (length out)) (now + s.interval) routers NoRouterDue h in
      let n = none_planned found (next_of now (live routers)) (length out) p in
      ((n.0.0, found-locator s number n.0.0 n.0.1), none-due now (live routers) n.1)

  when_none-due : (from : ℕ) → LocatorAt s number from → NoneIsDue now (live routers) → (asked_of s routers now number (length out)).answer ≡ Err NoRouterDue
  unfolding asked_of ask_plan plan_for
  when_none-due from l n = rw (locator-found s number from l, due-none now (live routers) n)

  no_locator_lem : ((from : ℕ) → LocatorAt s number from → ⊥) → (asked_of s routers now number (length out)).answer ≡ Err NoLocator
  unfolding asked_of ask_plan plan_for
  no_locator_lem n = go (locator_of s number) refl
    where
      go : (f : Option ℕ) → locator_of s number ≡ f
          → (carried_out (plan_for f (next_of now (live routers)) (length out)) (now + s.interval) routers).answer ≡ Err NoLocator
      go None e = refl
      go (Some from) e = absurd (n from (found-locator s number from e))

  short : (from router : ℕ) → LocatorAt s number from → EarliestDue now (live routers) router → length out < 48
      → (asked_of s routers now number (length out)).answer ≡ Err OutputShort
  unfolding asked_of ask_plan plan_for
  short from router l d few = rw (locator-found s number from l, due-earliest now router (live routers) d, lt-ltb (length out) solicitation_length few)

  pub asked-exactly : AskedExactly s routers now number out
  asked-exactly = record {
    only_if = only_if;
    whenever = whenever;
    output = output;
    due = due;
    no_locator = no_locator_lem;
    short = short;
    none_due = none-due-found;
    when_none_due = when_none-due;
  }
