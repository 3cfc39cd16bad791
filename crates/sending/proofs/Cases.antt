-- What an answer says of the plan, and a plan of the tests. Assumes nothing.
use Rattle.std.proofs.Common.{◌≡◌, ℕ, ◌<◌, ◌≤◌, Bool, true, false, cond, ltb, ◌⊎◌, List, length, refl, ap, inl, inr, arith, ltb-false, ltb-true, Result, Ok, Err}
use Rattle.header.specs.Inner.{may_draw_error}
use Rattle.header.specs.Wrap.{writer_answer, wrap_answer}
use Rattle.messages.specs.Icmp.{too_big_answer}
use Rattle.paths.specs.Packets.{largest_packet}
use Rattle.refusals.proofs.Laws.{stop_passed}
use Rattle.refusals.specs.declared.Refusal.{Refusal}
use Rattle.settings.specs.Locators.{address_of}
use Rattle.settings.specs.Settings.{locator_of}
use Rattle.settings.specs.declared.Settings.{Settings}
use Rattle.sending.specs.Plan.{send_check, sized_plan, plan_of}
use Rattle.sending.specs.Sending.{wrapped_as, told_as, plan_answer}
use Rattle.sending.specs.declared.judging.Plan.{Plan}
use Rattle.sending.specs.declared.judging.Plan.TheVariants.{Wrap, Tell, Silent}
use Rattle.sending.specs.declared.SendAnswer.TheVariants.{Wrapped, TooBig}

-- a writer that names a length has passed its check
pub writer_passed : (check : Result Unit Refusal) (n len : ℕ) → writer_answer check n ≡ Ok len → (check ≡ Ok tt) × (len ≡ n)
writer_passed (Ok tt) n len e = (refl, cc)
writer_passed (Err r) n len e = (cc, cc)

wrapped-named : (w : Result ℕ Refusal) (len : ℕ) → wrapped_as w ≡ Wrapped len → w ≡ Ok len
wrapped-named (Ok n) len e = cc
wrapped-named (Err r) len e = cc

wrapped-not_big : (w : Result ℕ Refusal) (m len : ℕ) → wrapped_as w ≡ TooBig m len → ⊥
wrapped-not_big (Ok n) m len e = let z : ◌≡◌ {A = ℕ} 0 1 = cc in omega arith
wrapped-not_big (Err r) m len e = let z : ◌≡◌ {A = ℕ} 0 1 = cc in omega arith

told_named : (size : ℕ) (w : Result ℕ Refusal) (m len : ℕ) → told_as size w ≡ TooBig m len → (size ≡ m) × (w ≡ Ok len)
told_named size (Ok n) m len e = (cc, cc)
told_named size (Err r) m len e = (cc, cc)

told-not-wrapped : (size : ℕ) (w : Result ℕ Refusal) (len : ℕ) → told_as size w ≡ Wrapped len → ⊥
told-not-wrapped size (Ok n) len e = let z : ◌≡◌ {A = ℕ} 0 1 = cc in omega arith
told-not-wrapped size (Err r) len e = let z : ◌≡◌ {A = ℕ} 0 1 = cc in omega arith

module _ (n room : ℕ) where
  -- a packet is answered as wrapped only where that is the plan, and with the length that the writer names
  pub wrapped_plan : (plan : Result Plan Refusal) (len : ℕ) → plan_answer plan n room ≡ Wrapped len → ((source : ℕ) × (plan ≡ Ok (Wrap source))) × (wrap_answer n room ≡ Ok len)
  wrapped_plan (Ok (Wrap source)) len e = ((source, refl), wrapped-named (wrap_answer n room) len e)
  wrapped_plan (Ok (Tell size)) len e = absurd (told-not-wrapped size (too_big_answer n room) len e)
  wrapped_plan (Ok (Silent size)) len e = let z : ◌≡◌ {A = ℕ} 0 1 = cc in absurd (omega arith)
  wrapped_plan (Err r) len e = let z : ◌≡◌ {A = ℕ} 0 1 = cc in absurd (omega arith)

  -- Too Big is answered with the length of the message that the writer names, or without a message
  pub big_plan : (plan : Result Plan Refusal) (m len : ℕ) → plan_answer plan n room ≡ TooBig m len
      → ((plan ≡ Ok (Tell m)) × (too_big_answer n room ≡ Ok len)) ⊎ ((plan ≡ Ok (Silent m)) × (len ≡ 0))
  big_plan (Ok (Wrap source)) m len e = absurd (wrapped-not_big (wrap_answer n room) m len e)
  big_plan (Ok (Tell size)) m len e = let f = told_named size (too_big_answer n room) m len e in inl (ap (λ (x : ℕ). Ok (Tell x)) f.0, f.1)
  big_plan (Ok (Silent size)) m len e = inr (cc, cc)
  big_plan (Err r) m len e = let z : ◌≡◌ {A = ℕ} 0 1 = cc in absurd (omega arith)

sized_wrap : (big may : Bool) (size source a : ℕ) → cond big (cond may (Tell size) (Silent size)) (Wrap source) ≡ Wrap a → (big ≡ false) × (source ≡ a)
sized_wrap true true size source a e = (cc, cc)
sized_wrap true false size source a e = (cc, cc)
sized_wrap false may size source a e = (refl, cc)

sized_tell : (big may : Bool) (size source m : ℕ) → cond big (cond may (Tell size) (Silent size)) (Wrap source) ≡ Tell m → (big ≡ true) × (may ≡ true) × (size ≡ m)
sized_tell true true size source m e = (refl, refl, cc)
sized_tell true false size source m e = (cc, cc, cc)
sized_tell false may size source m e = (cc, cc, cc)

sized_silent : (big may : Bool) (size source m : ℕ) → cond big (cond may (Tell size) (Silent size)) (Wrap source) ≡ Silent m → (big ≡ true) × (may ≡ false) × (size ≡ m)
sized_silent true true size source m e = (cc, cc, cc)
sized_silent true false size source m e = (refl, refl, cc)
sized_silent false may size source m e = (cc, cc, cc)

same_plan : (x y : Plan) → ◌≡◌ {A = Result Plan Refusal} (Ok x) (Ok y) → x ≡ y
same_plan x y e = cc

module _ (s : Settings) (P : ℕ) (packet hop : List ℕ) (k : ℕ) where
  abbrev big : Bool
  big = ltb (largest_packet P) (length packet)

  -- a plan that is no refusal has passed 8, 11, 12 and 13
  passed : (plan : Plan) → plan_of s P packet hop k ≡ Ok plan
      → (send_check s packet hop k ≡ Ok tt) × (sized_plan P packet (address_of (locator_of s k)) ≡ plan)
  unfolding plan_of
  passed plan e =
      let p = stop_passed Err (send_check s packet hop k) (Ok (sized_plan P packet (address_of (locator_of s k)))) (Ok plan) (λ r x. let z : ◌≡◌ {A = ℕ} 0 1 = cc in omega arith) e in
      (p.0, same_plan _ _ p.1)

  pub plan_wrap : (a : ℕ) → plan_of s P packet hop k ≡ Ok (Wrap a)
      → (send_check s packet hop k ≡ Ok tt) × (length packet ≤ largest_packet P) × (address_of (locator_of s k) ≡ a)
  unfolding sized_plan
  plan_wrap a e =
      let p = passed (Wrap a) e in
      let f = sized_wrap big (may_draw_error packet) (largest_packet P) (address_of (locator_of s k)) a p.1 in
      (p.0, ltb-false (largest_packet P) (length packet) f.0, f.1)

  pub plan_tell : (m : ℕ) → plan_of s P packet hop k ≡ Ok (Tell m)
      → (send_check s packet hop k ≡ Ok tt) × (largest_packet P < length packet) × (may_draw_error packet ≡ true) × (largest_packet P ≡ m)
  unfolding sized_plan
  plan_tell m e =
      let p = passed (Tell m) e in
      let f = sized_tell big (may_draw_error packet) (largest_packet P) (address_of (locator_of s k)) m p.1 in
      (p.0, ltb-true (largest_packet P) (length packet) f.0, f.1, f.2)

  pub plan_silent : (m : ℕ) → plan_of s P packet hop k ≡ Ok (Silent m)
      → (send_check s packet hop k ≡ Ok tt) × (largest_packet P < length packet) × (may_draw_error packet ≡ false) × (largest_packet P ≡ m)
  unfolding sized_plan
  plan_silent m e =
      let p = passed (Silent m) e in
      let f = sized_silent big (may_draw_error packet) (largest_packet P) (address_of (locator_of s k)) m p.1 in
      (p.0, ltb-true (largest_packet P) (length packet) f.0, f.1, f.2)
