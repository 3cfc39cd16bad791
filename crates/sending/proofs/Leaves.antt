-- What a sending that wraps nothing leaves: after a refusal everything, with 14 everything but its message. Assumes nothing.
use Rattle.std.proofs.Common.{◌≡◌, ℕ, cond, List, [], length, sym, refl, ◌∙◌, ⊎_elim, arith, length-append, length-take, Result, Ok, Err}
use Rattle.header.specs.Fields.{address_at}
use Rattle.header.specs.Inner.{may_draw_error}
use Rattle.header.specs.Wrap.{writer_answer, writer_output, wrapped, wrap_check, wrap_answer, wrap_output}
use Rattle.lent.specs.Written.{written}
use Rattle.messages.specs.Icmp.{icmp_message, icmp_packet, too_big_of, too_big_length, too_big_check, too_big_answer, too_big_output}
use Rattle.refusals.specs.declared.Refusal.{Refusal}
use Rattle.settings.specs.declared.Settings.{Settings}
use Rattle.sending.specs.Plan.{plan_of}
use Rattle.sending.specs.Sending.{fields_for, wrapped_as, told_as, plan_answer, plan_output, sent_of, sent_output}
use Rattle.sending.proofs.Cases.{writer_passed, big_plan, plan_tell, plan_silent}
use Rattle.sending.specs.declared.judging.Plan.{Plan}
use Rattle.sending.specs.declared.judging.Plan.TheVariants.{Wrap, Tell, Silent}
use Rattle.sending.specs.declared.SendAnswer.TheVariants.{TooBig, Refused}

-- the message of 14: nothing, where the packet may draw none
abbrev pub message_of : Settings → ℕ → List ℕ → List ℕ
message_of s size packet = cond (may_draw_error packet) (too_big_of s.reporting size packet) []

-- the message is as long as it is said to be
pub length-too_big : (reporting : List ℕ) (size : ℕ) (packet : List ℕ) → length reporting ≡ 16
    → length (too_big_of reporting size packet) ≡ too_big_length (length packet)
unfolding too_big_of icmp_packet icmp_message address_at
length-too_big reporting size packet h = simp (length-append, length-take) (omega arith)

-- a writer that refuses writes nothing
wrapped_leaves : (check : Result Unit Refusal) (n : ℕ) (w out : List ℕ) (r : Refusal) → wrapped_as (writer_answer check n) ≡ Refused r → writer_output check w out ≡ out
wrapped_leaves (Ok tt) n w out r e = cc
wrapped_leaves (Err x) n w out r e = refl

told_leaves : (size : ℕ) (check : Result Unit Refusal) (n : ℕ) (w out : List ℕ) (r : Refusal) → told_as size (writer_answer check n) ≡ Refused r → writer_output check w out ≡ out
told_leaves size (Ok tt) n w out r e = cc
told_leaves size (Err x) n w out r e = refl

module _ (s : Settings) (i P : ℕ) (packet hop out : List ℕ) where
  plan_leaves : (plan : Result Plan Refusal) (r : Refusal) → plan_answer plan (length packet) (length out) ≡ Refused r → plan_output plan s i P packet hop out ≡ out
  unfolding wrap_answer wrap_output too_big_answer too_big_output
  plan_leaves (Ok (Wrap source)) r e = wrapped_leaves (wrap_check (length packet) (length out)) _ (wrapped (fields_for s i P hop source) packet) out r e
  plan_leaves (Ok (Tell size)) r e = told_leaves size (too_big_check (length packet) (length out)) _ (too_big_of s.reporting size packet) out r e
  plan_leaves (Ok (Silent size)) r e = refl
  plan_leaves (Err x) r e = refl

module _ (s : Settings) (i P : ℕ) (packet hop : List ℕ) (k : ℕ) (out : List ℕ) where
  -- a refusal leaves the identification and the output
  pub refused_leaves : (r : Refusal) → (sent_of s i P packet hop k (length out)).answer ≡ Refused r
      → ((sent_of s i P packet hop k (length out)).identification ≡ i) × (sent_output s i P packet hop k out ≡ out)
  unfolding sent_of sent_output
  refused_leaves r e = (rw e, plan_leaves s i P packet hop out (plan_of s P packet hop k) r e)

  -- 14 leaves the identification, and the output gets the message, of the length that is named
  pub too_big_leaves : (size len : ℕ) → length s.reporting ≡ 16 → (sent_of s i P packet hop k (length out)).answer ≡ TooBig size len
      → ((sent_of s i P packet hop k (length out)).identification ≡ i)
      × (sent_output s i P packet hop k out ≡ written (message_of s size packet) out)
      × (length (message_of s size packet) ≡ len)
  unfolding sent_of sent_output too_big_answer too_big_output
  too_big_leaves size len h e =
      ⊎_elim
      (λ t. let c = writer_passed (too_big_check (length packet) (length out)) (too_big_length (length packet)) len t.1 in
      let may = (plan_tell s P packet hop k size t.0).2 in
      (rw e, rw t.0 (rw (c.0, may)), rw may (length-too_big s.reporting size packet h ∙ sym c.1)))
      (λ t. let may = (plan_silent s P packet hop k size t.0).2 in (rw e, rw t.0 (rw may), rw may (sym t.1)))
      (big_plan (length packet) (length out) (plan_of s P packet hop k) size len e)
