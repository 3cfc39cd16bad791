-- What demand 3 sees of a sending: 14 with the size it names, or any other answer, by the path size. Assumes nothing.
use Rattle.refusals.specs.declared.Refusal.{Refusal}
use Rattle.std.proofs.Common.{◌≡◌, ℕ, Bool, true, false, cond, not, ◌&&◌, ltb, List, length, refl, arith, Result, Ok, Err}
use Rattle.header.specs.Inner.{may_draw_error}
use Rattle.header.specs.Wrap.{wrap_answer}
use Rattle.messages.specs.Icmp.{too_big_length, too_big_check, too_big_answer}
use Rattle.messages.proofs.WriterLaws.{too_big_room}
use Rattle.paths.proofs.Calls.{Answer, too_big, other, send_answer}
use Rattle.paths.specs.Packets.{largest_packet}
use Rattle.refusals.specs.Refusals.{stop_or}
use Rattle.refusals.specs.declared.Refusal.TheVariants.{OutputShort}
use Rattle.settings.specs.Locators.{address_of}
use Rattle.settings.specs.Settings.{locator_of}
use Rattle.settings.specs.declared.Settings.{Settings}
use Rattle.sending.specs.Plan.{send_check, plan_of, sized_plan}
use Rattle.sending.specs.Sending.{wrapped_as, plan_answer, sent_of}
use Rattle.sending.proofs.Judged.{check_passes}
use Rattle.sending.specs.declared.judging.Plan.TheVariants.{Wrap, Tell, Silent}
use Rattle.sending.specs.declared.SendAnswer.{SendAnswer}
use Rattle.sending.specs.declared.SendAnswer.TheVariants.{Wrapped, TooBig, Refused}

-- a Too Big answer with the size it names, with a message or without
abbrev pub too_big_seen : SendAnswer → Answer
too_big_seen (Wrapped len) = other
too_big_seen (TooBig size len) = too_big size
too_big_seen (Refused refusal) = other

-- the room takes the message of 14, or there is none
abbrev pub takes_message : List ℕ → ℕ → Bool
takes_message packet room = not (may_draw_error packet && ltb room (too_big_length (length packet)))

-- what is seen of a call that was stopped before 14, or came to it
abbrev pub seen_after : Result Unit Refusal → Answer → Answer
seen_after check a = stop_or (λ refusal. other) check a

wrapped_seen : (w : Result ℕ Refusal) → too_big_seen (wrapped_as w) ≡ other
wrapped_seen (Ok n) = refl
wrapped_seen (Err r) = refl

module _ (n room : ℕ) where
  seen_by : (big may short : Bool) (size source : ℕ) → too_big_check n room ≡ cond short (Err OutputShort) (Ok tt)
      → too_big_seen (plan_answer (Ok (cond big (cond may (Tell size) (Silent size)) (Wrap source))) n room) ≡ cond (big && not (may && short)) (too_big size) other
  unfolding too_big_answer
  seen_by true true true size source e = rw e
  seen_by true true false size source e = rw e
  seen_by true false short size source e = refl
  seen_by false may short size source e = wrapped_seen (wrap_answer n room)

module _ (s : Settings) (i P : ℕ) (packet hop : List ℕ) (k room : ℕ) where
  seen_after_lem : (check : Result Unit Refusal) → send_check s packet hop k ≡ check
      → too_big_seen (sent_of s i P packet hop k room).answer ≡ seen_after check (send_answer (largest_packet P) (length packet) (takes_message packet room))
  unfolding sent_of plan_of sized_plan
  seen_after_lem (Ok tt) e =
      let w = (check_passes s packet hop k e).whole in
      rw e
      (seen_by (length packet) room (ltb (largest_packet P) (length packet)) (may_draw_error packet) (ltb room (too_big_length (length packet))) (largest_packet P)
      (address_of (locator_of s k)) (too_big_room (length packet) room (omega (arith, w.1))))
  seen_after_lem (Err r) e = rw e

  -- 14 is given exactly as the rules of sending say for P, in every call that comes to it
  pub sent_seen : too_big_seen (sent_of s i P packet hop k room).answer
      ≡ seen_after (send_check s packet hop k) (send_answer (largest_packet P) (length packet) (takes_message packet room))
  sent_seen = seen_after_lem (send_check s packet hop k) refl
