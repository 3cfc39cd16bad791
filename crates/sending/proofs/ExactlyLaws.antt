-- 14 is given exactly when the rules say, and so is every refusal. Assumes nothing.
use Rattle.std.proofs.Common.{◌≡◌, ℕ, ◌<◌, ◌≤◌, true, ltb, List, [], ◌∷◌, length, ap, ◌∙◌, inl, inr, ⊎_elim, arith, ltb-false, lt-ltb, Ok, Err}
use Rattle.header.specs.Draws.{DrawsMessage}
use Rattle.header.specs.Inner.{may_draw_error}
use Rattle.header.specs.Numbers.{inner_header}
use Rattle.header.specs.Wrap.{wrap_check, wrap_answer, wrap_output}
use Rattle.header.proofs.DrawsLaws.{decides_draws}
use Rattle.header.proofs.WriterLaws.{wrap_too_long, wrap-short}
use Rattle.lent.specs.Written.{written}
use Rattle.lists.proofs.Decides.{fails, refutes}
use Rattle.messages.specs.Icmp.{too_big_of, too_big_length, too_big_check, too_big_answer, too_big_output}
use Rattle.messages.proofs.Facts.{too_big_bytes_lem}
use Rattle.messages.proofs.WriterLaws.{too_big_short, too_big_pass}
use Rattle.paths.specs.Packets.{largest_packet}
use Rattle.paths.proofs.PacketsLaws.{larger-of-both, larger-is}
use Rattle.refusals.proofs.Laws.{all_false}
use Rattle.refusals.specs.declared.Refusal.{Refusal}
use Rattle.refusals.specs.declared.Refusal.TheVariants.{InnerMalformed, OutputShort}
use Rattle.settings.specs.Locators.{address_of}
use Rattle.settings.specs.Settings.{locator_of}
use Rattle.settings.specs.declared.Settings.{Settings}
use Rattle.sending.specs.Plan.{send_check, sized_plan, plan_of}
use Rattle.sending.specs.Sending.{sent_of, sent_output}
use Rattle.sending.specs.Exactly.{Exceeds, Names, TooBigExactly, Refuses, RefusedExactly, SentExactly}
use Rattle.sending.proofs.Cases.{writer_passed, big_plan, plan_tell, plan_silent}
use Rattle.sending.proofs.Judged.{passes_check, check_passes, malformed_stops, no_locator_stops, not-isatap_stops, bad_end_stops}
use Rattle.sending.proofs.WrapsLaws.{passes_plan, wrapped-exactly}
use Rattle.sending.specs.declared.Sent.{Sent}
use Rattle.sending.specs.declared.judging.Plan.TheVariants.{Wrap, Tell, Silent}
use Rattle.sending.specs.declared.SendAnswer.TheVariants.{TooBig}

big_fits : (n room : ℕ) → too_big_check n room ≡ Ok tt → too_big_length n ≤ room
unfolding too_big_check
big_fits n room e =
    let t = all_false ((ltb n inner_header, InnerMalformed) ∷ ((ltb room (too_big_length n), OutputShort) ∷ [])) e in
    ltb-false _ _ t.1.0

module _ (s : Settings) (P : ℕ) (packet hop : List ℕ) (k : ℕ) where
  -- a packet that passes 8, 11, 12 and 13 and is longer than M has the facts of 14
  exceeding : send_check s packet hop k ≡ Ok tt → largest_packet P < length packet → (M : ℕ) → largest_packet P ≡ M → Exceeds s P packet hop k M
  exceeding c l M e = record { passes = (address_of (locator_of s k), check_passes s packet hop k c); largest = rw (← e) (larger-of-both P); longer = rw (← e) l }

  module _ (M : ℕ) (f : Exceeds s P packet hop k M) where
    exceeds_big : ltb (largest_packet P) (length packet) ≡ true
    exceeds_big =
        let longer : largest_packet P < length packet = rw (← larger-is P M f.largest) f.longer in
        lt-ltb (largest_packet P) (length packet) longer

    exceeds_tell : DrawsMessage packet → plan_of s P packet hop k ≡ Ok (Tell M)
    unfolding plan_of sized_plan
    exceeds_tell d =
        simp (passes_check s packet hop k f.passes.0 f.passes.1, exceeds_big, (decides_draws packet).passes d, ← larger-is P M f.largest)

    exceeds_silent : (DrawsMessage packet → ⊥) → plan_of s P packet hop k ≡ Ok (Silent M)
    unfolding plan_of sized_plan
    exceeds_silent n =
        simp (passes_check s packet hop k f.passes.0 f.passes.1, exceeds_big, refutes (may_draw_error packet) (decides_draws packet) n, ← larger-is P M f.largest)

    headed : inner_header ≤ length packet
    headed = let w = f.passes.1.whole in omega (arith, w.1)

  module _ (i : ℕ) (out : List ℕ) where
    too_big_only : (M len : ℕ) → (sent_of s i P packet hop k (length out)).answer ≡ TooBig M len → Exceeds s P packet hop k M × Names packet (length out) len
    unfolding sent_of too_big_answer
    too_big_only M len e =
        ⊎_elim
        (λ t. let p = plan_tell s P packet hop k M t.0 in
        let c = writer_passed (too_big_check (length packet) (length out)) (too_big_length (length packet)) len t.1 in
        (exceeding p.0 p.1 M p.3, inl ((decides_draws packet).holds p.2, c.1, rw c.1 (big_fits (length packet) (length out) c.0))))
        (λ t. let p = plan_silent s P packet hop k M t.0 in
        (exceeding p.0 p.1 M p.3, inr (fails (may_draw_error packet) (decides_draws packet) p.2, t.1)))
        (big_plan (length packet) (length out) (plan_of s P packet hop k) M len e)

    abbrev sent : Sent
    sent = sent_of s i P packet hop k (length out)

    abbrev output : List ℕ
    output = sent_output s i P packet hop k out

    pub too_big_exactly : TooBigExactly s i P packet hop k out sent.answer sent.identification output
    unfolding sent_of sent_output too_big_answer too_big_output
    too_big_exactly = record {
      only_if = too_big_only;
      told = λ M f d l. let p = exceeds_tell M f d in let c = too_big_pass (length packet) (length out) (headed M f) l in let w : output ≡ written (too_big_of s.reporting M packet) out = rw p (rw c) in
          ((rw p (rw c), rw p (rw c)), w ∙ ap (λ (b : List ℕ). written b out) (too_big_bytes_lem s.reporting M packet));
      silent = λ M f n. let p = exceeds_silent M f n in ((rw p, rw p), rw p);
    }

    abbrev Stops : Refusal → Type 0
    Stops r = Refuses s i P packet hop k out sent.answer sent.identification output r

    stopped : (r : Refusal) → send_check s packet hop k ≡ Err r → Stops r
    unfolding sent_of sent_output plan_of
    stopped r e = ((rw e, rw e), rw e)

    unwrapped : (a : ℕ) (r : Refusal) → plan_of s P packet hop k ≡ Ok (Wrap a) → wrap_check (length packet) (length out) ≡ Err r → Stops r
    unfolding sent_of sent_output wrap_answer wrap_output
    unwrapped a r p e = ((rw p (rw e), rw p (rw e)), rw p (rw e))

    untold : (M : ℕ) (r : Refusal) → plan_of s P packet hop k ≡ Ok (Tell M) → too_big_check (length packet) (length out) ≡ Err r → Stops r
    unfolding sent_of sent_output too_big_answer too_big_output
    untold M r p e = ((rw p (rw e), rw p (rw e)), rw p (rw e))

    pub refused-exactly : RefusedExactly s i P packet hop k out sent.answer sent.identification output
    refused-exactly = record {
      malformed = λ n. stopped _ (malformed_stops s packet hop k n);
      no_locator = λ w n. stopped _ (no_locator_stops s packet hop k w n);
      not_isatap = λ a w l n. stopped _ (not-isatap_stops s packet hop k a w l n);
      bad_end = λ a w l f b. stopped _ (bad_end_stops s packet hop k a _ w l f b);
      message_short = λ M f d l. untold M _ (exceeds_tell M f d) (too_big_short (length packet) (length out) (headed M f) l);
      too_long = λ a f p l. unwrapped a _ (passes_plan s P packet hop k a f p) (wrap_too_long (length packet) (length out) l);
      short = λ a f p t l. unwrapped a _ (passes_plan s P packet hop k a f p) (wrap-short (length packet) (length out) t l);
    }

-- every sending does exactly what the rules say
pub sent-exactly : (s : Settings) (i P : ℕ) (packet hop : List ℕ) (k : ℕ) (out : List ℕ)
    → let sent = sent_of s i P packet hop k (length out) in
    SentExactly s i P packet hop k out sent.answer sent.identification (sent_output s i P packet hop k out)
sent-exactly s i P packet hop k out = record {
  wrapped = wrapped-exactly s i P packet hop k out;
  too_big = too_big_exactly s P packet hop k i out;
  refused = refused-exactly s P packet hop k i out;
}
