-- A packet is wrapped exactly when the rules admit it. Assumes nothing.
use Rattle.std.proofs.Common.{◌≡◌, ℕ, ◌+◌, ◌%◌, ◌<◌, ◌≤◌, Bool, true, false, ltb, ◌↔◌, List, [], ◌∷◌, length, sym, refl, ltb-false, le-ltb, Ok}
use Rattle.address.specs.Address.{last_quad}
use Rattle.header.specs.Numbers.{outer_header}
use Rattle.header.specs.Wrap.{longest_total, wrapped, outer_bytes, wrap_check, wrap_answer, wrap_output}
use Rattle.header.proofs.WriterLaws.{wrap_pass}
use Rattle.lent.specs.Written.{written}
use Rattle.lists.proofs.Decides.{Decides}
use Rattle.paths.specs.Packets.{least_mtu, dont_fragment}
use Rattle.paths.proofs.PacketsLaws.{takes, taken, decides_flag}
use Rattle.refusals.proofs.Laws.{all_false}
use Rattle.refusals.specs.declared.Refusal.TheVariants.{WrappedTooLong, OutputShort}
use Rattle.settings.specs.Locators.{address_of}
use Rattle.settings.specs.Settings.{locator_of}
use Rattle.settings.proofs.Facts.{locator-found}
use Rattle.settings.specs.declared.Settings.{Settings}
use Rattle.sending.specs.Plan.{plan_of, sized_plan}
use Rattle.sending.specs.Sending.{fields_for, sent_of, sent_output}
use Rattle.sending.specs.Wraps.{Passes, PathTakes, Wraps, wrapped_bytes, WrappedExactly}
use Rattle.sending.proofs.Cases.{writer_passed, wrapped_plan, plan_wrap}
use Rattle.sending.proofs.Judged.{passes_check, check_passes}
use Rattle.sending.specs.declared.judging.Plan.TheVariants.{Wrap}
use Rattle.sending.specs.declared.SendAnswer.TheVariants.{Wrapped}

wrap-fits : (n room : ℕ) → wrap_check n room ≡ Ok tt → (outer_header + n ≤ longest_total) × (outer_header + n ≤ room)
unfolding wrap_check
wrap-fits n room e =
    let t = all_false ((ltb longest_total (outer_header + n), WrappedTooLong) ∷ ((ltb room (outer_header + n), OutputShort) ∷ [])) e in
    (ltb-false _ _ t.0, ltb-false _ _ t.1.0)

-- two tests that pass exactly if one fact holds are the same
same_test : {F : Type 0} (a b : Bool) → (a ≡ true) ↔ F → Decides b F → a ≡ b
same_test true b f d = sym (d.passes (f.0 refl))
same_test false true f d = f.1 (d.holds refl)
same_test false false f d = refl

module _ (s : Settings) (P : ℕ) (packet hop : List ℕ) (k : ℕ) where
  -- where 8, 11, 12 and 13 do not hold and the path takes the packet, the plan is to wrap it, from the locator's address
  pub passes_plan : (a : ℕ) → Passes s packet hop k a → PathTakes P (length packet) → plan_of s P packet hop k ≡ Ok (Wrap a)
  unfolding plan_of sized_plan
  passes_plan a f p = simp (passes_check s packet hop k a f, locator-found s k a f.locator, le-ltb _ _ (taken P (length packet) p))

  module _ (i : ℕ) (out : List ℕ) where
    -- what is answered as wrapped keeps the rules
    wrapped_wraps : (len : ℕ) → (sent_of s i P packet hop k (length out)).answer ≡ Wrapped len
        → (len ≡ outer_header + length packet) × ((a : ℕ) × Wraps s P packet hop k (length out) a)
    unfolding sent_of wrap_answer
    wrapped_wraps len e =
        let n = length packet in
        let w = wrapped_plan n (length out) (plan_of s P packet hop k) len e in
        let p = plan_wrap s P packet hop k w.0.0 w.0.1 in
        let c = writer_passed (wrap_check n (length out)) (outer_header + n) len w.1 in
        let f = wrap-fits n (length out) c.0 in
        (c.1, (address_of (locator_of s k), record { passes = check_passes s packet hop k p.0; path = takes P n p.1; total = f.0; output = f.1 }))

    -- what keeps the rules is wrapped
    module _ (a : ℕ) (w : Wraps s P packet hop k (length out) a) where
      wraps_check : wrap_check (length packet) (length out) ≡ Ok tt
      wraps_check = wrap_pass (length packet) (length out) w.total w.output

      wraps_wrapped : ((sent_of s i P packet hop k (length out)).answer ≡ Wrapped (outer_header + length packet))
          × ((sent_of s i P packet hop k (length out)).identification ≡ (i + 1) % 65536)
      unfolding sent_of wrap_answer
      wraps_wrapped = (rw (passes_plan a w.passes w.path) (rw wraps_check), rw (passes_plan a w.passes w.path) (rw wraps_check))

      wraps_bytes : (flag : Bool) → (flag ≡ true) ↔ (outer_header + least_mtu < P)
          → sent_output s i P packet hop k out
          ≡ written (wrapped_bytes s i flag a (last_quad hop) packet) out
      unfolding sent_output wrap_output fields_for wrapped outer_bytes
      wraps_bytes flag f = rw (passes_plan a w.passes w.path) (rw (wraps_check, ← same_test flag (dont_fragment P) f (decides_flag P)))

pub wrapped-exactly : (s : Settings) (i P : ℕ) (packet hop : List ℕ) (k : ℕ) (out : List ℕ)
    → let sent = sent_of s i P packet hop k (length out) in
    WrappedExactly s i P packet hop k out sent.answer sent.identification (sent_output s i P packet hop k out)
wrapped-exactly s i P packet hop k out = record {
  only_if = wrapped_wraps s P packet hop k i out;
  if = wraps_wrapped s P packet hop k i out;
  bytes = λ a flag w f. wraps_bytes s P packet hop k i out a w flag f;
}
