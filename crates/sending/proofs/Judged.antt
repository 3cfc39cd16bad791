-- 8, 11, 12 and 13 in plain facts: the row of tests passes exactly if the facts hold, and stops at the first that does not. Assumes nothing.
use Rattle.std.proofs.Common.{◌≡◌, ℕ, Bool, true, false, cond, ◌&&◌, List, length, refl, inl, inr, ⊎_elim, arith, Some, None, Ok, Err}
use Rattle.address.specs.Address.{last_quad, is_on_link, is_identifier, embedded_in}
use Rattle.address.specs.Prefixes.{rows_of}
use Rattle.header.specs.Inner.{inner_of, is_packet_malformed}
use Rattle.header.proofs.InnerLaws.{packet-whole, whole-packet}
use Rattle.lists.proofs.Decides.{fails, refutes}
use Rattle.refusals.proofs.Laws.{all_false, all_pass}
use Rattle.refusals.specs.declared.Refusal.TheVariants.{InnerMalformed, NoLocator, NextHopNotIsatap, TunnelEndForbidden}
use Rattle.settings.specs.Facts.{BadEnd, IsatapTo, LocatorAt}
use Rattle.settings.specs.Locators.{address_of, is_no_locator}
use Rattle.settings.specs.Settings.{locator_of, embedded_to, is_bad_end}
use Rattle.settings.proofs.Facts.{decides_bad_end, embedded_to_lem, isatap_to, no_isatap_to, locator-there, decides_no_locator}
use Rattle.settings.specs.declared.Settings.{Settings}
use Rattle.sending.specs.Plan.{is_not_isatap, send_rows, send_check}
use Rattle.sending.specs.Wraps.{Whole, Passes}

-- what an ISATAP address embeds is its last 32 bits
pub embedded-last : (s : Settings) (hop : List ℕ) (v : ℕ) → embedded_to s hop ≡ Some v → last_quad hop ≡ v
unfolding embedded_to embedded_in
embedded-last s hop v h = go (is_on_link (rows_of s.prefixes) s.prefix_count hop && is_identifier hop) h
  where
    go : (b : Bool) → cond b (Some (last_quad hop)) None ≡ Some v → last_quad hop ≡ v
    go true e = cc
    go false e = cc

embeds : (b : Bool) (a : ℕ) → is_not_isatap (cond b (Some a) None) ≡ false → cond b (Some a) None ≡ Some a
unfolding is_not_isatap
embeds true a e = refl
embeds false a e = cc

module _ (s : Settings) (packet hop : List ℕ) (k : ℕ) where
  abbrev malformed : Bool
  malformed = is_packet_malformed (length packet) (inner_of packet)

  whole-passes : Whole packet → malformed ≡ false
  unfolding inner_of
  whole-passes w = whole-packet (length packet) (inner_of packet) (record { some = omega (arith, w.1); version = w.0; exact = w.1 })

  whole-holds : malformed ≡ false → Whole packet
  unfolding inner_of
  whole-holds e = let w = packet-whole (length packet) (inner_of packet) e in (w.version, w.exact)

  not-whole : (t : Bool) → malformed ≡ t → (Whole packet → ⊥) → malformed ≡ true
  not-whole true e n = e
  not-whole false e n = absurd (n (whole-holds e))

  locator-passes : (a : ℕ) → LocatorAt s k a → is_no_locator (locator_of s k) ≡ false
  locator-passes a f = refutes (is_no_locator (locator_of s k)) (decides_no_locator s k) (λ n. n a f)

  isatap-passes : (v : ℕ) → IsatapTo s hop v → is_not_isatap (embedded_to s hop) ≡ false
  unfolding is_not_isatap
  isatap-passes v f = rw (isatap_to s hop v f)

  isatap-holds : is_not_isatap (embedded_to s hop) ≡ false → IsatapTo s hop (last_quad hop)
  unfolding embedded_to embedded_in
  isatap-holds e =
      embedded_to_lem s hop (last_quad hop) (embeds (is_on_link (rows_of s.prefixes) s.prefix_count hop && is_identifier hop) (last_quad hop) e)

  -- where the facts hold the row passes
  pub passes_check : (a : ℕ) → Passes s packet hop k a → send_check s packet hop k ≡ Ok tt
  unfolding send_check
  passes_check a f =
      let end = refutes (is_bad_end s (last_quad hop)) (decides_bad_end s (last_quad hop)) (⊎_elim f.allowed f.foreign) in
      all_pass (send_rows s packet hop k) (whole-passes f.whole, (locator-passes a f.locator, (isatap-passes (last_quad hop) f.isatap, (end, tt))))

  -- a packet that passes 8, 11, 12 and 13 has the facts
  pub check_passes : send_check s packet hop k ≡ Ok tt → Passes s packet hop k (address_of (locator_of s k))
  unfolding send_check
  check_passes e =
      let rows = all_false (send_rows s packet hop k) e in
      let end = fails (is_bad_end s (last_quad hop)) (decides_bad_end s (last_quad hop)) rows.1.1.1.0 in
      record {
        whole = whole-holds rows.0;
        locator = locator-there s k rows.1.0;
        isatap = isatap-holds rows.1.1.0;
        allowed = λ f. end (inl f);
        foreign = λ f. end (inr f);
      }

  pub malformed_stops : (Whole packet → ⊥) → send_check s packet hop k ≡ Err InnerMalformed
  unfolding send_check
  malformed_stops n = rw (not-whole malformed refl n)

  pub no_locator_stops : Whole packet → ((a : ℕ) → LocatorAt s k a → ⊥) → send_check s packet hop k ≡ Err NoLocator
  unfolding send_check
  no_locator_stops w n = rw (whole-passes w, (decides_no_locator s k).passes n)

  pub not-isatap_stops : (a : ℕ) → Whole packet → LocatorAt s k a → ((v : ℕ) → IsatapTo s hop v → ⊥) → send_check s packet hop k ≡ Err NextHopNotIsatap
  unfolding send_check is_not_isatap
  not-isatap_stops a w l n = rw (whole-passes w, locator-passes a l, no_isatap_to s hop n)

  pub bad_end_stops : (a v : ℕ) → Whole packet → LocatorAt s k a → IsatapTo s hop v → BadEnd s (last_quad hop) → send_check s packet hop k ≡ Err TunnelEndForbidden
  unfolding send_check
  bad_end_stops a v w l f b = rw (whole-passes w, locator-passes a l, isatap-passes v f, (decides_bad_end s (last_quad hop)).passes b)
