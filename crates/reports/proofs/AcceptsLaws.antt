-- A report is accepted exactly when the rules admit it, and refused as they say. Assumes nothing.
use Rattle.std.specs.Prelude.{Ok}
use Prim.Native.Nat.{ℕ}
use mathlib.Core.Path.{◌≡◌, refl}
use mathlib.Core.Logic.{⊎_elim, inl, inr}
use mathlib.Core.Bool.{Bool, true, false, not, ◌||◌}
use mathlib.Core.List.{List}
use native.Mathlib.Omega.{arith}
use borrow.Author.Tests.{ltb-false, eqb-true, not-false, le-ltb, eq-eqb}
use lib.Dec.{eqb, ltb}
use lib.ListN.{length, get_or}
use Rattle.checksum.specs.Sum.{is_right, is_right_from}
use Rattle.header.specs.Numbers.{outer_header, ipv6}
use Rattle.header.specs.Outer.{outer_of, quote_of, is_quote_malformed}
use Rattle.lists.proofs.Decides.{fails, refutes}
use Rattle.lists.proofs.Tests.{or_left, or_right, or_three}
use Rattle.paths.proofs.Largest.{candidate-is, is-candidate, no_candidate}
use Rattle.refusals.proofs.Laws.{all_false, all_pass}
use Rattle.settings.specs.Settings.{is_ours, is_bad_end}
use Rattle.settings.proofs.Facts.{decides_ours, decides_bad_end}
use Rattle.settings.specs.declared.Settings.{Settings}
use Rattle.reports.specs.Report.{report_to, least_message, is_report_malformed, is_quote_foreign, report_rows, report_check, neighbour_of, candidate_for, judged_of, answer_toward}
use Rattle.reports.specs.Accepts.{WellFormed, OfOurs, AsksFor, Accepts, ReportedExactly}
use Rattle.reports.proofs.Laws.{judged-report, passed-judged, accepted-below, below-accepted, not-below-refused}

-- a test that is false only where the fact holds is true where it does not
otherwise : {F : Type 0} (t : Bool) → (t ≡ false → F) → (F → ⊥) → t ≡ true
otherwise true h n = refl
otherwise false h n = absurd (n (h refl))

module _ (m : List ℕ) where
  formed-holds : is_report_malformed m (outer_of (quote_of m)) ≡ false → WellFormed m
  unfolding is_report_malformed is_quote_malformed outer_of is_right_from
  formed-holds e =
      let quoted = outer_of (quote_of m) in
      let short = ltb (length m) least_message in
      let sum = not (is_right m) in
      let kind = not (eqb (get_or m 0 0) 3) in
      let code = not (eqb (get_or m 1 0) 4) in
      let header = is_quote_malformed (length (quote_of m)) quoted in
      let front = or_left (short || sum || kind || code) header e in
      let f = or_three short sum kind (or_left (short || sum || kind) code front) in
      let h = or_three (not (eqb quoted.version 4)) (ltb quoted.header outer_header) (ltb (length (quote_of m)) quoted.header)
      (or_right (short || sum || kind || code) header e) in
      record {
        some = ltb-false _ _ f.0;
        checksum_right = eqb-true _ _ (not-false _ f.1);
        kind = eqb-true _ _ (not-false _ f.2);
        code = eqb-true _ _ (not-false _ (or_right (short || sum || kind) code front));
        version = eqb-true _ _ (not-false _ h.0);
        words = omega (arith, ltb-false quoted.header outer_header h.1);
        whole = ltb-false _ _ h.2;
      }

  formed-passes : WellFormed m → is_report_malformed m (outer_of (quote_of m)) ≡ false
  unfolding is_report_malformed is_quote_malformed outer_of is_right_from
  formed-passes w =
      simp (
        le-ltb _ _ w.some,
        eq-eqb _ _ w.checksum_right,
        eq-eqb _ _ w.kind,
        eq-eqb _ _ w.code,
        eq-eqb _ _ w.version,
        le-ltb (outer_of (quote_of m)).header outer_header (omega (arith, w.words)),
        le-ltb _ _ w.whole,
      )

module _ (s : Settings) (m : List ℕ) where
  ours-holds : is_quote_foreign s (outer_of (quote_of m)) ≡ false → OfOurs s m (neighbour_of m)
  unfolding is_quote_foreign outer_of
  ours-holds e =
      let quoted = outer_of (quote_of m) in
      let o = or_three (not (eqb quoted.protocol ipv6)) (not (is_ours s quoted.source)) (is_bad_end s quoted.destination) e in
      let end = fails (is_bad_end s quoted.destination) (decides_bad_end s quoted.destination) o.2 in
      record {
        protocol = eqb-true _ _ (not-false _ o.0);
        source = (decides_ours s quoted.source).holds (not-false _ o.1);
        neighbour = refl;
        allowed = λ f. end (inl f);
        foreign = λ f. end (inr f);
      }

  ours-passes : (v : ℕ) → OfOurs s m v → is_quote_foreign s (outer_of (quote_of m)) ≡ false
  unfolding is_quote_foreign outer_of
  ours-passes v w =
      simp (
        eq-eqb _ _ w.protocol,
        (decides_ours s (outer_of (quote_of m)).source).passes w.source,
        w.neighbour,
        refutes (is_bad_end s v) (decides_bad_end s v) (⊎_elim w.allowed w.foreign),
      )

  passes_check : (v : ℕ) → WellFormed m → OfOurs s m v → report_check s m (outer_of (quote_of m)) ≡ Ok tt
  unfolding report_check
  passes_check v f o = all_pass (report_rows s m (outer_of (quote_of m))) (formed-passes m f, (ours-passes v o, tt))

  destination : (v : ℕ) → OfOurs s m v → neighbour_of m ≡ v
  unfolding outer_of
  destination v o = o.neighbour

  module _ (size : ℕ → ℕ) where
    accepted_accepts : (v c : ℕ) → answer_toward s m size ≡ Ok (report_to v c) → Accepts s m (size v) v c
    unfolding report_check candidate_for
    accepted_accepts v c e =
        let a = accepted-below (judged_of s m) _ v c e in
        let j = judged-report s m v c a.0 in
        let rows = all_false (report_rows s m (outer_of (quote_of m))) j.0 in
        record {
          formed = formed-holds m rows.0;
          ours = rw j.1 at (ours-holds rows.1.0);
          candidate = candidate-is _ _ c j.2;
          below = rw a.0 at a.1;
        }

    -- a report that passes 16, 17 and 18 is judged by the size toward its neighbour
    toward : (v c : ℕ) → WellFormed m → OfOurs s m v → AsksFor m c → judged_of s m ≡ Ok (report_to v c)
    unfolding candidate_for
    toward v c f o k = passed-judged s m v c (passes_check v f o) (destination v o) (is-candidate _ _ c k)

    pub reported-exactly : ReportedExactly s m size (answer_toward s m size)
    unfolding judged_of report_check candidate_for
    reported-exactly = record {
      accepted = λ v c. (accepted_accepts v c, λ w. rw (toward v c w.formed w.ours w.candidate) (below-accepted (size v) v c w.below));
      malformed = λ n. rw (otherwise (is_report_malformed m (outer_of (quote_of m))) (formed-holds m) n);
      not_ours = λ f n. rw (formed-passes m f, otherwise (is_quote_foreign s (outer_of (quote_of m))) (λ e. ours-holds e) (λ o. n (neighbour_of m) o));
      unusable = λ v f o n. rw (formed-passes m f, ours-passes v o, no_candidate _ _ n);
      not_below = λ v c f o k l. rw (toward v c f o k) (not-below-refused (size v) v c l);
    }
