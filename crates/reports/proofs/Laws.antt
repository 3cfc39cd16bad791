-- What is known of a report that was judged, and of one that is accepted. Assumes nothing.
use Rattle.std.specs.Prelude.{Option, Some, None, Result, Ok, Err}
use Prim.Native.Nat.{ℕ, ◌<◌, ◌≤◌}
use mathlib.Core.Path.{◌≡◌, refl, ap}
use mathlib.Core.Bool.{Bool, true, false, cond}
use mathlib.Core.List.{List}
use lib.Dec.{ltb}
use native.Mathlib.Omega.{arith}
use borrow.Author.Tests.{lt-ltb, le-ltb, ltb-true}
use Rattle.header.specs.Outer.{outer_of, quote_of}
use Rattle.refusals.proofs.Laws.{stop_passed}
use Rattle.refusals.specs.declared.Refusal.{Refusal}
use Rattle.refusals.specs.declared.Refusal.TheVariants.{SizeNotBelow}
use Rattle.settings.specs.declared.Settings.{Settings}
use Rattle.reports.specs.Report.{report_to, report_check, neighbour_of, candidate_for, judged_as, judged_of, accepted_below, answer_at}
use Rattle.reports.specs.declared.Report.{Report}

same_report : (x y : Report) → ◌≡◌ {A = Result Report Refusal} (Ok x) (Ok y) → x ≡ y
same_report x y e = cc

judged-size : (k : Option ℕ) (w v c : ℕ) → judged_as w k ≡ Ok (report_to v c) → (w ≡ v) × (k ≡ Some c)
judged-size (Some d) w v c e =
    let same = same_report (report_to w d) (report_to v c) e in
    (ap (λ (x : Report). x.neighbour) same, ap (λ (x : Report). Some x.size) same)
judged-size None w v c e = let z : ◌≡◌ {A = ℕ} 0 1 = cc in absurd (omega arith)

module _ (s : Settings) (m : List ℕ) where
  -- a report has passed 16 and 17; it is of the quoted destination and asks for its candidate
  pub judged-report : (v c : ℕ) → judged_of s m ≡ Ok (report_to v c)
      → (report_check s m (outer_of (quote_of m)) ≡ Ok tt) × (neighbour_of m ≡ v) × (candidate_for m ≡ Some c)
  unfolding judged_of
  judged-report v c e =
      let p = stop_passed Err (report_check s m (outer_of (quote_of m))) (judged_as (neighbour_of m) (candidate_for m)) (Ok (report_to v c)) (λ r x. let z : ◌≡◌ {A = ℕ} 0 1 = cc in omega arith) e in
      let j = judged-size (candidate_for m) (neighbour_of m) v c p.1 in
      (p.0, j.0, j.1)

  -- what passes 16 and 17 and has a candidate is a report of it
  pub passed-judged : (v c : ℕ) → report_check s m (outer_of (quote_of m)) ≡ Ok tt → neighbour_of m ≡ v → candidate_for m ≡ Some c → judged_of s m ≡ Ok (report_to v c)
  unfolding judged_of
  passed-judged v c p n k = rw (p, k, n)

below_parts : (b : Bool) (r x : Report) → cond b (Ok r) (Err SizeNotBelow) ≡ Ok x → (b ≡ true) × (r ≡ x)
below_parts true r x e = (refl, cc)
below_parts false r x e = (cc, cc)

-- accepted is exactly the report whose candidate is below the size in force, with its neighbour and its candidate
pub accepted-below : (j : Result Report Refusal) (P v c : ℕ) → answer_at j P ≡ Ok (report_to v c) → (j ≡ Ok (report_to v c)) × (c < P)
unfolding accepted_below
accepted-below (Ok r) P v c e =
    let p = below_parts (ltb r.size P) r (report_to v c) e in
    (ap Ok p.1, rw (ap (λ (x : Report). x.size) p.1) at (ltb-true r.size P p.0))
accepted-below (Err refusal) P v c e = let z : ◌≡◌ {A = ℕ} 0 1 = cc in absurd (omega arith)

pub below-accepted : (P v c : ℕ) → c < P → answer_at (Ok (report_to v c)) P ≡ Ok (report_to v c)
unfolding accepted_below
below-accepted P v c h = simp (lt-ltb _ _ h)

pub not-below-refused : (P v c : ℕ) → P ≤ c → answer_at (Ok (report_to v c)) P ≡ Err SizeNotBelow
unfolding accepted_below
not-below-refused P v c h = simp (le-ltb _ _ h)
