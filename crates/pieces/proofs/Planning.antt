-- A plan is made exactly when its plain fact holds, in any collection of 8 places. Assumes nothing.
use Prim.Native.Nat.{ℕ, ◌≤◌, ◌<◌}
use mathlib.Core.Path.{◌≡◌, refl, sym, ◌∙◌}
use mathlib.Core.Logic.{⊎_elim, inl, inr}
use mathlib.Core.Bool.{Bool, true, false, cond, ◌&&◌}
use mathlib.Core.List.{List}
use native.Mathlib.Omega.{arith}
use borrow.Author.Tests.{ltb-true, ltb-false, lt-ltb, not-false}
use lib.Dec.{ltb}
use lib.ListN.{length}
use Rattle.lists.specs.Any.{first_with}
use Rattle.lists.proofs.Tests.{by_test}
use Rattle.lists.proofs.First.{first_passes, first-before, first-at, first-none}
use Rattle.lists.proofs.Decides.{Decides, fails, refutes}
use Rattle.units.specs.Held.{any_held, all_held}
use Rattle.pieces.specs.declared.Key.{Key}
use Rattle.pieces.specs.declared.Place.{Place}
use Rattle.pieces.specs.declared.Collection.{Collection}
use Rattle.pieces.specs.declared.Plan.{Plan}
use Rattle.pieces.specs.declared.Plan.TheVariants as plan
use Rattle.pieces.specs.Places.{Part, places, count_of, is_unfit, is_live, is_free, is_of, is_apart, is_equal, bytes_of, no_place}
use Rattle.pieces.specs.Take.{plan_held, plan_in, plan_new, plan_of}
use Rattle.pieces.specs.Facts.{Unfit, Live, LiveOf, Lowest, Nowhere, EndsApart, SomeHeld, Repeats, Contradicts, NoneFree, Ignored, datagram_at}
use Rattle.pieces.specs.Exactly.{Continues, Begins}
use Rattle.pieces.proofs.Cut.{Fit, fit}
use Rattle.pieces.proofs.Facts.{decides_unfit, decides_live, decides_free, decides_live-of, decides_apart, decides_some-held, decides_repeats}

module _ (now : ℕ) (key : Key) (p : Part) (c : Collection) (memory : List ℕ) where
  -- what each plan is made for
  abbrev pub PlanFact : Plan → Type 0
  PlanFact plan.Unfit = Unfit p
  PlanFact plan.Full = (Unfit p → ⊥) × NoneFree now key p c memory
  PlanFact plan.Ignore = (Unfit p → ⊥) × ((k : ℕ) × Ignored now key p c memory k × (EndsApart p (datagram_at c k) → ⊥))
  PlanFact (plan.Drop k) = (Unfit p → ⊥) × Contradicts now key p c memory k
  PlanFact (plan.Extend k) = (Unfit p → ⊥) × Continues now key p c memory k
  PlanFact (plan.Begin k) = (Unfit p → ⊥) × Begins now key p c memory k

  -- a plan is made exactly when its fact holds
  pub record PlanExactly : Type 0 where
    pub only_if : PlanFact (plan_of now key p c memory)
    pub whenever : (plan : Plan) → PlanFact plan → plan_of now key p c memory ≡ plan

-- the first place that passes a test is the lowest with the fact that the test decides
module _ (c : Collection) (eight : length c.places ≡ places) (t : Place → Bool) (F : Place → Type 0) (d : (x : Place) → Decides (t x) (F x)) where
  pub lowest_first : (k : ℕ) → first_with t c.places ≡ k → k < places → Lowest F c k
  lowest_first k e h = record {
    inside = h;
    here = (d (datagram_at c k)).holds (first_passes t c.places no_place k e (omega arith));
    lower = λ j i. fails (t (datagram_at c j)) (d (datagram_at c j)) (first-before t c.places no_place j (omega arith));
  }

  pub first_lowest : (k : ℕ) → Lowest F c k → first_with t c.places ≡ k
  first_lowest k l =
      first-at t c.places no_place k (omega (arith, l.inside)) ((d (datagram_at c k)).passes l.here)
      (λ j i. refutes (t (datagram_at c j)) (d (datagram_at c j)) (l.lower j i))

  nowhere_first : places ≤ first_with t c.places → Nowhere F c
  nowhere_first h k i = fails (t (datagram_at c k)) (d (datagram_at c k)) (first-before t c.places no_place k (omega arith))

  first_nowhere : Nowhere F c → first_with t c.places ≡ places
  first_nowhere n = first-none t c.places no_place (λ j i. refutes (t (datagram_at c j)) (d (datagram_at c j)) (n j (omega arith))) ∙ eight

  -- there is one lowest
  pub lowest_one : (j k : ℕ) → Lowest F c j → Lowest F c k → j ≡ k
  lowest_one j k a b = sym (first_lowest j a) ∙ first_lowest k b

-- a piece that is fit
pub fit_of_lem : (p : Part) → (Unfit p → ⊥) → Fit p
fit_of_lem p n = fit p (refutes (is_unfit p) (decides_unfit p) n)

-- one that repeats what is held has some of it held
pub repeats-some : (k : ℕ) (p : Part) (d : Place) (memory : List ℕ) → Fit p → Repeats k p d memory → SomeHeld p d
repeats-some k p d memory fp r = let some = fp.some in (p.offset, (omega arith, omega arith), r.held p.offset (omega arith, omega arith))

-- ---- what is planned, and why

module _ (now : ℕ) (key : Key) (p : Part) (c : Collection) (memory : List ℕ) (eight : length c.places ≡ places) where
  abbrev found : ℕ
  found = first_with (is_of key now) c.places

  abbrev free : ℕ
  free = first_with (is_free now) c.places

  live-full : places ≤ free → (k : ℕ) → k < 8 → Live now (datagram_at c k)
  unfolding is_free
  live-full h k i =
      (decides_live now (datagram_at c k)).holds (not-false (is_live now (datagram_at c k)) (first-before (is_free now) c.places no_place k (omega arith)))

  abbrev Fact : Plan → Type 0
  Fact = PlanFact now key p c memory

  fact_in : (nf : Unfit p → ⊥) (k : ℕ) → Lowest (LiveOf now key) c k → Fact (plan_in k p (datagram_at c k) memory)
  unfolding plan_in plan_held
  fact_in nf k low =
      let d = datagram_at c k in
      let fp = fit_of_lem p nf in
      let held = any_held d.held p.offset (count_of p) in
      let again = all_held d.held p.offset (count_of p) && is_equal (bytes_of k p memory) p.payload in
      by_test Fact (is_apart p d) (plan.Drop k) (plan_held k p d memory) (λ t. (nf, record { place = low; clash = inl ((decides_apart p d).holds t) }))
      (λ t. by_test Fact held (cond again plan.Ignore (plan.Drop k)) (plan.Extend k)
      (λ a. by_test Fact again plan.Ignore (plan.Drop k)
      (λ e. (nf, (k, record { place = low; repeats = (decides_repeats k p d memory fp).holds e }, fails (is_apart p d) (decides_apart p d) t)))
      (λ e. (nf, record { place = low; clash = inr ((decides_some-held p d fp).holds a, fails again (decides_repeats k p d memory fp) e) })))
      (λ a. (nf, record { place = low; agrees = fails (is_apart p d) (decides_apart p d) t; new = fails held (decides_some-held p d fp) a })))

  fact_new : (nf : Unfit p → ⊥) → Nowhere (LiveOf now key) c → Fact (plan_new free)
  unfolding plan_new
  fact_new nf none =
      by_test Fact (ltb free places) (plan.Begin free) plan.Full
      (λ t. (nf, record { new = none; place = lowest_first c eight (is_free now) (λ d. Live now d → ⊥) (decides_free now) free refl (ltb-true free places t) }))
      (λ t. (nf, record { new = none; full = live-full (ltb-false free places t) }))

  only_if : Fact (plan_of now key p c memory)
  unfolding plan_of
  only_if =
      by_test Fact (is_unfit p) plan.Unfit _ (decides_unfit p).holds
      (λ t.
      let nf = fails (is_unfit p) (decides_unfit p) t in
      by_test Fact (ltb found places) (plan_in found p (datagram_at c found) memory) (plan_new free)
      (λ h. fact_in nf found (lowest_first c eight (is_of key now) (LiveOf now key) (λ d. decides_live-of now d key) found refl (ltb-true found places h)))
      (λ h. fact_new nf (nowhere_first c eight (is_of key now) (LiveOf now key) (λ d. decides_live-of now d key) (ltb-false found places h))))

  -- ---- and the other way

  plan_at : (Unfit p → ⊥) → (k : ℕ) → Lowest (LiveOf now key) c k → plan_of now key p c memory ≡ plan_in k p (datagram_at c k) memory
  unfolding plan_of
  plan_at nf k low =
      rw (refutes (is_unfit p) (decides_unfit p) nf, first_lowest c eight (is_of key now) (LiveOf now key) (λ d. decides_live-of now d key) k low, lt-ltb k places low.inside)

  plan_fresh : (Unfit p → ⊥) → Nowhere (LiveOf now key) c → plan_of now key p c memory ≡ plan_new free
  unfolding plan_of
  plan_fresh nf none =
      rw (refutes (is_unfit p) (decides_unfit p) nf, first_nowhere c eight (is_of key now) (LiveOf now key) (λ d. decides_live-of now d key) none)

  module _ (nf : Unfit p → ⊥) (k : ℕ) where
    abbrev d : Place
    d = datagram_at c k

    in-apart : EndsApart p d → plan_in k p d memory ≡ plan.Drop k
    unfolding plan_in
    in-apart h = rw ((decides_apart p d).passes h)

    in-clash : SomeHeld p d → (Repeats k p d memory → ⊥) → plan_in k p d memory ≡ plan.Drop k
    unfolding plan_in plan_held
    in-clash h n =
        let fp = fit_of_lem p nf in
        rw ((decides_some-held p d fp).passes h, refutes _ (decides_repeats k p d memory fp) n) (both (is_apart p d))
      where
        both : (b : Bool) → cond b (plan.Drop k) (plan.Drop k) ≡ plan.Drop k
        both true = refl
        both false = refl

    in-repeats : (EndsApart p d → ⊥) → Repeats k p d memory → plan_in k p d memory ≡ plan.Ignore
    unfolding plan_in plan_held
    in-repeats a h =
        let fp = fit_of_lem p nf in
        rw (
          refutes (is_apart p d) (decides_apart p d) a,
          (decides_some-held p d fp).passes (repeats-some k p d memory fp h),
          (decides_repeats k p d memory fp).passes h,
        )

    in-new : (EndsApart p d → ⊥) → (SomeHeld p d → ⊥) → plan_in k p d memory ≡ plan.Extend k
    unfolding plan_in plan_held
    in-new a n = rw (refutes (is_apart p d) (decides_apart p d) a, refutes _ (decides_some-held p d (fit_of_lem p nf)) n)

  whenever : (plan : Plan) → Fact plan → plan_of now key p c memory ≡ plan
  unfolding plan_of plan_new
  whenever plan.Unfit u = rw ((decides_unfit p).passes u)
  whenever plan.Full f =
      let none : free ≡ places = first_nowhere c eight (is_free now) (λ d. Live now d → ⊥) (decides_free now) (λ k i n. n (f.1.full k i)) in
      plan_fresh f.0 f.1.new ∙ rw none
  whenever plan.Ignore f = plan_at f.0 f.1.0 f.1.1.place ∙ in-repeats f.0 f.1.0 f.1.2 f.1.1.repeats
  whenever (plan.Drop k) f =
      plan_at f.0 k f.1.place ∙ ⊎_elim (in-apart f.0 k) (λ h. in-clash f.0 k h.0 h.1) f.1.clash
  whenever (plan.Extend k) f = plan_at f.0 k f.1.place ∙ in-new f.0 k f.1.agrees f.1.new
  whenever (plan.Begin k) f =
      let at : free ≡ k = first_lowest c eight (is_free now) (λ d. Live now d → ⊥) (decides_free now) k f.1.place in
      plan_fresh f.0 f.1.new ∙ rw (at, lt-ltb k places f.1.place.inside)

  pub plan_exactly : PlanExactly now key p c memory
  plan_exactly = record { only_if = only_if; whenever = whenever }
