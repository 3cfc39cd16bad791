-- What a step under another key leaves alone: the datagram of a key, and its bytes. Assumes nothing.
use Prim.Native.Nat.{ℕ, ◌<◌}
use mathlib.Core.Path.{◌≡◌, refl, sym, ◌∙◌}
use mathlib.Core.Bool.{true, false, ◌&&◌, true≢false, and-false}
use mathlib.Core.List.{List}
use native.Mathlib.Omega.{arith}
use borrow.Author.Tests.{ltb-true}
use lib.Dec.{ltb}
use Rattle.lists.specs.Any.{first_with}
use Rattle.lists.proofs.Tests.{by_test}
use Rattle.lists.proofs.First.{first_passes}
use Rattle.units.specs.Held.{any_held, all_held}
use Rattle.pieces.specs.declared.Key.{Key}
use Rattle.pieces.specs.declared.Place.{Place}
use Rattle.pieces.specs.declared.Collection.{Collection}
use Rattle.pieces.specs.declared.Plan.{Plan}
use Rattle.pieces.specs.declared.Plan.TheVariants.{Unfit, Full, Ignore, Drop, Extend, Begin}
use Rattle.pieces.specs.Places.{Part, extended_to, places, count_of, is_unfit, is_same, is_live, is_free, is_of, is_apart, is_equal, bytes_of, no_place, begun, extended}
use Rattle.pieces.specs.Take.{place_at, plan_in, plan_held, plan_new, plan_of, taken_by, memory_by, taken_of, memory_of}
use Rattle.pieces.proofs.Joining.{Step, State, Sized, after, is_under}
use Rattle.pieces.proofs.Cut.{Fit, fit}
use Rattle.pieces.proofs.Keys.{key-same, of_live, of-key, not_free}
use Rattle.pieces.proofs.Kept.{Kept, kept_same, unused, kept-placed, kept-settled}

module _ (key : Key) (now k : ℕ) where
  module _ (c : Collection) (memory : List ℕ) (sized : Sized (record { collection = c; memory = memory })) (hk : k < places) (p : Part) (fp : Fit p) where
    -- a plan that leaves place k alone
    abbrev Away : Plan → Key → Type 0
    Away Unfit other = Unit {0}
    Away Full other = Unit {0}
    Away Ignore other = Unit {0}
    Away (Drop j) other = j ≡ k → ⊥
    Away (Extend j) other = (j ≡ k → ⊥) × (j < places) × (is_same key (place_at c j).key ≡ false)
    Away (Begin j) other = (j ≡ k → ⊥) × (j < places) × (is_same key other ≡ false)

    other_key : (d : Place) → is_same key d.key ≡ false → is_of key now (extended p d) ≡ false
    unfolding is_of extended_to
    other_key d h = rw h (and-false (is_live now (extended p d)))

    kept_by : (plan : Plan) (time : ℕ) (other : Key) → Away plan other
        → Kept key now k (record { collection = c; memory = memory }) (record { collection = (taken_by plan time other p c).collection; memory = memory_by plan p memory })
    kept_by Unfit time other a = kept_same key now k (record { collection = c; memory = memory })
    kept_by Full time other a = kept_same key now k (record { collection = c; memory = memory })
    kept_by Ignore time other a = kept_same key now k (record { collection = c; memory = memory })
    kept_by (Drop j) time other a = kept-placed key now k c memory j _ a (unused key now k (place_at c j))
    kept_by (Extend j) time other a =
        kept-settled key now k c memory j (extended p (place_at c j)) p a.0 a.1 hk fp.inside sized.memory (other_key (place_at c j) a.2)
    kept_by (Begin j) time other a =
        kept-settled key now k c memory j (extended p (begun other time)) p a.0 a.1 hk fp.inside sized.memory (other_key (begun other time) a.2)

    -- the plan for a piece under another key does
    away_in : (j : ℕ) (other : Key) → (j ≡ k → ⊥) → j < places → is_same key (place_at c j).key ≡ false → Away (plan_in j p (place_at c j) memory) other
    unfolding plan_in plan_held
    away_in j other n h e =
        let d = place_at c j in
        by_test (λ (plan : Plan). Away plan other) (is_apart p d) _ _ (λ t. n)
        (λ t. by_test (λ (plan : Plan). Away plan other) (any_held d.held p.offset (count_of p)) _ _
        (λ t. by_test (λ (plan : Plan). Away plan other) (all_held d.held p.offset (count_of p) && is_equal (bytes_of j p memory) p.payload) _ _ (λ t. tt) (λ t. n))
        (λ t. (n, h, e)))

    away_new : (j : ℕ) (other : Key) → (j < places → j ≡ k → ⊥) → is_same key other ≡ false → Away (plan_new j) other
    unfolding plan_new
    away_new j other n e =
        by_test (λ (plan : Plan). Away plan other) (ltb j places) _ _ (λ t. let h = ltb-true j places t in (n h, h, e)) (λ t. tt)

-- a step under another key leaves the key's datagram alone, as long as that is live
pub kept-after : (key : Key) (k : ℕ) (s : State) (x : Step) → Sized s → k < places → first_with (is_of key x.time) s.collection.places ≡ k
    → is_under key x ≡ false → Kept key x.time k s (after s x)
unfolding taken_of memory_of plan_of
kept-after key k s x sized hk found other =
    let c = s.collection in
    let now = x.time in
    let p = x.piece in
    let own : is_of key now (place_at c k) ≡ true = first_passes (is_of key now) c.places no_place k found (omega (arith, sized.eight)) in
    let j : ℕ = first_with (is_of x.key now) c.places in
    let f : ℕ = first_with (is_free now) c.places in
    let by : (plan : Plan) → Type 0 = λ plan. Kept key now k s (record { collection = (taken_by plan now x.key p c).collection; memory = memory_by plan p s.memory }) in
    by_test by (is_unfit p) Unfit _ (λ t. kept_same key now k s)
    (λ t.
    let fp = fit p t in
    let go : (plan : Plan) → Away key now k c s.memory sized hk p fp plan x.key → by plan = λ plan a. kept_by key now k c s.memory sized hk p fp plan now x.key a in
    by_test by (ltb j places) (plan_in j p (place_at c j) s.memory) (plan_new f)
    (λ t.
    let hj = ltb-true j places t in
    let same : x.key ≡ (place_at c j).key = of-key x.key now (place_at c j) (first_passes (is_of x.key now) c.places no_place j refl (omega (arith, sized.eight))) in
    let apart : is_same key (place_at c j).key ≡ false = rw (← same) other in
    go (plan_in j p (place_at c j) s.memory) (away_in key now k c s.memory sized hk p fp j x.key
    (λ e.
    let mine : is_same key (place_at c j).key ≡ true = rw (e, ← of-key key now (place_at c k) own) (key-same key) in
    true≢false (sym mine ∙ apart)) hj apart))
    (λ t.
    go (plan_new f) (away_new key now k c s.memory sized hk p fp f x.key
    (λ h e. not_free now (place_at c f) (first_passes (is_free now) c.places no_place f refl (omega (arith, sized.eight)))
    (rw e (of_live key now (place_at c k) own))) other)))
