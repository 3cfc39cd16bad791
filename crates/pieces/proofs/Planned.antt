-- The place that a plan names is there, and has room for the piece. Assumes nothing.
use Prim.Native.Nat.{ℕ, ◌≤◌, ◌<◌}
use mathlib.Core.Bool.{◌&&◌}
use mathlib.Core.List.{List}
use borrow.Author.Tests.{ltb-true}
use lib.Dec.{ltb}
use Rattle.lists.specs.Any.{first_with}
use Rattle.lists.proofs.Tests.{by_test}
use Rattle.units.specs.Held.{any_held, all_held}
use Rattle.pieces.specs.declared.Key.{Key}
use Rattle.pieces.specs.declared.Place.{Place}
use Rattle.pieces.specs.declared.Collection.{Collection}
use Rattle.pieces.specs.declared.Plan.{Plan}
use Rattle.pieces.specs.declared.Plan.TheVariants.{Unfit, Full, Ignore, Drop, Extend, Begin}
use Rattle.pieces.specs.Places.{Part, places, room, end_of, count_of, is_unfit, is_apart, is_equal, is_of, is_free, bytes_of}
use Rattle.pieces.specs.Change.{Placed}
use Rattle.pieces.specs.Take.{place_at, plan_held, plan_in, plan_new, plan_of}
use Rattle.pieces.proofs.Cut.{fit}

module _ (p : Part) (memory : List ℕ) (inside : end_of p ≤ room) where
  placed_in : (k : ℕ) (d : Place) → k < places → Placed (plan_in k p d memory) p
  unfolding plan_in plan_held
  placed_in k d h =
      let P : Plan → Type 0 = λ plan. Placed plan p in
      by_test P (is_apart p d) (Drop k) (plan_held k p d memory) (λ t. h)
      (λ t. by_test P (any_held d.held p.offset (count_of p)) _ (Extend k)
      (λ t. by_test P (all_held d.held p.offset (count_of p) && is_equal (bytes_of k p memory) p.payload) Ignore (Drop k) (λ t. tt) (λ t. h)) (λ t. (h, inside)))

  placed-new : (k : ℕ) → Placed (plan_new k) p
  unfolding plan_new
  placed-new k = by_test (λ plan. Placed plan p) (ltb k places) (Begin k) Full (λ t. (ltb-true k places t, inside)) (λ t. tt)

pub plan_placed : (now : ℕ) (key : Key) (p : Part) (c : Collection) (memory : List ℕ) → Placed (plan_of now key p c memory) p
unfolding plan_of
plan_placed now key p c memory =
    let P : Plan → Type 0 = λ plan. Placed plan p in
    let k : ℕ = first_with (is_of key now) c.places in
    by_test P (is_unfit p) Unfit _ (λ t. tt)
    (λ t.
    let inside = (fit p t).inside in
    by_test P (ltb k places) (plan_in k p (place_at c k) memory) (plan_new (first_with (is_free now) c.places))
    (λ t. placed_in p memory inside k (place_at c k) (ltb-true k places t)) (λ t. placed-new p memory inside (first_with (is_free now) c.places)))
