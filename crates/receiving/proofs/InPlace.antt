-- A datagram that a piece completes stands in one of the eight places. Assumes nothing.
use Prim.Native.Nat.{ℕ, ◌<◌}
use mathlib.Core.Path.{subst}
use mathlib.Core.List.{List}
use Rattle.lists.proofs.Tests.{by_test}
use Rattle.pieces.specs.Places.{Part, places, begun, extended, is_whole}
use Rattle.pieces.specs.Take.{Taken, place_at, plan_of, settled, taken_by, taken_of}
use Rattle.pieces.specs.Change.{Placed, change_of}
use Rattle.pieces.proofs.Carried.{taken_change}
use Rattle.pieces.proofs.Planned.{plan_placed}
use Rattle.pieces.specs.declared.Collection.{Collection}
use Rattle.pieces.specs.declared.Key.{Key}
use Rattle.pieces.specs.declared.Place.{Place}
use Rattle.pieces.specs.declared.Plan.{Plan}
use Rattle.pieces.specs.declared.Plan.TheVariants.{Unfit, Full, Ignore, Drop, Extend, Begin}
use Rattle.receiving.specs.Stages.{InMemory}

settled_in_lem : (k : ℕ) (d : Place) (c : Collection) → k < places → InMemory (settled k d c).answer
unfolding settled
settled_in_lem k d c h = by_test (λ (t : Taken). InMemory t.answer) (is_whole d) _ _ (λ t. h) (λ t. tt)

taken_in : (plan : Plan) (now : ℕ) (key : Key) (p : Part) (c : Collection) → Placed plan p → InMemory (taken_by plan now key p c).answer
taken_in Unfit now key p c h = tt
taken_in Full now key p c h = tt
taken_in Ignore now key p c h = tt
taken_in (Drop k) now key p c h = tt
taken_in (Extend k) now key p c h = settled_in_lem k (extended p (place_at c k)) c h.0
taken_in (Begin k) now key p c h = settled_in_lem k (extended p (begun key now)) c h.0

pub in_place : (now : ℕ) (key : Key) (p : Part) (c : Collection) (memory : List ℕ) → InMemory (change_of now key p c memory).answer
unfolding taken_of
in_place now key p c memory =
    subst (λ (t : Taken). InMemory t.answer) (taken_change now key p c memory) (taken_in (plan_of now key p c memory) now key p c (plan_placed now key p c memory))
