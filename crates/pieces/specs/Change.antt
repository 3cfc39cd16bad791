-- What comes of a piece, by the one place that it changes (R23.10, R23.12, R23.15): that this is `taken_of` is proved. No contract of node, boundary or program rests on this.
use Rattle.std.specs.Prelude.{ℕ, ◌<◌, ◌≤◌, Bool, true, false, cond, List, Err}
use Rattle.refusals.specs.declared.Refusal.TheVariants.{PieceWaits, NoPlace, PiecesDisagree, PieceUnfit}
use Rattle.pieces.specs.Places.{Part, places, room, end_of, begun, extended, freed, is_whole}
use Rattle.pieces.specs.declared.Key.{Key}
use Rattle.pieces.specs.declared.Place.{Place}
use Rattle.pieces.specs.declared.Plan.{Plan}
use Rattle.pieces.specs.declared.Plan.TheVariants.{Unfit, Full, Ignore, Drop, Extend, Begin}
use Rattle.pieces.specs.declared.Collection.{Collection}
use Rattle.pieces.specs.declared.Change.{Change}
use Rattle.pieces.specs.Take.{place_at, plan_of, joined_in}

-- R23.4, R23.5: the place of a plan is there, and has room for the piece where that is taken
abbrev pub Placed : Plan → Part → Type 0
Placed Unfit p = Unit {0}
Placed Full p = Unit {0}
Placed Ignore p = Unit {0}
Placed (Drop k) p = k < places
Placed (Extend k) p = (k < places) × (end_of p ≤ room)
Placed (Begin k) p = (k < places) × (end_of p ≤ room)

-- the place that a plan changes; where it changes none, the first
abbrev pub changed_place : Plan → ℕ
changed_place Unfit = 0
changed_place Full = 0
changed_place Ignore = 0
changed_place (Drop k) = k
changed_place (Extend k) = k
changed_place (Begin k) = k

-- R23.12: the plan takes the piece
abbrev pub is_taken : Plan → Bool
is_taken Unfit = false
is_taken Full = false
is_taken Ignore = false
is_taken (Drop k) = false
is_taken (Extend k) = true
is_taken (Begin k) = true

-- R23.13, R23.15: the answer of the datagram d in place k, now with the piece, and what stands in that place from the next call on
unfoldable pub settled_in : ℕ → Place → Change
settled_in k d =
    cond (is_whole d)
    (record { answer = joined_in k d.end; at = k; place = freed d })
    (record { answer = Err PieceWaits; at = k; place = d })

-- the answer, and what then stands in the place that the plan changes, where d stood
abbrev pub changed_by : Plan → ℕ → Key → Part → Place → Change
changed_by Unfit now key p d = record { answer = Err PieceUnfit; at = 0; place = d }
changed_by Full now key p d = record { answer = Err NoPlace; at = 0; place = d }
changed_by Ignore now key p d = record { answer = Err PieceWaits; at = 0; place = d }
changed_by (Drop k) now key p d = record { answer = Err PiecesDisagree; at = k; place = freed d }
changed_by (Extend k) now key p d = settled_in k (extended p d)
changed_by (Begin k) now key p d = settled_in k (extended p (begun key now))

-- the same in a collection
abbrev pub change_by : Plan → ℕ → Key → Part → Collection → Change
change_by plan now key p c = changed_by plan now key p (place_at c (changed_place plan))

-- the answer to a piece, and what then stands in the place that it changes; where it changes none, in the first
unfoldable pub change_of : ℕ → Key → Part → Collection → List ℕ → Change
change_of now key p c memory = change_by (plan_of now key p c memory) now key p c
