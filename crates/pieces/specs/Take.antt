-- What comes of a piece (R23), in the order 30, 29, 28, 27: the answer, the collection and its memory.
use Rattle.std.specs.Prelude.{ℕ, cond, ◌&&◌, List, ltb, get_or, set, replicate, Result, Err, Ok}
use Rattle.lists.specs.Any.{first_with}
use Rattle.lent.specs.Written.{written_at}
use Rattle.refusals.specs.declared.Refusal.TheVariants.{PieceWaits, NoPlace, PiecesDisagree, PieceUnfit}
use Rattle.units.specs.Held.{any_held, all_held}
use Rattle.pieces.specs.Places.{Part, places, count_of, is_unfit, is_apart, is_of, is_free, is_equal, bytes_of, byte_at, no_place, begun, extended, freed, is_whole}
use Rattle.pieces.specs.declared.Key.{Key}
use Rattle.pieces.specs.declared.Place.{Place}
use Rattle.pieces.specs.declared.Collection.{Collection}
use Rattle.pieces.specs.declared.Plan.{Plan}
use Rattle.pieces.specs.declared.Plan.TheVariants.{Unfit, Full, Ignore, Drop, Extend, Begin}
use Rattle.pieces.specs.declared.Joined.{Joined}
use Rattle.refusals.specs.declared.Refusal.{Refusal}

-- the answer of a datagram that is complete, in place k and of n bytes
abbrev pub joined_in : ℕ → ℕ → Result Joined Refusal
joined_in k n = Ok (record { place = k; length = n })

-- the answer to a piece, and the collection afterwards
pub record Taken : Type 0 where
  pub answer : Result Joined Refusal
  pub collection : Collection

-- at setup nothing is collected
abbrev pub no_datagrams : Collection
no_datagrams = record { places = replicate places no_place }

-- the datagram in place k
abbrev pub place_at : Collection → ℕ → Place
place_at c k = get_or c.places k no_place

-- the collection with another datagram in place k
abbrev pub with_place : ℕ → Place → Collection → Collection
with_place k d c = record { places = set c.places k d }

-- bytes that are all held already, and equal, are ignored (R23.8); any other overlap drops the datagram (R23.9); new bytes are taken
unfoldable pub plan_held : ℕ → Part → Place → List ℕ → Plan
plan_held k p d memory =
    cond (any_held d.held p.offset (count_of p))
    (cond (all_held d.held p.offset (count_of p) && is_equal (bytes_of k p memory) p.payload) Ignore (Drop k))
    (Extend k)

-- R23.7: a piece that disagrees about the end of the datagram d in place k drops it
unfoldable pub plan_in : ℕ → Part → Place → List ℕ → Plan
plan_in k p d memory = cond (is_apart p d) (Drop k) (plan_held k p d memory)

-- R23.11, R23.12: a new key takes the lowest place that is not live
unfoldable pub plan_new : ℕ → Plan
plan_new k = cond (ltb k places) (Begin k) Full

-- what is to be done with a piece
unfoldable pub plan_of : ℕ → Key → Part → Collection → List ℕ → Plan
plan_of now key p c memory =
    let k : ℕ = first_with (is_of key now) c.places in
    cond (is_unfit p) Unfit
    (cond (ltb k places) (plan_in k p (place_at c k) memory)
    (plan_new (first_with (is_free now) c.places)))

-- R23.13, R23.15: of the datagram d in place k, now with the piece: a complete one is named, and its place is free from the next call on
unfoldable pub settled : ℕ → Place → Collection → Taken
settled k d c =
    cond (is_whole d)
    (record { answer = joined_in k d.end; collection = with_place k (freed d) c })
    (record { answer = Err PieceWaits; collection = with_place k d c })

-- the answer and the collection, as planned
abbrev pub taken_by : Plan → ℕ → Key → Part → Collection → Taken
taken_by Unfit now key p c = record { answer = Err PieceUnfit; collection = c }
taken_by Full now key p c = record { answer = Err NoPlace; collection = c }
taken_by Ignore now key p c = record { answer = Err PieceWaits; collection = c }
taken_by (Drop k) now key p c = record { answer = Err PiecesDisagree; collection = with_place k (freed (place_at c k)) c }
taken_by (Extend k) now key p c = settled k (extended p (place_at c k)) c
taken_by (Begin k) now key p c = settled k (extended p (begun key now)) c

-- the memory, as planned: it is written where a piece is taken, and nowhere else (R23.12)
abbrev pub memory_by : Plan → Part → List ℕ → List ℕ
memory_by Unfit p memory = memory
memory_by Full p memory = memory
memory_by Ignore p memory = memory
memory_by (Drop k) p memory = memory
memory_by (Extend k) p memory = written_at (byte_at k p.offset) p.payload memory
memory_by (Begin k) p memory = written_at (byte_at k p.offset) p.payload memory

-- the answer to a piece, and the collection afterwards
unfoldable pub taken_of : ℕ → Key → Part → Collection → List ℕ → Taken
taken_of now key p c memory = taken_by (plan_of now key p c memory) now key p c

-- the memory afterwards
unfoldable pub memory_of : ℕ → Key → Part → Collection → List ℕ → List ℕ
memory_of now key p c memory = memory_by (plan_of now key p c memory) p memory
