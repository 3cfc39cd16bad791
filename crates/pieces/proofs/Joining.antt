-- What is claimed of the pieces of one cutting that come in any order among others (R23.19), and of what each answer changes
-- (R23.16): the statements, over lists of steps.
use Prim.Native.Nat.{ℕ, ◌+◌, ◌*◌, ◌≤◌, ◌<◌}
use mathlib.Core.Path.{◌≡◌}
use mathlib.Core.Logic.{◌⊎◌}
use mathlib.Core.Bool.{Bool, true, false, cond}
use mathlib.Core.List.{List, [], ◌∷◌, ◌++◌}
use lib.ListN.{length}
use Rattle.lists.specs.Any.{first_with}
use Rattle.lists.specs.Parts.{part}
use Rattle.lent.specs.Written.{over}
use Rattle.refusals.specs.declared.Refusal.TheVariants.{PieceWaits, NoPlace, PiecesDisagree, PieceUnfit}
use Rattle.pieces.specs.Places.{Part, places, room, memory_room, lifetime, end_of, is_same, is_of, byte_at}
use Rattle.pieces.specs.Take.{place_at, taken_of, memory_of, joined_in}
use Rattle.pieces.specs.declared.Key.{Key}
use Rattle.pieces.specs.declared.Collection.{Collection}
use Rattle.pieces.specs.declared.Joined.{Joined}
use Rattle.std.specs.Prelude.{Result, Err}
use Rattle.refusals.specs.declared.Refusal.{Refusal}

-- ---- a cutting

-- the payloads, one behind another
abbrev pub payloads : List Part → List ℕ
payloads [] = []
payloads (p ∷ ps) = p.payload ++ payloads ps

-- offsets run on from the byte `at` without a gap, more-fragments is clear on the last alone
abbrev pub RunsOn : ℕ → List Part → Type 0
RunsOn at [] = ⊥
RunsOn at (p ∷ []) = (8 * p.offset ≡ at) × (p.more ≡ false)
RunsOn at (p ∷ q ∷ ps) = (8 * p.offset ≡ at) × (p.more ≡ true) × RunsOn (at + length p.payload) (q ∷ ps)

-- p is one of them
abbrev pub In : Part → List Part → Type 0
In p [] = ⊥
In p (q ∷ ps) = (p ≡ q) ⊎ In p ps

-- the pieces of one cutting of a payload
pub record Cutting (ps : List Part) (payload : List ℕ) : Type 0 where
  pub runs : RunsOn 0 ps
  pub whole : payloads ps ≡ payload

-- ---- a list of steps

-- a piece that is taken at a time
pub record Step : Type 0 where
  pub key : Key
  pub piece : Part
  pub time : ℕ

-- a collection and the memory that is lent with it
pub record State : Type 0 where
  pub collection : Collection
  pub memory : List ℕ

-- what comes of a step
abbrev pub answer : State → Step → Result Joined Refusal
answer s x = (taken_of x.time x.key x.piece s.collection s.memory).answer

-- the state after a step; the memory is handed on untouched
abbrev pub after : State → Step → State
after s x = record {
  collection = (taken_of x.time x.key x.piece s.collection s.memory).collection;
  memory = memory_of x.time x.key x.piece s.collection s.memory;
}

-- the state after a list of steps
abbrev pub after_all : State → List Step → State
after_all s [] = s
after_all s (x ∷ xs) = after_all (after s x) xs

-- there are eight places, and the memory is long enough
pub record Sized (s : State) : Type 0 where
  pub eight : length s.collection.places ≡ places
  pub memory : memory_room ≤ length s.memory

module _ (key : Key) where
  -- the step has the key
  abbrev pub is_under : Step → Bool
  is_under x = is_same key x.key

  -- the pieces of the steps under the key
  abbrev pub under : List Step → List Part
  under [] = []
  under (x ∷ xs) = cond (is_under x) (x.piece ∷ under xs) (under xs)

  -- each step under the key waits
  abbrev pub Wait : State → List Step → Type 0
  Wait s [] = Unit {0}
  Wait s (x ∷ xs) = (is_under x ≡ true → answer s x ≡ Err PieceWaits) × Wait (after s x) xs

  -- no step under the key is refused by 28 or 30
  abbrev pub Admitted : State → List Step → Type 0
  Admitted s [] = Unit {0}
  Admitted s (x ∷ xs) =
      (is_under x ≡ true → (answer s x ≡ Err NoPlace → ⊥) × (answer s x ≡ Err PieceUnfit → ⊥)) × Admitted (after s x) xs

  -- times do not fall from `now` on, and each step under the key is a piece of the cutting
  abbrev pub Arrive : List Part → ℕ → List Step → Type 0
  Arrive ps now [] = Unit {0}
  Arrive ps now (x ∷ xs) = (now ≤ x.time) × (is_under x ≡ true → In x.piece ps) × Arrive ps x.time xs

-- the steps begin with a piece of the cutting whose key no live datagram has; all that come under the key by the last step are the
-- cutting's, in any order, once or more often, within 30 s; the last step is the first with which none is missing
pub record Premises (key : Key) (ps : List Part) (payload : List ℕ) (s : State) (first : Step) (others : List Step) (last : Step) : Type 0 where
  pub cut : Cutting ps payload
  pub sized : Sized s
  pub new : first_with (is_of key first.time) s.collection.places ≡ places
  pub arrive : Arrive key ps first.time (first ∷ others ++ last ∷ [])
  pub in_time : last.time < first.time + lifetime
  pub admitted : Admitted key s (first ∷ others ++ last ∷ [])
  pub starts : is_under key first ≡ true
  pub ends : is_under key last ≡ true
  pub missing : (p : Part) × In p ps × (In p (under key (first ∷ others)) → ⊥)
  pub whole : (p : Part) → In p ps → In p (under key (first ∷ others ++ last ∷ []))

-- every step under the key waits; the last one names a place, and the payload stands there
pub record Joins (key : Key) (payload : List ℕ) (s : State) (first : Step) (others : List Step) (last : Step) : Type 0 where
  pub waits : Wait key s (first ∷ others)
  pub place : ℕ
  pub inside : place < places
  pub joined : answer (after_all s (first ∷ others)) last ≡ joined_in place (length payload)
  pub stands : part (room * place) (length payload) (after_all s (first ∷ others ++ last ∷ [])).memory ≡ payload

-- the pieces of one cutting are joined (proved in Holds)
abbrev pub PiecesJoin : Type 0
PiecesJoin = (key : Key) (ps : List Part) (payload : List ℕ) (s : State) (first : Step) (others : List Step) (last : Step)
    → Premises key ps payload s first others last → Joins key payload s first others last

-- ---- what a step changes

-- no place of the collection changes but k
pub record OnlyPlace (k : ℕ) (s t : State) : Type 0 where
  pub inside : k < places
  pub others : (j : ℕ) → (j ≡ k → ⊥) → place_at t.collection j ≡ place_at s.collection j

-- the piece is taken into place k: its bytes are written there, and no other place changes
pub record TakenInto (k : ℕ) (s : State) (x : Step) : Type 0 where
  pub only : OnlyPlace k s (after s x)
  pub fits : end_of x.piece ≤ room
  pub memory : (after s x).memory ≡ over (byte_at k x.piece.offset) x.piece.payload s.memory

-- 28 and 30 change nothing; 29 leaves the memory and drops the datagram of one place; 27 changes nothing, or the piece is taken; a
-- datagram that is joined is so by a piece that is taken, and its place is not in use afterwards
pub record Changes (s : State) (x : Step) : Type 0 where
  pub full : answer s x ≡ Err NoPlace → after s x ≡ s
  pub unfit : answer s x ≡ Err PieceUnfit → after s x ≡ s
  pub disagree : answer s x ≡ Err PiecesDisagree
      → ((after s x).memory ≡ s.memory) × ((k : ℕ) × OnlyPlace k s (after s x) × ((place_at (after s x).collection k).used ≡ 0))
  pub waits : answer s x ≡ Err PieceWaits → (after s x ≡ s) ⊎ ((k : ℕ) × TakenInto k s x)
  pub joined : (k n : ℕ) → answer s x ≡ joined_in k n → TakenInto k s x × ((place_at (after s x).collection k).used ≡ 0)

-- every step from a state of these sizes changes so much, and keeps the sizes (proved in Changes)
pub record StepChanges : Type 0 where
  pub changes : (s : State) (x : Step) → Sized s → Changes s x
  pub sized : (s : State) (x : Step) → Sized s → Sized (after s x)
