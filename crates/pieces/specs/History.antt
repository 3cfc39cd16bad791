-- What is collected, said by the pieces that were taken (R23): a place tells of them by its end, by how far the others reach and by the units
-- that it holds, and the rules of a piece are rules of the pieces before it, byte by byte.
use Rattle.std.specs.Prelude.{ℕ, ◌*◌, ◌≤◌, ◌<◌, ◌≡◌, ◌⊎◌, true, false, cond, eqb}
use mathlib.Core.List.{List, [], ◌∷◌, ◌++◌, map, Memᴰ}
use Rattle.lists.specs.Any.{Some}
use Rattle.pieces.specs.Places.{Part}
use Rattle.pieces.specs.Take.{no_datagrams, plan_of, taken_of}
use Rattle.pieces.specs.Facts.{behind, Unfit, SameKey, datagram_at, Covers, HasUnit}
use Rattle.pieces.specs.declared.Key.{Key}
use Rattle.pieces.specs.declared.Place.{Place}
use Rattle.pieces.specs.declared.Collection.{Collection}
use Rattle.pieces.specs.declared.Plan.{Plan}
use Rattle.pieces.specs.declared.Plan.TheVariants as plan

-- ---- one place

-- the place d tells of the pieces ps
pub record Tells (ps : List Part) (d : Place) : Type 0 where
  -- every piece with more-fragments clear ends at the end, which is 0 or that of one of them
  pub end : (q : Part) → Memᴰ q ps → q.more ≡ false → behind q ≡ d.end
  pub ended : (d.end ≡ 0) ⊎ Some (λ (q : Part). (q.more ≡ false) × (behind q ≡ d.end)) ps
  -- no piece with it set ends past `reach`, which is 0 or the end of one of them
  pub reach : (q : Part) → Memᴰ q ps → q.more ≡ true → behind q ≤ d.reach
  pub reached : (d.reach ≡ 0) ⊎ Some (λ (q : Part). (q.more ≡ true) × (behind q ≡ d.reach)) ps
  -- a unit is held exactly if one of them covers it
  pub held_by : (u : ℕ) → HasUnit d u → Some (Covers u) ps
  pub holds : (u : ℕ) → Some (Covers u) ps → HasUnit d u

-- none of them is refused by 30
abbrev pub NoneUnfit : List Part → Type 0
NoneUnfit ps = (q : Part) → Memᴰ q ps → Unfit q → ⊥

-- R23.7, in its words: both have more-fragments clear and end apart, or the one with it set ends at or past the end of the one with it clear
abbrev pub Disagree : Part → Part → Type 0
Disagree p q =
    ((p.more ≡ false) × (q.more ≡ false) × (behind p ≡ behind q → ⊥))
    ⊎ (((p.more ≡ true) × (q.more ≡ false) × (behind q ≤ behind p)) ⊎ ((p.more ≡ false) × (q.more ≡ true) × (behind p ≤ behind q)))

-- R23.8: the byte b of the datagram's payload is one of the piece
abbrev pub HasByte : ℕ → Part → Type 0
HasByte b p = (8 * p.offset ≤ b) × (b < behind p)

-- R23.13: one with more-fragments clear ends at n, and every byte before n is one of some piece
pub record Whole (ps : List Part) (n : ℕ) : Type 0 where
  pub final : Some (λ (q : Part). (q.more ≡ false) × (behind q ≡ n)) ps
  pub all : (b : ℕ) → b < n → Some (HasByte b) ps

-- ---- a list of pieces that are handed in

-- a piece that is handed in, with the time and the memory that is lent
pub record Handed : Type 0 where
  pub key : Key
  pub piece : Part
  pub time : ℕ
  pub memory : List ℕ

-- what is to be done with it
abbrev pub plan_for : Collection → Handed → Plan
plan_for c x = plan_of x.time x.key x.piece c x.memory

-- what is collected after it
abbrev pub collection_after : Collection → Handed → Collection
collection_after c x = (taken_of x.time x.key x.piece c x.memory).collection

-- those that were taken into each place, the last one first, after one more: a new datagram's place begins anew
abbrev pub taken_into : Plan → Handed → (ℕ → List Handed) → ℕ → List Handed
taken_into plan.Unfit x taken k = taken k
taken_into plan.Full x taken k = taken k
taken_into plan.Ignore x taken k = taken k
taken_into (plan.Drop j) x taken k = taken k
taken_into (plan.Extend j) x taken k = cond (eqb k j) (x ∷ taken k) (taken k)
taken_into (plan.Begin j) x taken k = cond (eqb k j) (x ∷ []) (taken k)

-- what is collected after a list of them, and those that were taken into each place
pub record Grown : Type 0 where
  pub collection : Collection
  pub taken : ℕ → List Handed

-- at first nothing
abbrev pub nothing : Grown
nothing = record { collection = no_datagrams; taken = λ k. [] }

-- after one more
abbrev pub grown_by : Grown → Handed → Grown
grown_by g x = record { collection = collection_after g.collection x; taken = taken_into (plan_for g.collection x) x g.taken }

-- after a list of them
abbrev pub grown : Grown → List Handed → Grown
grown g [] = g
grown g (x ∷ xs) = grown (grown_by g x) xs

-- the pieces
abbrev pub pieces : List Handed → List Part
pieces xs = map (λ (x : Handed). x.piece) xs

-- the datagram d is that of the pieces that were taken: it tells of them, they are fit and of its key, and the first came at its first time
pub record Collects (xs : List Handed) (d : Place) : Type 0 where
  pub tells : Tells (pieces xs) d
  pub fit : NoneUnfit (pieces xs)
  pub keys : (x : Handed) → Memᴰ x xs → SameKey x.key d.key
  pub later : List Handed
  pub oldest : Handed
  pub order : xs ≡ later ++ oldest ∷ []
  pub first : oldest.time ≡ d.first

-- whatever is handed in, at whatever times and with whatever memory: each place in use has the datagram of those that were taken into it
abbrev pub HistoryTells : Type 0
HistoryTells = (xs : List Handed) (k : ℕ) → k < 8 → ((datagram_at (grown nothing xs).collection k).used ≡ 0 → ⊥)
    → Collects ((grown nothing xs).taken k) (datagram_at (grown nothing xs).collection k)
