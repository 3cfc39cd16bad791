-- The number of a piece, what is written and what becomes of the collection are exactly what the plain facts say (R23), in any collection of
-- 8 places.
use Rattle.std.specs.Prelude.{ℕ, ◌+◌, ◌*◌, ◌≤◌, ◌≡◌, ◌⊎◌, List, length, Err}
use Rattle.lent.specs.Written.{over}
use Rattle.refusals.specs.Refusals.{AnswersFirst}
use Rattle.refusals.specs.declared.Refusal.TheVariants.{PieceWaits}
use Rattle.pieces.specs.Places.{Part}
use Rattle.pieces.specs.Take.{taken_of, memory_of, joined_in}
use Rattle.pieces.specs.Facts.{Unfit, Live, LiveOf, Lowest, Nowhere, EndsApart, SomeHeld, Contradicts, NoneFree, Ignored, JoinedAt, piece_facts, datagram_at}
use Rattle.pieces.specs.declared.Key.{Key}
use Rattle.pieces.specs.declared.Collection.{Collection}

-- R23.10, R23.12: no place changes but k
abbrev pub OnlyAt : ℕ → Collection → Collection → Type 0
OnlyAt k c d = (j : ℕ) → (j ≡ k → ⊥) → datagram_at d j ≡ datagram_at c j

module _ (now : ℕ) (key : Key) (p : Part) (c : Collection) (memory : List ℕ) where
  -- R23.12: the piece is one more of the datagram in place k
  pub record Continues (k : ℕ) : Type 0 where
    pub place : Lowest (LiveOf now key) c k
    pub agrees : EndsApart p (datagram_at c k) → ⊥
    pub new : SomeHeld p (datagram_at c k) → ⊥

  -- R23.12: the piece is the first of a new datagram, in the lowest place whose datagram is not live
  pub record Begins (k : ℕ) : Type 0 where
    pub new : Nowhere (LiveOf now key) c
    pub place : Lowest (λ d. Live now d → ⊥) c k

  -- R23.16: the collection afterwards
  abbrev pub after : Collection
  after = (taken_of now key p c memory).collection

  -- the number is that of the first fact that holds; where none holds a datagram is joined. A piece that is taken into place k is
  -- written from byte 2,048 k + 8 × offset on; otherwise the memory stays. The collection changes in the place of the piece alone, if at all
  pub record PieceExactly : Type 0 where
    pub place : ℕ
    pub size : ℕ
    pub answers : AnswersFirst Err (piece_facts now key p c memory) (joined_in place size) (taken_of now key p c memory).answer
    pub joins : (taken_of now key p c memory).answer ≡ joined_in place size → JoinedAt now key p c memory place size
    pub more : (k : ℕ) → (Unfit p → ⊥) → Continues k → 16384 ≤ length memory
        → memory_of now key p c memory ≡ over (2048 * k + 8 * p.offset) p.payload memory
    pub first : (k : ℕ) → (Unfit p → ⊥) → Begins k → 16384 ≤ length memory
        → memory_of now key p c memory ≡ over (2048 * k + 8 * p.offset) p.payload memory
    pub stays : ((k : ℕ) → (Unfit p → ⊥) → Continues k → ⊥) → ((k : ℕ) → (Unfit p → ⊥) → Begins k → ⊥) → memory_of now key p c memory ≡ memory
    -- R23.4, R23.16: 30 changes nothing
    pub unfit_leaves : Unfit p → after ≡ c
    -- R23.11, R23.16: 28 changes nothing
    pub full_leaves : (Unfit p → ⊥) → NoneFree now key p c memory → after ≡ c
    -- R23.8: a piece that is ignored changes nothing
    pub ignores : (k : ℕ) → (Unfit p → ⊥) → Ignored now key p c memory k → (EndsApart p (datagram_at c k) → ⊥) → after ≡ c
    -- R23.10: 29 drops the datagram of the key, and no other
    pub drops : (k : ℕ) → (Unfit p → ⊥) → Contradicts now key p c memory k → OnlyAt k c after × ((datagram_at after k).used ≡ 0)
    -- R23.12: one more piece of a datagram changes its place alone
    pub continues : (k : ℕ) → (Unfit p → ⊥) → Continues k → OnlyAt k c after
    -- R23.5, R23.6: and leaves it its first time and its key
    pub keeps_first : (k : ℕ) → (Unfit p → ⊥) → Continues k
        → ((datagram_at after k).first ≡ (datagram_at c k).first) × ((datagram_at after k).key ≡ (datagram_at c k).key)
    -- R23.6, R23.12: a new datagram changes its place alone, and has the piece's key and the time now as its first time
    pub begins : (k : ℕ) → (Unfit p → ⊥) → Begins k
        → OnlyAt k c after × ((datagram_at after k).first ≡ now) × ((datagram_at after k).key ≡ key)
    -- R23.15: the place of a complete datagram is free
    pub frees : (k n : ℕ) → (taken_of now key p c memory).answer ≡ joined_in k n → (datagram_at after k).used ≡ 0
    -- R23.13: the place of a datagram with one more piece that still waits is not
    pub still_used : (k : ℕ) → (Unfit p → ⊥) → Continues k ⊎ Begins k → (taken_of now key p c memory).answer ≡ Err PieceWaits
        → (datagram_at after k).used ≡ 0 → ⊥
