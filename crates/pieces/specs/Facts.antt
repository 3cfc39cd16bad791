-- The rules of a piece (R23) in plain facts, over the piece, the places of a collection as they stand, and the bytes of the memory.
use Rattle.std.specs.Prelude.{ℕ, ◌+◌, ◌*◌, ◌%◌, ◌≤◌, ◌<◌, ◌≡◌, ◌⊎◌, true, false, List, [], ◌∷◌, get_or, length}
use Rattle.lists.specs.Parts.{part}
use Rattle.refusals.specs.declared.Refusal.{Refusal}
use Rattle.refusals.specs.declared.Refusal.TheVariants.{PieceWaits, NoPlace, PiecesDisagree, PieceUnfit}
use Rattle.units.specs.Held.{marks_in}
use Rattle.pieces.specs.Places.{Part, no_place}
use Rattle.pieces.specs.declared.Key.{Key}
use Rattle.pieces.specs.declared.Place.{Place}
use Rattle.pieces.specs.declared.Collection.{Collection}

-- R23.3: the byte of the datagram's payload at which the piece ends
abbrev pub behind : Part → ℕ
behind p = 8 * p.offset + length p.payload

-- R23.4: empty, ending past 2,048, or with more-fragments set and no multiple of 8
abbrev pub Unfit : Part → Type 0
Unfit p = (length p.payload ≡ 0) ⊎ ((2048 < behind p) ⊎ ((p.more ≡ true) × (length p.payload % 8 ≡ 0 → ⊥)))

-- R23.5: source, destination, protocol and identification are the same
pub record SameKey (a b : Key) : Type 0 where
  pub source : a.source ≡ b.source
  pub destination : a.destination ≡ b.destination
  pub protocol : a.protocol ≡ b.protocol
  pub identification : a.identification ≡ b.identification

-- R23.6: there is a datagram, and its first piece came less than 30 s ago
pub record Live (now : ℕ) (d : Place) : Type 0 where
  pub used : d.used ≡ 0 → ⊥
  pub young : now < d.first + 30

-- a live datagram of the key
pub record LiveOf (now : ℕ) (key : Key) (d : Place) : Type 0 where
  pub live : Live now d
  pub same : SameKey key d.key

-- what the collection has in place k
abbrev pub datagram_at : Collection → ℕ → Place
datagram_at c k = get_or c.places k no_place

module _ (F : Place → Type 0) (c : Collection) where
  -- of the 8 places k is the lowest with the property
  pub record Lowest (k : ℕ) : Type 0 where
    pub inside : k < 8
    pub here : F (datagram_at c k)
    pub lower : (j : ℕ) → j < k → F (datagram_at c j) → ⊥

  -- none of the 8 places has it
  abbrev pub Nowhere : Type 0
  Nowhere = (k : ℕ) → k < 8 → F (datagram_at c k) → ⊥

-- R23.7, of a place as it stands: two pieces with more-fragments clear end apart, or one with it set ends at or past the end of one with it clear
abbrev pub EndsApart : Part → Place → Type 0
EndsApart p d =
    ((p.more ≡ true) × (d.end ≡ 0 → ⊥) × (d.end ≤ behind p))
    ⊎ (((p.more ≡ false) × (d.end ≡ 0 → ⊥) × (d.end ≡ behind p → ⊥)) ⊎ ((p.more ≡ false) × (behind p ≤ d.reach)))

-- the piece has bytes of the unit u
abbrev pub Covers : ℕ → Part → Type 0
Covers u p = (8 * p.offset ≤ 8 * u) × (8 * u < behind p)

-- the place has the unit u
abbrev pub HasUnit : Place → ℕ → Type 0
HasUnit d u = get_or (marks_in d.held) u false ≡ true

-- R23.9: some of the piece is held already
abbrev pub SomeHeld : Part → Place → Type 0
SomeHeld p d = (u : ℕ) × Covers u p × HasUnit d u

-- R23.8: all of the piece is held already, and the same bytes stand in the memory
pub record Repeats (k : ℕ) (p : Part) (d : Place) (memory : List ℕ) : Type 0 where
  pub held : (u : ℕ) → Covers u p → HasUnit d u
  pub same : part (2048 * k + 8 * p.offset) (length p.payload) memory ≡ p.payload

-- R23.13: with the piece the datagram d has an end, n, and every unit of the 256 before it
pub record Completes (p : Part) (d : Place) (n : ℕ) : Type 0 where
  pub end : ((p.more ≡ false) × (n ≡ behind p)) ⊎ ((p.more ≡ true) × (n ≡ d.end))
  pub some : 0 < n
  pub all : (u : ℕ) → u < 256 → 8 * u < n → HasUnit d u ⊎ Covers u p

module _ (now : ℕ) (key : Key) (p : Part) (c : Collection) (memory : List ℕ) where
  -- R23.7, R23.9: place k has the live datagram of the key, and the piece contradicts what was taken before
  pub record Contradicts (k : ℕ) : Type 0 where
    pub place : Lowest (LiveOf now key) c k
    pub clash : EndsApart p (datagram_at c k) ⊎ (SomeHeld p (datagram_at c k) × (Repeats k p (datagram_at c k) memory → ⊥))

  -- R23.11: no live datagram has the key, and all 8 places have live ones
  pub record NoneFree : Type 0 where
    pub new : Nowhere (LiveOf now key) c
    pub full : (k : ℕ) → k < 8 → Live now (datagram_at c k)

  -- R23.8: place k has the live datagram of the key, and what the piece brings is held already
  pub record Ignored (k : ℕ) : Type 0 where
    pub place : Lowest (LiveOf now key) c k
    pub repeats : Repeats k p (datagram_at c k) memory

  -- R23.13: the piece completes the datagram of its key, in place k and of n bytes, or is one by itself
  abbrev pub JoinedAt : ℕ → ℕ → Type 0
  JoinedAt k n =
      (Lowest (LiveOf now key) c k × Completes p (datagram_at c k) n)
      ⊎ ((Nowhere (LiveOf now key) c × Lowest (λ d. Live now d → ⊥) c k) × ((p.more ≡ false) × (p.offset ≡ 0) × (n ≡ length p.payload)))

  -- R23.8, R23.13: the piece is ignored, or completes nothing
  abbrev pub Waits : Type 0
  Waits = ((k : ℕ) × Ignored k) ⊎ ((k n : ℕ) → JoinedAt k n → ⊥)

  -- R4, in the order of R23.1: what each number is given for
  abbrev pub piece_facts : List (Type 0 × Refusal)
  piece_facts =
      (Unfit p, PieceUnfit)
      ∷ (((k : ℕ) × Contradicts k), PiecesDisagree)
      ∷ (NoneFree, NoPlace)
      ∷ (Waits, PieceWaits)
      ∷ []
