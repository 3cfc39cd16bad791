-- R23 in its own words: the number of the next piece, said by the pieces that were taken before it, byte by byte.
use Rattle.std.specs.Prelude.{ℕ, ◌+◌, ◌*◌, ◌≡◌, ◌⊎◌, List, [], ◌∷◌, length, Err}
use Rattle.lists.specs.Any.{Some}
use Rattle.lists.specs.Parts.{part}
use Rattle.refusals.specs.Refusals.{AnswersFirst}
use Rattle.refusals.specs.declared.Refusal.{Refusal}
use Rattle.refusals.specs.declared.Refusal.TheVariants.{PieceWaits, NoPlace, PiecesDisagree, PieceUnfit}
use Rattle.pieces.specs.Places.{Part}
use Rattle.pieces.specs.Take.{taken_of, joined_in}
use Rattle.pieces.specs.Facts.{Unfit, Live, LiveOf, Lowest, Nowhere, NoneFree}
use Rattle.pieces.specs.History.{Disagree, HasByte, Whole, Handed, Grown, nothing, grown, pieces}

module _ (g : Grown) (x : Handed) where
  -- the pieces that were taken into place k
  abbrev pub before : ℕ → List Part
  before k = pieces (g.taken k)

  -- R23.5, R23.6: place k has the live datagram of the piece's key
  abbrev pub Own : ℕ → Type 0
  Own k = Lowest (LiveOf x.time x.key) g.collection k

  -- R23.12: no live datagram has the key, and k is the lowest place whose datagram is not live
  abbrev pub New : ℕ → Type 0
  New k = Nowhere (LiveOf x.time x.key) g.collection × Lowest (λ d. Live x.time d → ⊥) g.collection k

  -- R23.8: its bytes are all held already, and equal to those that stand in the memory
  pub record Known (k : ℕ) : Type 0 where
    pub held : (b : ℕ) → HasByte b x.piece → Some (HasByte b) (before k)
    pub same : part (2048 * k + 8 * x.piece.offset) (length x.piece.payload) x.memory ≡ x.piece.payload

  -- R23.7: it disagrees about the end with a piece that was taken; R23.9: or some of its bytes are held already, and it is not known
  pub record Clashes (k : ℕ) : Type 0 where
    pub place : Own k
    pub clash : Some (Disagree x.piece) (before k)
        ⊎ (((b : ℕ) × HasByte b x.piece × Some (HasByte b) (before k)) × (Known k → ⊥))

  -- R23.13: with it the datagram in place k is complete, of n bytes
  abbrev pub Completed : ℕ → ℕ → Type 0
  Completed k n = (Own k × Whole (x.piece ∷ before k) n) ⊎ (New k × Whole (x.piece ∷ []) n)

  -- R4, in the order of R23.1: what each number is given for
  abbrev pub history_facts : List (Type 0 × Refusal)
  history_facts =
      (Unfit x.piece, PieceUnfit)
      ∷ (((k : ℕ) × Clashes k), PiecesDisagree)
      ∷ (NoneFree x.time x.key x.piece g.collection x.memory, NoPlace)
      ∷ ((((k : ℕ) × Own k × Known k) ⊎ ((k n : ℕ) → Completed k n → ⊥)), PieceWaits)
      ∷ []

  -- the number is that of the first fact that holds; where none holds the datagram that is complete is joined
  pub record NextExactly : Type 0 where
    pub place : ℕ
    pub size : ℕ
    pub answers : AnswersFirst Err history_facts (joined_in place size) (taken_of x.time x.key x.piece g.collection x.memory).answer
    pub joins : (taken_of x.time x.key x.piece g.collection x.memory).answer ≡ joined_in place size → Completed place size

-- so it is after whatever was handed in before
abbrev pub HistoryExactly : Type 0
HistoryExactly = (xs : List Handed) (x : Handed) → NextExactly (grown nothing xs) x
