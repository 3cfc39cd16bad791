-- Demand 2 of the call for the number (R23), said over the datagram's bytes, the settings, the listed routers, and what comes of a piece.
use Rattle.std.specs.Prelude.{ℕ, ◌*◌, ◌/◌, ◌%◌, ◌<◌, ◌≡◌, true, List, [], ◌∷◌, ◌++◌, get_or, length, Result, Ok, Err}
use Rattle.lists.specs.Parts.{part}
use Rattle.refusals.specs.Refusals.{AnswersFirst}
use Rattle.refusals.specs.declared.Refusal.{Refusal}
use Rattle.refusals.specs.declared.Refusal.TheVariants.{OutputShort, OuterMalformed, OuterChecksum, OtherProtocol, NotForUs, OuterSourceForbidden}
use Rattle.header.specs.Fields.{word_at, quad_at}
use Rattle.settings.specs.declared.Settings.{Settings}
use Rattle.routers.specs.declared.Router.{Router}
use Rattle.pieces.specs.Places.{part_of}
use Rattle.pieces.specs.Take.{Taken, taken_of, memory_of, joined_in}
use Rattle.pieces.specs.declared.Collection.{Collection}
use Rattle.pieces.specs.declared.Piece.{Piece}
use Rattle.receiving.specs.Collect.{Collected, collected_of, collected_memory}
use Rattle.receiving.specs.Facts.{header_length, encapsulated, inner_length, OuterWhole, SumRight, Encapsulates, Unfragmented, ForUs, OuterBad, inner_facts}
use Rattle.receiving.specs.declared.Received.{Received}
use Rattle.receiving.specs.declared.Received.TheVariants.{Delivered, Joined}

-- R23.1: what each of 15, 2, 3, 4, 6, 7 is given for, where so many bytes of memory are lent
abbrev pub arrival_facts : Settings → List ℕ → ℕ → ℕ → List (Type 0 × Refusal)
arrival_facts s d interface lent =
    (lent < 16384, OutputShort)
    ∷ (OuterWhole d → ⊥, OuterMalformed)
    ∷ (SumRight d → ⊥, OuterChecksum)
    ∷ (Encapsulates d → ⊥, OtherProtocol)
    ∷ (ForUs s d interface → ⊥, NotForUs)
    ∷ (OuterBad s d, OuterSourceForbidden)
    ∷ []

-- R23.3, R23.5: x is the piece that the bytes of d say; the lower 13 bits of the word at 6 are the offset, the bit above them is more-fragments
pub record PieceIn (d : List ℕ) (x : Piece) : Type 0 where
  pub source : x.key.source ≡ quad_at d 12
  pub destination : x.key.destination ≡ quad_at d 16
  pub protocol : x.key.protocol ≡ get_or d 9 0
  pub identification : x.key.identification ≡ word_at d 4
  pub offset : x.offset ≡ word_at d 6 % 0x2000
  pub more_if : word_at d 6 / 0x2000 % 2 ≡ 1 → x.more ≡ true
  pub more_only_if : x.more ≡ true → word_at d 6 / 0x2000 % 2 ≡ 1

module _ (s : Settings) (routers : List Router) (c : Collection) (now : ℕ) (d : List ℕ) (interface : ℕ) (memory : List ℕ) where
  -- R23.14: the answer to a piece of which t comes and behind which the memory has these bytes: a datagram that it completes, of n bytes in
  -- place k, is judged by 8, 9, 10 on what stands there from byte 2,048 k on, from the outer source of d; otherwise it is the piece's number
  pub record Judged (t : Taken) (after : List ℕ) (answer : Result Received Refusal) : Type 0 where
    pub joined : (k n : ℕ) → t.answer ≡ joined_in k n
        → AnswersFirst Err (inner_facts s routers (quad_at d 12) (part (2048 * k) n after)) (Ok (Joined (2048 * k) (inner_length (part (2048 * k) n after))))
        answer
    pub refused : (r : Refusal) → t.answer ≡ Err r → answer ≡ Err r

  -- of a piece: the first of 15, 2, 3, 4, 6, 7 whose fact holds, and then collection and memory stay (R23.16); where none holds, what comes of
  -- the piece that its bytes say, with the payload between the end of its header and its total length
  pub record PieceCollected : Type 0 where
    pub piece : Piece
    pub says : PieceIn d piece
    pub answer : Result Received Refusal
    pub judged : Judged (taken_of now piece.key (part_of piece (encapsulated d)) c memory) (memory_of now piece.key (part_of piece (encapsulated d)) c memory) answer
    pub answers : AnswersFirst {A = Collected × List ℕ} (λ r. (record { answer = Err r; pieces = c }, memory)) (arrival_facts s d interface (length memory)) (
      record { answer = answer; pieces = (taken_of now piece.key (part_of piece (encapsulated d)) c memory).collection },
      memory_of now piece.key (part_of piece (encapsulated d)) c memory,
    )
        (collected_of s routers c now d interface memory, collected_memory s c now d interface memory)

  -- the call for the number does exactly what the rules say
  pub record CollectedExactly : Type 0 where
    -- of a whole datagram it gives the first of 15, 2, 3, 4, 6 to 10 whose fact holds, and where none holds the end of the outer header and
    -- 40 + payload length
    pub whole : Unfragmented d
        → AnswersFirst Err (arrival_facts s d interface (length memory) ++ inner_facts s routers (quad_at d 12) (encapsulated d))
        (Ok (Delivered (header_length d) (inner_length (encapsulated d)))) (collected_of s routers c now d interface memory).answer
    -- and leaves collection and memory (R23.17)
    pub whole_leaves : Unfragmented d → ((collected_of s routers c now d interface memory).pieces ≡ c) × (collected_memory s c now d interface memory ≡ memory)
    -- of a piece
    pub piece : (Unfragmented d → ⊥) → PieceCollected
