-- The call for the number in plain terms: what it comes to of a whole datagram and of a piece, by what 15, 2, 3, 4, 6, 7 say. Assumes nothing.
use Rattle.std.specs.Prelude.{Result, Ok, Err}
use Prim.Native.Nat.{ℕ, ◌/◌, ◌%◌}
use mathlib.Core.Path.{◌≡◌, refl}
use mathlib.Core.List.{List}
use native.Mathlib.Omega.{arith}
use borrow.Author.Tests.{eq-eqb, leb-true, le-leb}
use lib.Dec.{leb}
use lib.ListN.{get_or, length}
use Rattle.lists.proofs.Decides.{Decides}
use Rattle.refusals.specs.Refusals.{first_of, stop_or}
use Rattle.refusals.specs.declared.Refusal.{Refusal}
use Rattle.header.specs.Fields.{word_at, quad_at}
use Rattle.header.specs.Outer.{outer_of, payload_of}
use Rattle.settings.specs.declared.Settings.{Settings}
use Rattle.routers.specs.declared.Router.{Router}
use Rattle.pieces.specs.Places.{Part, part_of}
use Rattle.pieces.specs.Take.{taken_of, memory_of}
use Rattle.pieces.specs.declared.Collection.{Collection}
use Rattle.pieces.specs.declared.Key.{Key}
use Rattle.pieces.specs.declared.Piece.{Piece}
use Rattle.receiving.specs.Collect.{arrival_rows, whole_of, piece_of, joined_by, taken_piece, taken_memory, fragment_of, fragment_memory, collected_of, collected_memory}
use Rattle.receiving.specs.Facts.{encapsulated, Unfragmented}
use Rattle.receiving.proofs.Facts.{decides_piece}

-- 15, 2, 3, 4, 6, 7, of a datagram d
abbrev pub arrival_check : Settings → ℕ → ℕ → List ℕ → Result Unit Refusal
arrival_check s interface lent d = first_of (arrival_rows s interface lent d (outer_of d))

-- the key of a datagram, by its bytes
abbrev pub key_in : List ℕ → Key
key_in d = record { source = quad_at d 12; destination = quad_at d 16; identification = word_at d 4; protocol = get_or d 9 0 }

-- the piece that a datagram is, by its bytes
abbrev pub piece_in : List ℕ → Piece
piece_in d = record { key = key_in d; offset = word_at d 6 % 0x2000; more = leb 0x2000 (word_at d 6 % 0x4000) }

-- the same with its payload
abbrev pub part_in : List ℕ → Part
part_in d = part_of (piece_in d) (encapsulated d)

low_bits : (w : ℕ) → w % 0x4000 % 0x2000 ≡ w % 0x2000
low_bits w = omega arith

-- more-fragments is the bit above the offset
pub decides_more : (d : List ℕ) → Decides (leb 0x2000 (word_at d 6 % 0x4000)) (word_at d 6 / 0x2000 % 2 ≡ 1)
decides_more d = record {
  holds = λ h. let l = leb-true 0x2000 (word_at d 6 % 0x4000) h in omega arith;
  passes = λ h. le-leb 0x2000 (word_at d 6 % 0x4000) (omega arith);
}

-- the same of both parts of a pair
pub stop_pair : {A B : Type 0} (f : Refusal → A) (g : Refusal → B) (k : Result Unit Refusal) (x : A) (y : B)
    → ◌≡◌ {A = A × B} (stop_or f k x, stop_or g k y) (stop_or (λ r. (f r, g r)) k (x, y))
stop_pair f g (Ok tt) x y = refl
stop_pair f g (Err r) x y = refl

module _ (s : Settings) (routers : List Router) (c : Collection) (now : ℕ) (d : List ℕ) (interface : ℕ) (memory : List ℕ) where
  -- a whole datagram leaves collection and memory
  pub whole-call : Unfragmented d
      → (collected_of s routers c now d interface memory ≡ record { answer = whole_of s routers (length memory) d interface; pieces = c })
      × (collected_memory s c now d interface memory ≡ memory)
  unfolding collected_of collected_memory outer_of
  whole-call h = let e = eq-eqb (word_at d 6 % 0x4000) 0 h in (rw e, rw e)

  -- a piece: what its arrival says, and then what comes of it
  pub piece-call : (Unfragmented d → ⊥)
      → (collected_of s routers c now d interface memory
      ≡ stop_or (λ (r : Refusal). record { answer = Err r; pieces = c }) (arrival_check s interface (length memory) d)
      (record {
        answer = joined_by s routers (quad_at d 12) (taken_of now (key_in d) (part_in d) c memory).answer (memory_of now (key_in d) (part_in d) c memory);
        pieces = (taken_of now (key_in d) (part_in d) c memory).collection;
      }))
      × (collected_memory s c now d interface memory
      ≡ stop_or (λ (r : Refusal). memory) (arrival_check s interface (length memory) d) (memory_of now (key_in d) (part_in d) c memory))
  unfolding collected_of collected_memory fragment_of fragment_memory taken_piece taken_memory piece_of payload_of outer_of
  piece-call h =
      let e = (decides_piece d).passes h in
      let l = low_bits (word_at d 6) in
      (rw (e, l), rw (e, l))
