-- The marks and bytes of two pieces that lie apart, and of one piece itself, in a place. Assumes nothing.
use Prim.Native.Nat.{ℕ, ◌+◌, ◌*◌, ◌≤◌, ◌<◌}
use mathlib.Core.Path.{◌≡◌, sym, ap, ◌∙◌}
use mathlib.Core.Logic.{◌⊎◌, ⊎_elim}
use mathlib.Core.Bool.{Bool, true, false}
use mathlib.Core.List.{List}
use native.Mathlib.Omega.{arith}
use borrow.Author.Tests.{ne_eqb}
use lib.Dec.{eqb}
use lib.ListN.{length, replicate, length-replicate}
use Rattle.lists.specs.Parts.{part}
use Rattle.lists.proofs.Parts.{part-replicate}
use Rattle.lent.specs.Written.{over}
use Rattle.lent.proofs.Ranges.{part-before, part-behind, part-written}
use Rattle.units.specs.Held.{units, marks_in, held_with, none_held}
use Rattle.units.specs.declared.Held.{Held}
use Rattle.units.proofs.Laws.{length_marks, held_marks, none_marks}
use Rattle.pieces.specs.Places.{Part, places, memory_room, end_of, count_of, byte_at, bytes_of}
use Rattle.pieces.proofs.Cut.{Fit}

-- the marks of a piece's units
abbrev pub marks_of : Part → Held → List Bool
marks_of p h = part p.offset (count_of p) (marks_in h)

module _ (p : Part) (fp : Fit p) where
  pub counts : 0 < count_of p
  counts = let i = fp.some in omega arith

  pub within : p.offset + count_of p ≤ units
  within = let i = fp.inside in omega arith

-- what a piece covers of the marks
module _ (p : Part) (fp : Fit p) (h : Held) where
  pub marks_with : marks_in (held_with h p.offset (count_of p)) ≡ over p.offset (replicate (count_of p) true) (marks_in h)
  marks_with = held_marks h p.offset (count_of p) (within p fp)

  pub room_for : p.offset + length (replicate (count_of p) true) ≤ length (marks_in h)
  room_for = rw (length-replicate (count_of p) true, length_marks h) (within p fp)

-- the units of a piece, and its bytes, as they lie in any place
module _ (p q : Part) (fp : Fit p) (fq : Fit q) (away : (end_of p ≤ 8 * q.offset) ⊎ (end_of q ≤ 8 * p.offset)) where
  -- pieces that lie apart have two offsets
  pub offsets : eqb p.offset q.offset ≡ false
  offsets =
      let a = fp.some in
      let b = fq.some in
      ne_eqb p.offset q.offset (λ e. ⊎_elim (λ l. omega arith) (λ l. omega arith) away)

  -- and one leaves the other's marks
  pub marks_apart : (h : Held) → marks_of q (held_with h p.offset (count_of p)) ≡ marks_of q h
  marks_apart h =
      let w : List Bool = replicate (count_of p) true in
      let n : length w ≡ count_of p = length-replicate (count_of p) true in
      rw (marks_with p fp h) (
      ⊎_elim (λ b. part-behind p.offset w (marks_in h) (room_for p fp h) q.offset (count_of q) (omega arith))
      (λ b. part-before p.offset w (marks_in h) (room_for p fp h) q.offset (count_of q) (omega arith)) away)

  -- and bytes
  pub bytes_apart : (k : ℕ) → k < places → (memory : List ℕ) → memory_room ≤ length memory
      → bytes_of k q (over (byte_at k p.offset) p.payload memory) ≡ bytes_of k q memory
  bytes_apart k inside memory l =
      let i = fp.inside in
      let fits : byte_at k p.offset + length p.payload ≤ length memory = omega arith in
      ⊎_elim (λ h. part-behind (byte_at k p.offset) p.payload memory fits (byte_at k q.offset) (length q.payload) (omega arith))
      (λ h. part-before (byte_at k p.offset) p.payload memory fits (byte_at k q.offset) (length q.payload) (omega arith)) away

module _ (p : Part) (fp : Fit p) where
  -- its own marks are set
  pub marks_own : (h : Held) → marks_of p (held_with h p.offset (count_of p)) ≡ replicate (count_of p) true
  marks_own h =
      let w : List Bool = replicate (count_of p) true in
      let n : length w ≡ count_of p = length-replicate (count_of p) true in
      rw (marks_with p fp h) (ap (λ (j : ℕ). part p.offset j (over p.offset w (marks_in h))) (sym n) ∙ part-written p.offset w (marks_in h) (room_for p fp h))

  -- where nothing is held they are not
  pub marks_none : marks_of p none_held ≡ replicate (count_of p) false
  marks_none = rw none_marks (part-replicate p.offset (count_of p) units false (within p fp))

  -- its own bytes are written
  pub bytes-own : (k : ℕ) → k < places → (memory : List ℕ) → memory_room ≤ length memory
      → bytes_of k p (over (byte_at k p.offset) p.payload memory) ≡ p.payload
  bytes-own k inside memory l = let i = fp.inside in part-written (byte_at k p.offset) p.payload memory (omega arith)
