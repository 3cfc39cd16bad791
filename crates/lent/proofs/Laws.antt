-- Laws of writing: one write behind another, and a write inside of what was written. Assumes nothing.
use Prim.Native.Nat.{ℕ, ◌+◌, ◌-◌, ◌<◌, ◌≤◌}
use mathlib.Core.Path.{◌≡◌, ap, ◌∙◌}
use mathlib.Core.List.{List, [], ◌++◌, append_assoc, append-nil}
use native.Mathlib.Omega.{arith}
use native.Mathlib.Nat.{zero-add}
use borrow.Author.Tests.{lt-ltb, le-ltb}
use lib.ListN.{length, take, drop, length-take, length-drop, length-append, drop_of_length-le}
use lib.Seq.{take-append_seam, drop-append_seam, take-append-le, drop-append-le, drop-append-add, drop-drop, take_all}
use Rattle.lent.specs.Written.{written, over, written_at}

-- what fits is written
pub written_at-fits : (at : ℕ) (p d : List ℕ) → at + length p ≤ length d → written_at at p d ≡ over at p d
unfolding written_at
written_at-fits at p d h = simp (le-ltb _ _ h)

-- what does not fit is not
pub written_at-short : (at : ℕ) (p d : List ℕ) → length d < at + length p → written_at at p d ≡ d
unfolding written_at
written_at-short at p d h = simp (lt-ltb _ _ h)

-- a write leaves the length
pub length-written : (w d : List ℕ) → length w ≤ length d → length (written w d) ≡ length d
length-written w d h = simp (length-append, length-drop) (omega arith)

-- one write right behind another
over-next : (w p d : List ℕ) → over (length w) p (written w d) ≡ written (w ++ p) d
over-next w p d = simp (take-append_seam, drop-append-add, drop-drop, append_assoc, length-append)

-- the first write, of a list that is known by what it equals
pub written_at-first : (w d : List ℕ) {d₁ : List ℕ} → length w ≤ length d → d₁ ≡ written_at 0 w d → d₁ ≡ written w d
written_at-first w d h e = e ∙ written_at-fits 0 w d (omega arith) ∙ simp zero-add

-- the next write, right behind what was written
pub written_at-more : (at : ℕ) (w p d : List ℕ) {d₁ d₂ : List ℕ} → length w ≡ at → at + length p ≤ length d
    → d₁ ≡ written w d → d₂ ≡ written_at at p d₁ → d₂ ≡ written (w ++ p) d
written_at-more at w p d l h e f =
    f ∙ rw (e, ← l) (written_at-fits (length w) p (written w d) (rw (length-written w d (omega arith)) (omega arith)) ∙ over-next w p d)

-- a write inside of a list leaves its length
pub length_over : {A : Type 0} (at : ℕ) (p w : List A) → at + length p ≤ length w → length (over at p w) ≡ length w
length_over at p w h = simp (length-append, length-take, length-drop) (omega arith)

over-inside : (at : ℕ) (w p d : List ℕ) → at + length p ≤ length w → over at p (written w d) ≡ written (over at p w) d
over-inside at w p d h =
    let k : at ≤ length w = omega arith in
    rw (length_over at p w h, take-append-le at w (drop (length w) d) k, drop-append-le (at + length p) w (drop (length w) d) h) (simp append_assoc)

-- a write inside of what was written
pub written_at-inside : (at : ℕ) (w p d : List ℕ) {d₁ d₂ : List ℕ} → at + length p ≤ length w → length w ≤ length d
    → d₁ ≡ written w d → d₂ ≡ written_at at p d₁ → d₂ ≡ written (over at p w) d
written_at-inside at w p d h k e f =
    f ∙ rw e (written_at-fits at p (written w d) (rw (length-written w d k) (omega arith)) ∙ over-inside at w p d h)

-- a write over one of the same length leaves nothing of it
pub written_again : (v w d : List ℕ) → length v ≡ length w → written v (written w d) ≡ written v d
written_again v w d e = rw e (ap (λ (l : List ℕ). v ++ l) (drop-append_seam w (drop (length w) d)))

-- a part from at on, lent and written over from its start, and back in its place
pub part-over : (at : ℕ) (p d : List ℕ) → at + length p ≤ length d
    → take at d ++ ((p ++ drop (length p) (take (length d - at) (drop at d))) ++ drop (length d - at) (drop at d)) ≡ over at p d
part-over at p d h =
    let t : take (length d - at) (drop at d) ≡ drop at d = take_all (length d - at) (drop at d) (omega (arith, length-drop at d)) in
    let e : drop (length d - at) (drop at d) ≡ [] = drop_of_length-le (drop at d) {i = length d - at} (omega (arith, length-drop at d)) in
    simp (t, e, append-nil, drop-drop)
