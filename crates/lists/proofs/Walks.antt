-- A walk over at most so many things that stand one behind another: what it leaves, and that what all bytes say is what those say that
-- it leaves.
-- Assumes nothing.
use mathlib.Core.Path.{◌≡◌, refl, ◌∙◌}
use mathlib.Core.List.{List}
use mathlib.Core.Bool.{Bool, true, false, cond}
use Prim.Native.Nat.{ℕ, zero, suc, ◌+◌, ◌-◌, ◌≤◌, ◌<◌}
use native.Mathlib.Omega.{arith}
use lib.ListN.{length, take, drop, length-drop}
use lib.Seq.{drop-drop}
use lib.Dec.{eqb}
use borrow.Author.Tests.{eqb-false, eq-eqb, ne_eqb}
use Rattle.lists.specs.Walks.{walked}
use Rattle.lists.proofs.Parts.{rest_from}

module _ {S : Type 0} (size : S → List ℕ → ℕ) (after : S → List ℕ → S) where
  -- a walk over nothing
  pub walked_none : (most : ℕ) (s : S) (bs : List ℕ) → most ≡ 0 → walked size after most s bs ≡ (s, length bs)
  unfolding walked
  walked_none zero s bs e = refl
  walked_none (suc most) s bs e = absurd (omega arith)

  -- a walk that comes to nothing that is to be passed
  pub walked_end : (most : ℕ) (s : S) (bs : List ℕ) → size s bs ≡ 0 → walked size after most s bs ≡ (s, length bs)
  unfolding walked
  walked_end zero s bs e = refl
  walked_end (suc most) s bs e = rw (eq-eqb _ _ e)

  -- a walk over the first, and over at most one less from there
  pub walked_step : (most : ℕ) (s : S) (bs : List ℕ) → (most ≡ 0 → ⊥) → (size s bs ≡ 0 → ⊥)
      → walked size after most s bs ≡ walked size after (most - 1) (after s bs) (drop (size s bs) bs)
  unfolding walked
  walked_step zero s bs some good = absurd (some refl)
  walked_step (suc most) s bs some good = let same : suc most - 1 ≡ most = omega arith in rw (ne_eqb _ _ good, same)

  -- each lies within the bytes
  module _ (fits : (s : S) (bs : List ℕ) → size s bs ≤ length bs) where
    -- what is left is a part of the bytes
    left-most : (most : ℕ) (s : S) (bs : List ℕ) → (walked size after most s bs).1 ≤ length bs
    unfolding walked
    left-most zero s bs = omega arith
    left-most (suc most) s bs = go (eqb (size s bs) 0) (left-most most (after s bs) (drop (size s bs) bs))
      where
        go : (t : Bool) → (walked size after most (after s bs) (drop (size s bs) bs)).1 ≤ length (drop (size s bs) bs)
            → (cond t (s, length bs) (walked size after most (after s bs) (drop (size s bs) bs))).1 ≤ length bs
        go true h = omega arith
        go false h = omega (arith, length-drop (size s bs) bs)

    -- where there is one, a walk leaves fewer bytes
    left-falls : (most : ℕ) (s : S) (bs : List ℕ) → (size s bs ≡ 0 → ⊥) → (walked size after (suc most) s bs).1 < length bs
    unfolding walked
    left-falls most s bs good =
        let n = size s bs in
        rw (ne_eqb n 0 good) (omega (arith, good, left-most most (after s bs) (drop n bs), length-drop n bs, fits s bs))

    -- a turn: a walk over the bytes from a place on, which are the part of a slice
    module _ (most at : ℕ) (bs : List ℕ) (s : S)
        (w : S × ℕ) (is : w ≡ walked size after (suc most) s (take (length bs - at) (drop at bs))) where
      from : w ≡ walked size after (suc most) s (drop at bs)
      from = is ∙ rw (rest_from at bs)

      pub turn_left : w.1 ≤ length bs - at
      turn_left = rw from (omega (arith, left-most (suc most) s (drop at bs), length-drop at bs))

      pub turn_falls : (size s (drop at bs) ≡ 0 → ⊥) → w.1 < length bs - at
      turn_falls good = rw from (omega (arith, left-falls most s (drop at bs) good, length-drop at bs))

    -- what bytes say is what they say from behind the first on, with what is known then
    module _ {A : Type 0} (says : S → List ℕ → A)
        (on : (s : S) (bs : List ℕ) → (size s bs ≡ 0 → ⊥) → says s bs ≡ says (after s bs) (drop (size s bs) bs)) where
      walk-on : (most : ℕ) (s : S) (bs : List ℕ)
          → says s bs ≡ says (walked size after most s bs).0 (drop (length bs - (walked size after most s bs).1) bs)
      unfolding walked
      walk-on zero s bs = let none : length bs - length bs ≡ 0 = omega arith in rw none
      walk-on (suc most) s bs = go (eqb (size s bs) 0) refl (walk-on most (after s bs) (drop (size s bs) bs))
        where
          go : (t : Bool) → eqb (size s bs) 0 ≡ t
              → let rest = drop (size s bs) bs in
              let v = walked size after most (after s bs) rest in
              let w = cond t (s, length bs) v in
              says (after s bs) rest ≡ says v.0 (drop (length rest - v.1) rest)
              → says s bs ≡ says w.0 (drop (length bs - w.1) bs)
          go true e h = let none : length bs - length bs ≡ 0 = omega arith in rw none
          go false e h =
              let n = size s bs in
              let w = walked size after most (after s bs) (drop n bs) in
              let behind : n + (length (drop n bs) - w.1) ≡ length bs - w.1 =
              omega (arith, left-most most (after s bs) (drop n bs), length-drop n bs, fits s bs) in
              on s bs (eqb-false n 0 e) ∙ h ∙ rw (drop-drop, behind)

      pub turn_on : (most at : ℕ) (bs : List ℕ) (s : S) → at ≤ length bs
          → (w : S × ℕ) → w ≡ walked size after (suc most) s (take (length bs - at) (drop at bs))
          → says s (drop at bs) ≡ says w.0 (drop (length bs - w.1) bs)
      turn_on most at bs s within w is =
          let v = walked size after (suc most) s (drop at bs) in
          let behind : at + (length (drop at bs) - v.1) ≡ length bs - v.1 = omega (arith, left-most (suc most) s (drop at bs), length-drop at bs) in
          rw (from most at bs s w is) (walk-on (suc most) s (drop at bs) ∙ rw (drop-drop, behind))
