-- A range of units as four words: whether some or all of it are held, and what is held with it. Assumes nothing.
use Prim.Native.Nat.{ℕ, ◌+◌, ◌-◌, ◌^◌, ◌≤◌, ◌<◌, min}
use mathlib.Core.Path.{◌≡◌, sym, ◌∙◌}
use mathlib.Core.Logic.{⊎_elim}
use mathlib.Core.Bool.{Bool, ◌&&◌, ◌||◌, and_assoc, or_assoc}
use mathlib.Core.List.{[], ◌∷◌}
use native.Mathlib.Nat.{mod-eq_of_lt, mul-one, sub-zero, zero-sub, zero-add, min-zero}
use native.Mathlib.Omega.{arith}
use borrow.Author.Tests.{ltb-true, ltb-false}
use lib.Dec.{ltb}
use lib.ListN.{get_or}
use lib.Pow.{pow_pos, pow_mono}
use Rattle.lists.specs.Any.{any_of, all_of}
use Rattle.lists.proofs.AnyLaws.{all_append}
use Rattle.lists.proofs.Tests.{tested}
use Rattle.units.specs.declared.Held.{Held}
use Rattle.units.specs.Held.{bits_of, word_of, none_held, any_held, all_held, held_with, range_of, meets, covers, united}
use Rattle.units.proofs.Bits.{mask_of, ones_le, ones_mask}
use Rattle.units.proofs.Ranges.{any_append}
use Rattle.units.proofs.Words.{before, within, mask, marked_from, any_in, all_in, with_in, words, with-words}

-- a mask fits a word
mask_lt : (f c : ℕ) → f + c ≤ 64 → mask_of f c < 2 ^ 64
mask_lt f c h = omega (arith, ones_mask f c, pow_mono {i = f + c} {j = 64} h, pow_pos (f + c))

module _ (from n : ℕ) where
  none_in : (start : ℕ) → word_of (marked_from start from n (bits_of 64 0)) ≡ mask start from n
  none_in start =
      sym (with_in 0 start from n) ∙ mod-eq_of_lt (mask_lt (before start from n) (within start from n) (omega arith))

  -- a range has a mask in each word
  pub range-words : range_of from n ≡ record { words = mask 0 from n ∷ mask 64 from n ∷ mask 128 from n ∷ mask 192 from n ∷ [] }
  unfolding range_of
  range-words = with-words none_held from n ∙ (λ i. record { words = none_in 0 i ∷ none_in 64 i ∷ none_in 128 i ∷ none_in 192 i ∷ [] })

  module _ (h : Held) where
    abbrev word : ℕ → ℕ
    word i = get_or h.words i 0

    -- some unit of a range is held
    pub meets-range : meets h (range_of from n) ≡ any_held h from n
    unfolding meets any_held
    meets-range =
        rw (range-words, any_in (word 0) 0 from n, any_in (word 1) 64 from n, any_in (word 2) 128 from n, any_in (word 3) 192 from n)
        (sym (words h from n (any_of (λ (m : Bool). m)) ◌||◌ (any_append (λ (m : Bool). m)) or_assoc))

    -- all of it is
    pub covers-range : covers h (range_of from n) ≡ all_held h from n
    unfolding covers all_held
    covers-range =
        rw (range-words, all_in (word 0) 0 from n, all_in (word 1) 64 from n, all_in (word 2) 128 from n, all_in (word 3) 192 from n)
        (sym (words h from n (all_of (λ (m : Bool). m)) ◌&&◌ (all_append (λ (m : Bool). m)) and_assoc))

    -- it is held besides
    pub united-range : united h (range_of from n) ≡ held_with h from n
    unfolding united
    united-range =
        rw (range-words, with_in (word 0) 0 from n, with_in (word 1) 64 from n, with_in (word 2) 128 from n, with_in (word 3) 192 from n)
        (sym (with-words h from n))

-- as the code reckons: of a word's bits those before the end
pub first_mask : (start n : ℕ) → 2 ^ min (n - start) 64 - 1 ≡ mask start 0 n
first_mask start n = rw (zero-sub start, sub-zero start) (sym (mul-one (2 ^ min (n - start) 64 - 1)))

-- the lowest n bits of a word
abbrev ones : ℕ → ℕ
ones n = 2 ^ min n 64 - 1

pub first-words : (n : ℕ) → record { words = ones n ∷ ones (n - 64) ∷ ones (n - 128) ∷ ones (n - 192) ∷ [] } ≡ range_of 0 n
first-words n = sym (rw (range-words 0 n, ← first_mask 0 n, ← first_mask 64 n, ← first_mask 128 n, ← first_mask 192 n, sub-zero n))

-- where the units of a word that are before the end of a range end
past-start : (gap n : ℕ) → gap ≤ 192 → min (min n 256 - gap) 64 ≡ min (n - gap) 64
past-start gap n h = omega arith

past_end : (gap n : ℕ) → gap ≤ 63 → min (gap + min n 256) 64 ≡ gap + min n (64 - gap)
past_end gap n h = omega arith

module _ (start from n : ℕ) (h : start ≤ 192) where
  abbrev end : ℕ
  end = min from 256 + min n 256

  early : from < start → min (end - start) 64 ≡ before start from n + within start from n
  early l =
      let none : from - start ≡ 0 = omega arith in
      let all : min from 256 ≡ from = omega arith in
      let gap : from + min n 256 - start ≡ min n 256 - (start - from) = omega arith in
      rw (none, all, gap, past-start (start - from) n (omega arith)) (sym (zero-add (min (n - (start - from)) 64)))

  late : start ≤ from → min (end - start) 64 ≡ before start from n + within start from n
  late l =
      let none : start - from ≡ 0 = omega arith in
      rw (none, sub-zero n) (⊎_elim (λ t. far (ltb-true 63 (from - start) t)) (λ t. near (ltb-false 63 (from - start) t)) (tested (ltb 63 (from - start))))
    where
      far : 63 < from - start → min (end - start) 64 ≡ min (from - start) 64 + min n (64 - min (from - start) 64)
      far t =
          let b : min (from - start) 64 ≡ 64 = omega arith in
          let e : min (end - start) 64 ≡ 64 = omega arith in
          rw (b, e, min-zero n)

      near : from - start ≤ 63 → min (end - start) 64 ≡ min (from - start) 64 + min n (64 - min (from - start) 64)
      near t =
          let b : min (from - start) 64 ≡ from - start = omega arith in
          let all : min from 256 ≡ from = omega arith in
          let gap : from + min n 256 - start ≡ from - start + min n 256 = omega arith in
          rw (b, all, gap) (past_end (from - start) n t)

  ends : min (end - start) 64 ≡ before start from n + within start from n
  ends = ⊎_elim (λ t. early (ltb-true from start t)) (λ t. late (ltb-false from start t)) (tested (ltb from start))

  -- without those before the range they are its own
  pub rest_le : mask start 0 from ≤ mask start 0 end
  rest_le = rw (← first_mask start from, ← first_mask start end, ends) (ones_le (before start from n) (within start from n))

  pub rest_mask : mask start 0 end - mask start 0 from ≡ mask start from n
  rest_mask = rw (← first_mask start from, ← first_mask start end, ends) (ones_mask (before start from n) (within start from n))

-- the words of a range, as the code has them: of the units up to its end less those before it
module _ (from n p q : ℕ) (x y : Held) (hp : p ≡ min from 256) (hq : q ≡ min n 256) (hx : x ≡ range_of 0 (p + q)) (hy : y ≡ range_of 0 from) where
  abbrev less : ℕ → ℕ
  less i = get_or x.words i 0 - get_or y.words i 0

  pub less-range : record { words = less 0 ∷ less 1 ∷ less 2 ∷ less 3 ∷ [] } ≡ range_of from n
  less-range =
      let e = min from 256 + min n 256 in
      rw (hx, hy, hp, hq, range-words 0 e, range-words 0 from, range-words from n)
      (λ i. record {
        words = rest_mask 0 from n (omega arith) i ∷ rest_mask 64 from n (omega arith) i ∷ rest_mask 128 from n (omega arith) i ∷ rest_mask 192 from n (omega arith) i ∷ [];
      })

  abbrev Less : ℕ → Type 0
  Less i = get_or y.words i 0 ≤ get_or x.words i 0

  pub words_le : Less 0 × Less 1 × Less 2 × Less 3
  words_le =
      let e = min from 256 + min n 256 in
      rw (hx, hy, hp, hq, range-words 0 e, range-words 0 from)
      (rest_le 0 from n (omega arith), rest_le 64 from n (omega arith), rest_le 128 from n (omega arith), rest_le 192 from n (omega arith))
