-- What a range of units is of a word, and of the four words. Assumes nothing.
use Prim.Native.Nat.{ℕ, ◌+◌, ◌-◌, ◌%◌, ◌^◌, min}
use mathlib.Core.Path.{◌≡◌, refl, sym, ap, ◌∙◌}
use mathlib.Core.Logic.{⊎_elim}
use mathlib.Core.Bool.{Bool, not, ◌||◌}
use mathlib.Core.List.{List, [], ◌∷◌, ◌++◌}
use native.Mathlib.Omega.{arith}
use borrow.Author.Tests.{ne_eqb, eqb-true, eqb-false}
use lib.Bits.{bit_and, bit_or, or_add_and, and_le_r}
use lib.Dec.{eqb}
use lib.ListN.{length, get_or, take, drop}
use lib.Seq.{take_at, take_all, drop-append-add}
use Rattle.lists.specs.Any.{any_of, all_of}
use Rattle.lists.specs.Parts.{part}
use Rattle.lists.proofs.Tests.{tested}
use Rattle.units.specs.declared.Held.{Held}
use Rattle.units.specs.Held.{bits_of, word_of, marks_in, held_of, held_with}
use Rattle.units.proofs.Bits.{mask_of, length-bits, word-bits, any_mask, all_mask, or_mask}
use Rattle.units.proofs.Ranges.{marked, part_clip, part-append, marked_clip, marked_append, marked_over, four}

-- of words joined some bit is set where one has a bit that is
or_some : (a b : ℕ) → not (eqb (bit_or a b) 0) ≡ (not (eqb a 0) || not (eqb b 0))
or_some a b =
    ⊎_elim (λ t. rw (eqb-true a 0 t))
    (λ t. rw (t, ne_eqb (bit_or a b) 0 (omega (arith, eqb-false a 0 t, or_add_and a b, and_le_r a b)))) (tested (eqb a 0))

pub or-some_four : (a b c d : ℕ) → not (eqb (bit_or (bit_or (bit_or a b) c) d) 0) ≡ (not (eqb a 0) || not (eqb b 0) || not (eqb c 0) || not (eqb d 0))
or-some_four a b c d = rw (or_some (bit_or (bit_or a b) c) d, or_some (bit_or a b) c, or_some a b)

-- what n units from one on are of a word whose first unit is `start`
module _ (start from n : ℕ) where
  -- of marks the first of which is of the unit start, those of the n units
  abbrev pub part_from : List Bool → List Bool
  part_from ms = part (from - start) (n - (start - from)) ms

  -- those marks with the n units' set besides
  abbrev pub marked_from : List Bool → List Bool
  marked_from ms = marked (from - start) (n - (start - from)) ms

  -- how many of a word's units are before the n
  abbrev pub before : ℕ
  before = min (from - start) 64

  -- how many of them are of the n
  abbrev pub within : ℕ
  within = min (n - (start - from)) (64 - before)

  -- the bits of the n
  abbrev pub mask : ℕ
  mask = mask_of before within

module _ (word start from n : ℕ) where
  clipped : part (before start from n) (within start from n) (bits_of 64 word) ≡ part_from start from n (bits_of 64 word)
  clipped = part_clip (from - start) (n - (start - from)) 64 (bits_of 64 word) (length-bits 64 word)

  pub any_in : not (eqb (bit_and word (mask start from n)) 0) ≡ any_of (λ (m : Bool). m) (part_from start from n (bits_of 64 word))
  any_in = any_mask 64 (before start from n) (within start from n) word (omega arith) ∙ ap (any_of (λ (m : Bool). m)) clipped

  pub all_in : eqb (bit_and word (mask start from n)) (mask start from n) ≡ all_of (λ (m : Bool). m) (part_from start from n (bits_of 64 word))
  all_in = all_mask 64 (before start from n) (within start from n) word (omega arith) ∙ ap (all_of (λ (m : Bool). m)) clipped

  with-bits : bits_of 64 (bit_or word (mask start from n)) ≡ marked_from start from n (bits_of 64 word)
  with-bits = or_mask 64 (before start from n) (within start from n) word ∙ marked_clip (from - start) (n - (start - from)) (bits_of 64 word)

  length-with : length (marked_from start from n (bits_of 64 word)) ≡ 64
  length-with = ap length (sym with-bits) ∙ length-bits 64 (bit_or word (mask start from n))

  pub with_in : bit_or word (mask start from n) % 2 ^ 64 ≡ word_of (marked_from start from n (bits_of 64 word))
  with_in = sym (word-bits 64 (bit_or word (mask start from n))) ∙ ap word_of with-bits

-- the words of four times 64 marks
module _ (a b c d : List Bool) (ha : length a ≡ 64) (hb : length b ≡ 64) (hc : length c ≡ 64) (hd : length d ≡ 64) where
  behind : (i : ℕ) (xs ys : List Bool) → length xs ≡ 64 → part (64 + i) 64 (xs ++ ys) ≡ part i 64 ys
  behind i xs ys h = ap (take 64) (ap (λ (k : ℕ). drop (k + i) (xs ++ ys)) (sym h) ∙ drop-append-add xs ys i)

  held-of : held_of (a ++ (b ++ (c ++ d))) ≡ record { words = word_of a ∷ word_of b ∷ word_of c ∷ word_of d ∷ [] }
  unfolding held_of
  held-of =
      let second = behind 0 a (b ++ (c ++ d)) ha ∙ take_at b (c ++ d) 64 hb in
      let third = behind 64 a (b ++ (c ++ d)) ha ∙ behind 0 b (c ++ d) hb ∙ take_at c d 64 hc in
      let fourth = behind 128 a (b ++ (c ++ d)) ha ∙ behind 64 b (c ++ d) hb ∙ behind 0 c d hc ∙ take_all 64 d (omega arith) in
      λ i. record { words = word_of (take_at a (b ++ (c ++ d)) 64 ha i) ∷ word_of (second i) ∷ word_of (third i) ∷ word_of (fourth i) ∷ [] }

module _ (h : Held) (from n : ℕ) where
  abbrev bits : ℕ → List Bool
  bits i = bits_of 64 (get_or h.words i 0)

  -- a test of a range goes word by word, if it goes list by list
  module _ (test : List Bool → Bool) (join : Bool → Bool → Bool) (append : (a b : List Bool) → test (a ++ b) ≡ join (test a) (test b))
      (assoc : (x y z : Bool) → join (join x y) z ≡ join x (join y z)) where
    pub words : test (part from n (marks_in h))
        ≡ join (join (join (test (part_from 0 from n (bits 0))) (test (part_from 64 from n (bits 1)))) (test (part_from 128 from n (bits 2)))) (test (part_from 192 from n (bits 3)))
    unfolding marks_in
    words =
        let p0 = part_from 0 from n (bits 0) in
        let p1 = part_from 64 from n (bits 1) in
        let p2 = part_from 128 from n (bits 2) in
        let p3 = part_from 192 from n (bits 3) in
        ap test (four part part-append from n (bits 0) (bits 1) (bits 2) (bits 3) refl refl refl)
        ∙ append p0 (p1 ++ (p2 ++ p3))
        ∙ ap (join (test p0)) (append p1 (p2 ++ p3) ∙ ap (join (test p1)) (append p2 p3))
        ∙ sym (assoc (test p0) (test p1) (join (test p2) (test p3)))
        ∙ sym (assoc (join (test p0) (test p1)) (test p2) (test p3))

  -- so are units held besides
  pub with-words : held_with h from n
      ≡ record { words = word_of (marked_from 0 from n (bits 0)) ∷ word_of (marked_from 64 from n (bits 1)) ∷ word_of (marked_from 128 from n (bits 2)) ∷ word_of (marked_from 192 from n (bits 3)) ∷ [] }
  unfolding held_with marks_in
  with-words =
      ap held_of (sym (marked_over from n (marks_in h)) ∙ four marked marked_append from n (bits 0) (bits 1) (bits 2) (bits 3) refl refl refl)
      ∙ held-of (marked_from 0 from n (bits 0)) (marked_from 64 from n (bits 1)) (marked_from 128 from n (bits 2)) (marked_from 192 from n (bits 3))
      (length-with (get_or h.words 0 0) 0 from n) (length-with (get_or h.words 1 0) 64 from n) (length-with (get_or h.words 2 0) 128 from n) (length-with (get_or h.words 3 0) 192 from n)
