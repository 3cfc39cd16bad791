-- Laws of the sum: it is the exact sum of the words, folded; so parts may be summed one after another or moved into the start
-- value, and a message that holds the complement of its sum is right. Assumes nothing.
use Rattle.std.proofs.Common.{◌≡◌, ℕ, zero, suc, ◌+◌, ◌*◌, ◌/◌, ◌%◌, ◌^◌, ◌<◌, ◌≤◌, true, List, [], ◌∷◌, ◌++◌, length, sym, refl, ap, ◌∙◌, arith, eq-eqb}
use mathlib.Core.List.{foldl}
use Rattle.checksum.specs.Sum.{words_of, carried, ones_add, ones_sum_from, all_ones, ones_complement, is_right_from}
use Rattle.checksum.specs.Folding.{word_sum, folded}
use Rattle.checksum.proofs.Bytes.{Bytes, bytes-append}

-- a list a, the two bytes of a word, a list b
abbrev pub with_word : List ℕ → ℕ → List ℕ → List ℕ
with_word a x b = a ++ (x / 256 ∷ (x % 256 ∷ b))

pub folded-carried : (n m : ℕ) → folded (carried n + m) ≡ folded (n + m)
unfolding folded
folded-carried n m = omega arith

pub folded_once : (n : ℕ) → folded (carried n) ≡ folded n
unfolding folded
folded_once n = omega arith

pub folded-word : (n : ℕ) → n ≤ all_ones → folded n ≡ n
unfolding folded
folded-word n h = omega arith

pub folded-folded : (n m : ℕ) → folded (folded n + m) ≡ folded (n + m)
unfolding folded
folded-folded n m = omega arith

pub folded-complement : (n m : ℕ) → m ≡ folded n → folded (n + ones_complement m) ≡ all_ones
unfolding folded
folded-complement n m h = omega arith

-- of 32 bits two turns of the fold leave no carry
pub folded-twice : (n once : ℕ) → n < 2 ^ 32 → once ≡ carried n → carried once ≡ folded n
folded-twice n once h q = sym (folded-word (carried once) (omega arith)) ∙ folded_once once ∙ ap folded q ∙ folded_once n

-- a sum of two words in both halves: its upper half gets the carry out of the lower
both_halves : (carry word : ℕ) → carry ≤ 1 → carry + word ≤ all_ones
    → (carry * 65536 + word) * 65537 % (2 ^ 32) ≡ (carry + word) * 65536 + word
both_halves zero word a b = omega arith
both_halves (suc zero) word a b = omega arith
both_halves (suc (suc carry)) word a b = absurd (omega arith)

upper-half : (x word : ℕ) → word ≤ all_ones → (x * 65536 + word) / 65536 ≡ x
upper-half x word h = omega arith

-- so two turns are a number's upper half, once it is added to itself with its halves exchanged
pub folded_halves : (n : ℕ) → n < 2 ^ 32 → (n + (n % 65536 * 65536 + n / 65536)) % (2 ^ 32) / 65536 ≡ folded n
folded_halves n h =
    let once = carried n in
    ap (λ (x : ℕ). x % (2 ^ 32) / 65536) (omega arith)
    ∙ ap (λ (x : ℕ). x / 65536) (both_halves (once / 65536) (once % 65536) (omega arith) (omega arith))
    ∙ upper-half (once / 65536 + once % 65536) (once % 65536) (omega arith)
    ∙ omega (arith, folded-twice n once h refl)

-- words added one after another to a word

added-word : (x : ℕ) (s : List ℕ) → x ≤ all_ones → Bytes s → foldl ones_add x (words_of s) ≤ all_ones
added-word x [] h b = h
added-word x (hi ∷ []) h b = omega arith
added-word x (hi ∷ (lo ∷ s)) h b = added-word (ones_add x (hi * 256 + lo)) s (omega arith) b.1.1

added-folded : (x : ℕ) (s : List ℕ) → folded (foldl ones_add x (words_of s)) ≡ folded (x + word_sum s)
unfolding word_sum
added-folded x [] = ap folded (omega arith)
added-folded x (hi ∷ []) = ap folded (omega arith) ∙ folded-carried (x + hi * 256) 0 ∙ ap folded (omega arith)
added-folded x (hi ∷ (lo ∷ s)) =
    added-folded (ones_add x (hi * 256 + lo)) s ∙ folded-carried (x + (hi * 256 + lo)) (word_sum s) ∙ ap folded (omega arith)

folded_start : (start m : ℕ) → folded (ones_add (start / 65536) (start % 65536) + m) ≡ folded (start + m)
folded_start start m = folded-carried (start / 65536 + start % 65536) m ∙ ap folded (omega arith) ∙ folded-carried start m

-- the sum of bytes is a word
pub sum-word : (start : ℕ) (s : List ℕ) → start < 2 ^ 32 → Bytes s → ones_sum_from start s ≤ all_ones
unfolding ones_sum_from
sum-word start s h b = added-word (ones_add (start / 65536) (start % 65536)) s (omega arith) b

-- the sum is the exact sum of start and words, folded
pub sum_folded : (start : ℕ) (s : List ℕ) → start < 2 ^ 32 → Bytes s → ones_sum_from start s ≡ folded (start + word_sum s)
unfolding ones_sum_from
sum_folded start s h b =
    sym (folded-word _ (sum-word start s h b)) ∙ added-folded (ones_add (start / 65536) (start % 65536)) s ∙ folded_start start (word_sum s)

-- words that were added up exactly have the sum of the list that they are from
pub sum-exact : (words : ℕ) (s : List ℕ) → words ≡ word_sum s → words < 2 ^ 32 → Bytes s → ones_sum_from words [] ≡ ones_sum_from 0 s
unfolding word_sum
sum-exact words s e fits b = sum_folded words [] fits tt ∙ ap folded (omega arith) ∙ sym (sum_folded 0 s (omega arith) b)

pub word_sum-append : (a b : List ℕ) → length a % 2 ≡ 0 → word_sum (a ++ b) ≡ word_sum a + word_sum b
unfolding word_sum
word_sum-append [] b h = omega arith
word_sum-append (x ∷ []) b h = absurd (omega arith)
word_sum-append (x ∷ (y ∷ a)) b h = omega (arith, word_sum-append a b (omega arith))

-- a part that begins and ends between two words may be left out and its words put into the start value
pub sum_moved : (start : ℕ) (a t b : List ℕ) → length a % 2 ≡ 0 → length t % 2 ≡ 0 → start + word_sum t < 2 ^ 32
    → Bytes a → Bytes t → Bytes b → ones_sum_from start (a ++ (t ++ b)) ≡ ones_sum_from (start + word_sum t) (a ++ b)
sum_moved start a t b ea et fits ba bt bb =
    sum_folded start (a ++ (t ++ b)) (omega arith) (bytes-append a _ ba (bytes-append t b bt bb))
    ∙ ap folded (omega (arith, word_sum-append a (t ++ b) ea, word_sum-append t b et, word_sum-append a b ea))
    ∙ sym (sum_folded (start + word_sum t) (a ++ b) fits (bytes-append a b ba bb))

module _ (start : ℕ) (a b : List ℕ) (even : length a % 2 ≡ 0) (fits : start < 2 ^ 32) (ba : Bytes a) (bb : Bytes b) where
  pub sum_with_word : (x : ℕ) → x ≤ all_ones → ones_sum_from start (with_word a x b) ≡ folded (start + word_sum a + word_sum b + x)
  unfolding word_sum
  sum_with_word x h =
      sum_folded start (with_word a x b) fits (bytes-append a _ ba (omega arith, (omega arith, bb)))
      ∙ ap folded (omega (arith, word_sum-append a (x / 256 ∷ (x % 256 ∷ b)) even))

  -- with the complement of the sum that was taken with the field 0, the sum is FFFF
  pub sum-complement : ones_sum_from start (with_word a (ones_complement (ones_sum_from start (with_word a 0 b))) b) ≡ all_ones
  sum-complement =
      sum_with_word (ones_complement (ones_sum_from start (with_word a 0 b))) (omega arith)
      ∙ folded-complement (start + word_sum a + word_sum b) _ (sum_with_word 0 (omega arith) ∙ ap folded (omega arith))

  -- so what we write is right
  pub complement-right : is_right_from start (with_word a (ones_complement (ones_sum_from start (with_word a 0 b))) b) ≡ true
  unfolding is_right_from
  complement-right = eq-eqb _ _ sum-complement
