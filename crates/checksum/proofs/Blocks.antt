-- Words at the front of a list, and the sum of their high bytes, by one word more. Assumes nothing.
use Rattle.std.proofs.Common.{◌≡◌, ℕ, ◌+◌, ◌-◌, ◌*◌, ◌/◌, ◌%◌, ◌<◌, ◌≤◌, List, [], ◌∷◌, ◌++◌, length, get_or, drop, ap, refl, sym, ◌∙◌, arith, length-append, drop-cons, add-one, suc, Fits, w8}
use native.Mathlib.Numerals.{add-two}
use Rattle.std.proofs.Math.Nat.{add-mod_left, mod-eq_of_lt, mod-le}
use Rattle.std.proofs.Math.Seq.{drop-append-add}
use Rattle.checksum.specs.Folding.{word_sum}
use Rattle.checksum.specs.Words.{high_sum}
use Rattle.checksum.proofs.Bytes.{Bytes, bytes_of}
use Rattle.checksum.proofs.Laws.{word_sum-append}

-- a part of whole words, and what is behind it
pub words-front : (s x t : List ℕ) → s ≡ x ++ t → length x % 2 ≡ 0 → word_sum s ≡ word_sum x + word_sum t
words-front s x t e h = ap word_sum e ∙ word_sum-append x t h

pub length-front : (s x t : List ℕ) → s ≡ x ++ t → length s ≡ length x + length t
length-front s x t e = ap length e ∙ length-append x t

-- two bytes, and what is behind them
pub words-two : (s : List ℕ) (i : ℕ) → i + 1 < length s → word_sum (drop i s) ≡ get_or s i 0 * 256 + get_or s (i + 1) 0 + word_sum (drop (i + 2) s)
unfolding word_sum
words-two s i h = rw (drop-cons s i 0 (omega arith), drop-cons s (suc i) 0 (omega arith), add-one, add-two)

-- a turn of a loop over pairs
pub next_pair : (s : List ℕ) (k : ℕ) → word_sum (drop (2 * k + 2) s) ≡ word_sum (drop (2 * (k + 1)) s)
next_pair s k = let e : 2 * k + 2 ≡ 2 * (k + 1) = omega arith in ap (λ (i : ℕ). word_sum (drop i s)) e

-- one byte, and none
pub words_one : (s : List ℕ) → length s ≡ 1 → word_sum s ≡ get_or s 0 0 * 256
unfolding word_sum
words_one [] h = absurd (omega arith)
words_one (hi ∷ []) h = refl
words_one (hi ∷ (lo ∷ s)) h = absurd (omega arith)

pub words-none : (s : List ℕ) → length s ≡ 0 → word_sum s ≡ 0
unfolding word_sum
words-none [] h = refl
words-none (hi ∷ s) h = absurd (omega arith)

-- what a proof knows of a slice of bytes
pub bytes_in : (s : List ℕ) → ((i : ℕ) → Fits w8 (get_or s i 0)) → Bytes s
bytes_in s fits = bytes_of s (λ i. (fits i).fits)

-- words have 16 bits
pub words_fit : (s : List ℕ) → Bytes s → 2 * word_sum s ≤ 65535 * (length s + 1)
unfolding word_sum
words_fit [] b = omega arith
words_fit (hi ∷ []) b = omega arith
words_fit (hi ∷ (lo ∷ s)) b = omega (arith, words_fit s b.1.1)

-- what is left of a list behind as many parts of n elements as it has: the first of these parts is nothing of it, and where there is none all is left
abbrev pub left_of : ℕ → List ℕ → List ℕ
left_of n s = drop (length s - length s % n) s

pub left_behind : (n : ℕ) (s x t : List ℕ) → s ≡ x ++ t → length x ≡ n → left_of n s ≡ left_of n t
left_behind n s x t e h =
    let long = length-front s x t e in
    let same : length s % n ≡ length t % n = ap (λ (k : ℕ). k % n) (long ∙ ap (λ (k : ℕ). k + length t) h) ∙ add-mod_left n (length t) in
    let cut : length s - length s % n ≡ length x + (length t - length t % n) = omega (arith, mod-le (length t) n) in
    ap (λ (k : ℕ). drop k s) cut ∙ ap (λ (l : List ℕ). drop (length x + (length t - length t % n)) l) e ∙ drop-append-add x t (length t - length t % n)

left-all : (n : ℕ) (s : List ℕ) → length s < n → left_of n s ≡ s
left-all n s h = let none : length s - length s % n ≡ 0 = omega (arith, mod-eq_of_lt {n = length s} {m = n} h) in rw none

-- at the end what is left stands behind the last of these parts
pub left-end : (n : ℕ) (s rest behind : List ℕ) → length rest < n → left_of n rest ≡ left_of n s → behind ≡ left_of n s → rest ≡ behind
left-end n s rest behind short same e = sym (left-all n rest short) ∙ same ∙ sym e

-- a word with the bytes h and l, read as h + 256 * l, more
pub high_sum_step : (x low w : ℕ) → high_sum x low + w % 256 < 65536
    → high_sum ((x + w) % 65536) (low + w / 256) ≡ high_sum x low + w % 256
unfolding high_sum
high_sum_step x low w h = omega arith

pub high_sum-none : high_sum 0 0 ≡ 0
unfolding high_sum
high_sum-none = omega arith
