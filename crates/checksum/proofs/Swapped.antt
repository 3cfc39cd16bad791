-- Byte order independence (RFC 1071 section 2 (B)): with the octets of each pair exchanged, a checksum is right exactly where it was. Assumes
-- nothing.
use Rattle.std.proofs.Common.{◌≡◌, ℕ, ◌+◌, ◌-◌, ◌*◌, ◌/◌, ◌%◌, ◌^◌, ◌<◌, ◌≤◌, Bool, true, false, eqb, List, [], ◌∷◌, length, refl, ap, ◌∙◌, arith, eq-eqb, ne_eqb, eqb-true}
use borrow.Author.Tests.{eqb-false}
use Rattle.checksum.specs.Sum.{ones_sum_from, all_ones, is_right, is_right_from}
use Rattle.checksum.specs.Folding.{word_sum, folded, swapped}
use Rattle.checksum.proofs.Bytes.{Bytes}
use Rattle.checksum.proofs.Laws.{sum_folded, sum-exact}

-- the sums of the first and of the second octets of pairs
abbrev firsts : List ℕ → ℕ
firsts [] = 0
firsts (x ∷ []) = 0
firsts (x ∷ (y ∷ rest)) = x + firsts rest

abbrev seconds : List ℕ → ℕ
seconds [] = 0
seconds (x ∷ []) = 0
seconds (x ∷ (y ∷ rest)) = y + seconds rest

-- 256 times a word is the exchanged word and a multiple of FFFF
exchanged : (s : List ℕ) → length s % 2 ≡ 0 → (256 * word_sum s ≡ word_sum (swapped s) + 65535 * firsts s) × (256 * word_sum (swapped s) ≡ word_sum s + 65535 * seconds s)
unfolding word_sum swapped
exchanged [] even = (omega arith, omega arith)
exchanged (x ∷ []) even = absurd (omega arith)
exchanged (x ∷ (y ∷ rest)) even = let e = exchanged rest (omega arith) in (omega (arith, e.0), omega (arith, e.1))

swapped-bytes : (s : List ℕ) → Bytes s → Bytes (swapped s)
unfolding swapped
swapped-bytes [] b = b
swapped-bytes (x ∷ []) b = b
swapped-bytes (x ∷ (y ∷ rest)) b = (b.1.0, (b.0, swapped-bytes rest b.1.1))

-- what folds to FFFF is a multiple of it, and not 0
multiple : (n : ℕ) → folded n ≡ all_ones → n ≡ 65535 * ((n - 1) / 65535) + 65535
unfolding folded
multiple n h = omega (arith, h)

folded_multiple : (p : ℕ) → folded (65535 * p + 65535) ≡ all_ones
unfolding folded
folded_multiple p = omega arith

below : (b j m : ℕ) → 65535 * b + 65535 ≡ m + 65535 * j → 0 < m → j ≤ b
below b j m e some = omega arith

-- 256 and FFFF have no factor in common, so FFFF divides both sums or neither
all_ones_lem : (n m j k : ℕ) → 256 * n ≡ m + 65535 * j → 256 * m ≡ n + 65535 * k → folded n ≡ all_ones → folded m ≡ all_ones
all_ones_lem n m j k there back h =
    let q : ℕ = (n - 1) / 65535 in
    let n-is : n ≡ 65535 * q + 65535 = multiple n h in
    let some : 0 < m = omega (arith, n-is, back) in
    let less : j ≤ 256 * q + 255 = below (256 * q + 255) j m (omega (arith, n-is, there)) some in
    let m-is : m ≡ 65535 * (256 * q + 255 - j) + 65535 = omega (arith, n-is, there, less) in
    ap folded m-is ∙ folded_multiple (256 * q + 255 - j)

same_test : (n m j k : ℕ) → 256 * n ≡ m + 65535 * j → 256 * m ≡ n + 65535 * k → eqb (folded m) all_ones ≡ eqb (folded n) all_ones
same_test n m j k there back = go (eqb (folded n) all_ones) refl
  where
    go : (t : Bool) → eqb (folded n) all_ones ≡ t → eqb (folded m) all_ones ≡ t
    go true e = eq-eqb (folded m) all_ones (all_ones_lem n m j k there back (eqb-true (folded n) all_ones e))
    go false e = ne_eqb (folded m) all_ones (λ q. eqb-false (folded n) all_ones e (all_ones_lem m n k j back there q))

sum_is : (s : List ℕ) → Bytes s → ones_sum_from 0 s ≡ folded (word_sum s)
sum_is s b = sum_folded 0 s (omega arith) b ∙ ap folded (omega arith)

right-swapped : (s : List ℕ) → length s % 2 ≡ 0 → Bytes s → is_right (swapped s) ≡ is_right s
unfolding is_right_from
right-swapped s even b =
    let e = exchanged s even in
    rw (sum_is (swapped s) (swapped-bytes s b), sum_is s b)
    (same_test (word_sum s) (word_sum (swapped s)) (firsts s) (seconds s) e.0 e.1)

-- so words that were added up exactly with their octets exchanged tell whether the checksum of the list is right
pub right-exact : (words : ℕ) (s : List ℕ) → words ≡ word_sum (swapped s) → words < 2 ^ 32 → length s % 2 ≡ 0 → Bytes s → is_right_from words [] ≡ is_right s
unfolding is_right_from
right-exact words s e fits even b =
    let test : ℕ → Bool = λ x. eqb x all_ones in
    ap test (sum-exact words (swapped s) e fits (swapped-bytes s b)) ∙ right-swapped s even b
