-- The checksums that we write are right, and how the code makes them. Assumes nothing.
use Prim.Native.Nat.{ℕ, ◌+◌, ◌*◌, ◌/◌, ◌%◌, ◌<◌}
use mathlib.Core.Path.{◌≡◌, refl}
use mathlib.Core.Bool.{Bool, true, false, cond}
use mathlib.Core.List.{[]}
use native.Mathlib.Omega.{arith}
use Rattle.checksum.specs.Sum.{is_right, ones_sum, ones_sum_from}
use Rattle.checksum.proofs.Bytes.{Bytes, bytes-append}
use Rattle.checksum.proofs.Laws.{complement-right, sum-exact}
use Rattle.checksum.specs.Folding.{word_sum}
use Rattle.header.specs.Wrap.{be16, outer_front, outer_back, outer_with, outer_bytes}
use Rattle.header.specs.declared.wrap.OuterFields.{OuterFields}

-- the fields are numbers of their widths
pub record Fits (h : OuterFields) : Type 0 where
  pub identification : h.identification < 65536
  pub ttl : h.ttl < 256
  pub protocol : h.protocol < 256
  pub source : h.source < 4294967296
  pub destination : h.destination < 4294967296

flag-byte : (b : Bool) → cond b 64 0 < 256
flag-byte true = omega arith
flag-byte false = omega arith

-- the outer header that we write
pub outer_right : (total : ℕ) (h : OuterFields) → total < 65536 → Fits h → is_right (outer_bytes total h) ≡ true
unfolding outer_bytes
outer_right total h t f =
    complement-right 0 (outer_front total h) (outer_back h) refl (omega arith) (omega (arith, flag-byte h.dont_fragment)) (omega arith)

-- the words of big-endian numbers
word_of : (x : ℕ) → x / 256 * 256 + x % 256 ≡ x
word_of x = omega arith

first_of : (x : ℕ) → x / 16777216 * 256 + x / 65536 % 256 ≡ x / 65536
first_of x = omega arith

second-of : (x : ℕ) → x / 256 % 256 * 256 + x % 256 ≡ x % 65536
second-of x = omega arith

-- the words of a header with 0 for its checksum, added up as numbers: 4500, total length, identification; the bytes of flags,
-- TTL and protocol; the addresses
abbrev pub header_words : ℕ → ℕ → OuterFields → ℕ
header_words total flags h =
    17664 + total + h.identification
    + (flags * 256 + h.ttl * 256 + h.protocol)
    + (h.source / 65536 + h.source % 65536)
    + (h.destination / 65536 + h.destination % 65536)

words-exact : (total : ℕ) (h : OuterFields) → header_words total (cond h.dont_fragment 64 0) h ≡ word_sum (outer_with total h 0)
unfolding word_sum
words-exact total h =
    rw (word_of total, word_of h.identification, first_of h.source, second-of h.source, first_of h.destination, second-of h.destination)
    (omega arith)

-- the sum of the header with 0 for its checksum is that of its words
pub sum_header : (total : ℕ) (h : OuterFields) → total < 65536 → Fits h
    → ones_sum_from (header_words total (cond h.dont_fragment 64 0) h) [] ≡ ones_sum (outer_with total h 0)
sum_header total h t f =
    let front : Bytes (outer_front total h) = omega (arith, flag-byte h.dont_fragment) in
    let back : Bytes (be16 0 (outer_back h)) = omega arith in
    sum-exact _ (outer_with total h 0) (words-exact total h) (omega (arith, flag-byte h.dont_fragment)) (bytes-append (outer_front total h) (be16 0 (outer_back h)) front back)
