-- The words of a header that is read by numbers of two words. Assumes nothing.
use Prim.Native.Nat.{ℕ, zero, suc, ◌+◌, ◌*◌, ◌/◌, ◌%◌, ◌<◌, ◌≤◌}
use mathlib.Core.Path.{◌≡◌, refl, sym, ap, subst, ◌∙◌}
use mathlib.Core.List.{List, ◌∷◌}
use native.Mathlib.Omega.{arith}
use lib.ListN.{length, get_or, take, drop}
use lib.Seq.{drop-cons, get_or-drop, take_all}
use mir.Val.{Fits}
use mir.Syntax.{w8}
use Rattle.address.specs.Address.{quad_of}
use Rattle.checksum.specs.Folding.{word_sum, swapped}
use Rattle.header.specs.Numbers.{outer_header}
use Rattle.header.specs.Fields.{word_at, quad_at, reversed_at, bytes_from, address_at}
use Rattle.header.specs.Outer.{outer_of}
use Rattle.header.specs.declared.outer.Outer.{Outer}

-- bytes that are all there, read one by one
pub bytes-taken : (n i : ℕ) (d : List ℕ) → i + n ≤ length d → bytes_from n i d ≡ take n (drop i d)
bytes-taken zero i d h = refl
bytes-taken (suc n) i d h = rw (drop-cons d i 0 (omega arith)) (ap (λ (r : List ℕ). get_or d i 0 ∷ r) (bytes-taken n (suc i) d (omega arith)))

-- what is read of bytes are bytes
bytes_fit : (n k : ℕ) (d : List ℕ) → ((i : ℕ) → Fits w8 (get_or d i 0)) → (i : ℕ) → Fits w8 (get_or (bytes_from n k d) i 0)
bytes_fit zero k d byte i = record { fits = omega arith }
bytes_fit (suc n) k d byte zero = byte k
bytes_fit (suc n) k d byte (suc i) = bytes_fit n (suc k) d byte i

pub address-fits : (d : List ℕ) (k : ℕ) → ((i : ℕ) → Fits w8 (get_or d i 0)) → (i : ℕ) → Fits w8 (get_or (address_at d k) i 0)
unfolding address_at
address-fits d k byte = bytes_fit 16 0 (drop k d) (λ i. subst (Fits w8) (sym (get_or-drop k d i 0)) (byte (k + i)))

-- the exact sum of the two words of a number
abbrev pub two_words : ℕ → ℕ
two_words x = x / 65536 + x % 65536

quad-words : (a b c d : ℕ) → b < 256 → c < 256 → d < 256 → two_words (quad_of a b c d) ≡ a * 256 + b + (c * 256 + d)
quad-words a b c d hb hc hd = omega arith

module _ (d : List ℕ) (byte : (i : ℕ) → get_or d i 0 < 256) where
  at : (k : ℕ) → two_words (quad_at d k) ≡ get_or d k 0 * 256 + get_or d (k + 1) 0 + (get_or d (k + 2) 0 * 256 + get_or d (k + 3) 0)
  unfolding quad_at
  at k = quad-words (get_or d k 0) (get_or d (k + 1) 0) (get_or d (k + 2) 0) (get_or d (k + 3) 0) (byte (k + 1)) (byte (k + 2)) (byte (k + 3))

  exchanged : (k : ℕ) → two_words (reversed_at d k) ≡ get_or d (k + 3) 0 * 256 + get_or d (k + 2) 0 + (get_or d (k + 1) 0 * 256 + get_or d k 0)
  unfolding reversed_at
  exchanged k = quad-words (get_or d (k + 3) 0) (get_or d (k + 2) 0) (get_or d (k + 1) 0) (get_or d k 0) (byte (k + 2)) (byte (k + 1)) (byte k)

  -- the exact sum of the words of a header without options, their bytes exchanged
  pub ten_words : outer_header ≤ length d → two_words (reversed_at d 0) + two_words (reversed_at d 4) + (two_words (reversed_at d 8) + two_words (reversed_at d 12)) + two_words (reversed_at d 16) ≡ word_sum (swapped (take outer_header d))
  unfolding word_sum swapped
  ten_words long = rw (sym (bytes-taken 20 0 d long), exchanged 0, exchanged 4, exchanged 8, exchanged 12, exchanged 16) (omega arith)

-- the exact sum of the words of an address
pub eight_words : (a : List ℕ) → length a ≡ 16 → ((i : ℕ) → get_or a i 0 < 256)
    → two_words (quad_at a 0) + two_words (quad_at a 4) + two_words (quad_at a 8) + two_words (quad_at a 12) ≡ word_sum a
unfolding word_sum
eight_words a l byte =
    let whole : bytes_from 16 0 a ≡ a = bytes-taken 16 0 a (omega arith) ∙ take_all 16 a (omega arith) in
    rw (at a byte 0, at a byte 4, at a byte 8, at a byte 12) (sym (ap word_sum (sym whole) ∙ omega arith))

-- the fields of the first three numbers of a header
module _ (a b c d : ℕ) (hb : b < 256) (hc : c < 256) (hd : d < 256) where
  fields_in_lem : (quad_of a b c d / 268435456 ≡ a / 16) × (quad_of a b c d / 16777216 % 16 ≡ a % 16) × (quad_of a b c d % 65536 ≡ c * 256 + d) × (quad_of a b c d % 16384 ≡ (c * 256 + d) % 16384) × (quad_of a b c d / 65536 % 256 ≡ b)
  fields_in_lem = (omega arith, omega arith, omega arith, omega arith, omega arith)

-- an outer header read by numbers has its fields
pub outer_in_lem : (d : List ℕ) → ((i : ℕ) → get_or d i 0 < 256)
    → ◌≡◌ {A = Outer} (record {
      version = quad_at d 0 / 268435456;
      header = quad_at d 0 / 16777216 % 16 * 4;
      total = quad_at d 0 % 65536;
      fragment = quad_at d 4 % 16384;
      protocol = quad_at d 8 / 65536 % 256;
      source = quad_at d 12;
      destination = quad_at d 16;
    }) (outer_of d)
unfolding outer_of quad_at word_at
outer_in_lem d byte =
    let first = fields_in_lem (get_or d 0 0) (get_or d 1 0) (get_or d 2 0) (get_or d 3 0) (byte 1) (byte 2) (byte 3) in
    let second = fields_in_lem (get_or d 4 0) (get_or d 5 0) (get_or d 6 0) (get_or d 7 0) (byte 5) (byte 6) (byte 7) in
    let third = fields_in_lem (get_or d 8 0) (get_or d 9 0) (get_or d 10 0) (get_or d 11 0) (byte 9) (byte 10) (byte 11) in
    rw (first.0, first.1, first.2, second.3, third.4)
