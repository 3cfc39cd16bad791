-- The first bits of bytes, bit by bit: below the length they are the bytes' own, and the others are 0. Assumes nothing.
use Prim.Native.Nat.{ℕ, zero, suc, ◌+◌, ◌-◌, ◌*◌, ◌/◌, ◌%◌, ◌^◌, ◌≤◌, ◌<◌, min}
use mathlib.Core.Path.{◌≡◌, refl, sym, ap, ◌∙◌}
use mathlib.Core.Logic.{◌⊎◌, ⊎_elim, inl, inr}
use mathlib.Core.List.{List, [], ◌∷◌, ◌++◌}
use native.Mathlib.Omega.{arith}
use native.Mathlib.Nat.{div-div-eq-div-mul, div-le_self, mul-div_cancel, pow-suc}
use lib.Pow.{pow_pos, pow-add}
use lib.ListN.{get_or, take, length-take}
use lib.Seq.{get_or-take}
use Rattle.checksum.proofs.Bytes.{Bytes, bytes_of, bytes-at, bytes_take}
use Rattle.advertisements.specs.Bits.{first_bits, first_bits_of}
use Rattle.advertisements.specs.OptionFacts.{FirstBits}
use Rattle.advertisements.proofs.BitLaws.{power, first-bits_le, get_d_first-bits-of}

-- a last element that is the default changes nothing
last_default : (l : List ℕ) (d j : ℕ) → get_or (l ++ (d ∷ [])) j d ≡ get_or l j d
last_default [] d zero = refl
last_default [] d (suc j) = refl
last_default (x ∷ l) d zero = refl
last_default (x ∷ l) d (suc j) = last_default l d j

-- the value of bit j of a byte
abbrev bit_value : ℕ → ℕ
bit_value j = get_or (128 ∷ (64 ∷ (32 ∷ (16 ∷ (8 ∷ (4 ∷ (2 ∷ (1 ∷ [])))))))) j 1

bit_power : (j : ℕ) → bit_value j ≡ 2 ^ (8 - min (suc j) 8)
bit_power j = last_default (128 ∷ (64 ∷ (32 ∷ (16 ∷ (8 ∷ (4 ∷ (2 ∷ []))))))) 1 j ∙ sym (power (suc j))

-- a bit of at least the value v is left
pub bit_left : (b s t : ℕ) → s ≤ t → b / 2 ^ s * 2 ^ s / 2 ^ t ≡ b / 2 ^ t
bit_left b s t h =
    let v = 2 ^ s in
    let u = 2 ^ (t - s) in
    let e : t ≡ s + (t - s) = omega arith in
    let w : 2 ^ t ≡ v * u = ap (λ (k : ℕ). 2 ^ k) e ∙ pow-add 2 s (t - s) in
    ap (λ (x : ℕ). b / v * v / x) w
    ∙ sym (div-div-eq-div-mul (b / v * v) v u)
    ∙ ap (λ (x : ℕ). x / u) (mul-div_cancel (b / v) (pow_pos s))
    ∙ div-div-eq-div-mul b v u
    ∙ ap (λ (x : ℕ). b / x) (sym w)

-- a bit of a lesser value is 0
bit_gone : (b s t : ℕ) → t < s → b / 2 ^ s * 2 ^ s / 2 ^ t % 2 ≡ 0
bit_gone b s t h =
    let q = b / 2 ^ s in
    let u = 2 ^ (s - suc t) in
    let e : s ≡ t + suc (s - suc t) = omega arith in
    let v : 2 ^ s ≡ 2 ^ t * (u * 2) = ap (λ (k : ℕ). 2 ^ k) e ∙ pow-add 2 t (suc (s - suc t)) ∙ ap (λ (x : ℕ). 2 ^ t * x) (pow-suc 2 (s - suc t)) in
    let m : q * 2 ^ s ≡ q * u * 2 * 2 ^ t = ap (λ (x : ℕ). q * x) v ∙ omega arith in
    ap (λ (x : ℕ). x / 2 ^ t % 2) m ∙ ap (λ (x : ℕ). x % 2) (mul-div_cancel (q * u * 2) (pow_pos t)) ∙ omega arith

-- bit j of the first n bits of a byte
module _ (n j b : ℕ) (h : j < 8) where
  byte-own : j < n → first_bits n b / bit_value j % 2 ≡ b / bit_value j % 2
  byte-own k = rw (← power n, bit_power j, bit_left b (8 - min n 8) (8 - min (suc j) 8) (omega arith))

  byte-zero : n ≤ j → first_bits n b / bit_value j % 2 ≡ 0
  byte-zero k = rw (← power n, bit_power j) (bit_gone b (8 - min n 8) (8 - min (suc j) 8) (omega arith))

-- what is taken of a list reads as the list, or as past the end
take-or : (m : ℕ) (l : List ℕ) (i : ℕ) → (get_or (take m l) i 0 ≡ get_or l i 0) ⊎ (get_or (take m l) i 0 ≡ 0)
take-or zero l i = inr refl
take-or (suc m) [] i = inl refl
take-or (suc m) (x ∷ l) zero = inl refl
take-or (suc m) (x ∷ l) (suc i) = take-or m l i

pub bytes-first-bits : (n : ℕ) (bs : List ℕ) → ((i : ℕ) → get_or bs i 0 < 256) → Bytes (first_bits_of n bs)
bytes-first-bits n bs fits =
    bytes_of (first_bits_of n bs) (λ i. rw get_d_first-bits-of (omega (arith, first-bits_le (n - i * 8) (get_or bs i 0), fits i)))

-- as many bytes as are written have the first bits
module _ (n m : ℕ) (bs : List ℕ) (fits : (i : ℕ) → get_or bs i 0 < 256) where
  pub first-bits : FirstBits n bs (take m (first_bits_of n bs))
  first-bits = record {
    fits = λ i. bytes-at (take m f) i (bytes_take m f (bytes-first-bits n bs fits));
    own = λ k h l.
        ap (λ (x : ℕ). x / bit_value (k % 8) % 2) (get_or-take m f (k / 8) 0 (omega (arith, length-take m f)) ∙ get_d_first-bits-of n bs (k / 8))
        ∙ byte-own (n - k / 8 * 8) (k % 8) (get_or bs (k / 8) 0) (omega arith) (omega arith);
    zero = λ k h. ⊎_elim
        (λ e. ap (λ (x : ℕ). x / bit_value (k % 8) % 2) (e ∙ get_d_first-bits-of n bs (k / 8))
        ∙ byte-zero (n - k / 8 * 8) (k % 8) (get_or bs (k / 8) 0) (omega arith) (omega arith))
        (λ e. ap (λ (x : ℕ). x / bit_value (k % 8) % 2) e ∙ omega (arith, div-le_self 0 (bit_value (k % 8))))
        (take-or m f (k / 8));
  }
    where
      f : List ℕ
      f = first_bits_of n bs
