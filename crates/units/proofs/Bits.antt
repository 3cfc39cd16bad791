-- Laws of a word's bits: of a part of them, of a word that is masked, and of a word with a mask. Assumes nothing.
use Prim.Native.Nat.{ℕ, zero, suc, ◌+◌, ◌-◌, ◌*◌, ◌/◌, ◌%◌, ◌^◌, ◌≤◌, ◌<◌, max}
use mathlib.Core.Path.{◌≡◌, refl, sym, ap, ap₂, ◌∙◌}
use mathlib.Core.Bool.{Bool, true, false, cond, not}
use mathlib.Core.List.{List, [], ◌∷◌, ◌++◌}
use native.Mathlib.Nat.{add_comm, zero-add, suc-add, div-one, mod-one, pow-suc, zero-mul, eq_of_mul-eq-mul_right}
use native.Mathlib.Numerals.{add-one, one-add}
use native.Mathlib.Omega.{arith}
use borrow.Author.Tests.{eq-eqb, ne_eqb, eqb-true, eqb-false}
use lib.Bits.{bit_and, bit_or, or_step, or_zero_r, and_high, shifted_half, shifted_even}
use lib.Dec.{eqb}
use lib.ListN.{length, get_or, take}
use lib.Pow.{pow_pos, pow_mono, shr-shr, mod-pow-add, high_ones}
use lib.Seq.{take_at, drop_at}
use Rattle.lists.specs.Any.{any_of, all_of}
use Rattle.lists.specs.Parts.{part}
use Rattle.units.specs.Held.{bits_of, word_of}
use Rattle.units.proofs.Ranges.{marked}

-- the word whose n bits from one on are set, and no others
abbrev pub mask_of : ℕ → ℕ → ℕ
mask_of from n = (2 ^ n - 1) * 2 ^ from

pub length-bits : (n w : ℕ) → length (bits_of n w) ≡ n
length-bits zero w = refl
length-bits (suc n) w = ap suc (length-bits n (w / 2))

-- a word of a lowest bit and the others
low_bit : (b : Bool) (x : ℕ) → eqb ((cond b 1 0 + 2 * x) % 2) 1 ≡ b
low_bit true x = eq-eqb ((1 + 2 * x) % 2) 1 (omega arith)
low_bit false x = ne_eqb ((0 + 2 * x) % 2) 1 (omega arith)

high_bits : (b : Bool) (x : ℕ) → (cond b 1 0 + 2 * x) / 2 ≡ x
high_bits true x = omega arith
high_bits false x = omega arith

-- the word of some bits has these bits
pub bits_back : (bs : List Bool) → bits_of (length bs) (word_of bs) ≡ bs
bits_back [] = refl
bits_back (b ∷ bs) = ap₂ (λ (c : Bool) (cs : List Bool). c ∷ cs) (low_bit b (word_of bs)) (rw high_bits (bits_back bs))

bit_value_lem : (b : Bool) (x : ℕ) → x < 2 → eqb x 1 ≡ b → cond b 1 0 ≡ x
bit_value_lem true x h e = sym (eqb-true x 1 e)
bit_value_lem false x h e = omega (arith, eqb-false x 1 e)

-- and the word of a word's lowest bits is what they are worth
pub word-bits : (n w : ℕ) → word_of (bits_of n w) ≡ w % 2 ^ n
word-bits zero w = sym (mod-one w)
word-bits (suc n) w =
    let bit = bit_value_lem (eqb (w % 2) 1) (w % 2) (omega arith) refl in
    rw (← add-one n) (omega (arith, bit, word-bits n (w / 2), mod-pow-add w n 1))

half_shift : (w i : ℕ) → w / 2 / 2 ^ i ≡ w / 2 ^ suc i
half_shift w i = shr-shr w 1 i ∙ ap (λ (j : ℕ). w / 2 ^ j) (one-add i)

-- each bit
pub bit_at : (n i w : ℕ) → i < n → get_or (bits_of n w) i false ≡ eqb (w / 2 ^ i % 2) 1
bit_at zero i w h = absurd (omega arith)
bit_at (suc n) zero w h = rw div-one
bit_at (suc n) (suc i) w h = bit_at n i (w / 2) (omega arith) ∙ rw half_shift

-- the bits of a word are its lowest and those of what is above them
bits-add : (j k w : ℕ) → bits_of (j + k) w ≡ bits_of j w ++ bits_of k (w / 2 ^ j)
bits-add zero k w = rw (zero-add, div-one)
bits-add (suc j) k w = rw suc-add (ap (λ (bs : List Bool). eqb (w % 2) 1 ∷ bs) (bits-add j k (w / 2) ∙ rw half_shift))

part-bits : (n f c w : ℕ) → f + c ≤ n → part f c (bits_of n w) ≡ bits_of c (w / 2 ^ f)
part-bits n f c w h =
    let above = w / 2 ^ f in
    let e : n ≡ f + (c + (n - f - c)) = omega arith in
    ap (λ (k : ℕ). part f c (bits_of k w)) e
    ∙ ap (λ (bs : List Bool). part f c bs) (bits-add f (c + (n - f - c)) w)
    ∙ ap (take c) (drop_at (bits_of f w) (bits_of (c + (n - f - c)) above) f (length-bits f w) ∙ bits-add c (n - f - c) above)
    ∙ take_at (bits_of c above) (bits_of (n - f - c) (above / 2 ^ c)) c (length-bits c above)

-- a mask is what the lowest bits up to its end have more than those before it
pub ones_le : (f c : ℕ) → 2 ^ f - 1 ≤ 2 ^ (f + c) - 1
ones_le f c = omega (arith, pow_mono {i = f} {j = f + c} (omega arith))

pub ones_mask : (f c : ℕ) → 2 ^ (f + c) - 1 - (2 ^ f - 1) ≡ mask_of f c
ones_mask f c = rw (add_comm f c) (omega (arith, high_ones c f, pow_pos f))

-- a masked word
mask_word : (n f c w : ℕ) → f + c ≤ n → bit_and w (mask_of f c) ≡ word_of (part f c (bits_of n w)) * 2 ^ f
mask_word n f c w h =
    ap (bit_and w) (sym (high_ones c f)) ∙ and_high w c f
    ∙ ap (λ (x : ℕ). x * 2 ^ f) (sym (ap word_of (part-bits n f c w h) ∙ word-bits c (w / 2 ^ f)))

-- tests for equal numbers of which one says what the other says
eqb_as : (a b c d : ℕ) → (a ≡ b → c ≡ d) → (c ≡ d → a ≡ b) → eqb a b ≡ eqb c d
eqb_as a b c d to from = go (eqb c d) refl
  where
    go : (t : Bool) → eqb c d ≡ t → eqb a b ≡ t
    go true e = eq-eqb a b (from (eqb-true c d e))
    go false e = ne_eqb a b (λ h. eqb-false c d e (to h))

eqb_scale : (x y f : ℕ) → eqb (x * 2 ^ f) (y * 2 ^ f) ≡ eqb x y
eqb_scale x y f = eqb_as (x * 2 ^ f) (y * 2 ^ f) x y (eq_of_mul-eq-mul_right (2 ^ f) (pow_pos f) x y) (ap (λ (z : ℕ). z * 2 ^ f))

-- some bit is set where the word is not 0
any_word : (bs : List Bool) → not (eqb (word_of bs) 0) ≡ any_of (λ (b : Bool). b) bs
any_word [] = refl
any_word (true ∷ bs) = rw (ne_eqb (1 + 2 * word_of bs) 0 (omega arith))
any_word (false ∷ bs) = ap not (eqb_as (0 + 2 * word_of bs) 0 (word_of bs) 0 (λ e. omega arith) (λ e. omega arith)) ∙ any_word bs

-- and all of them where it has all
all-word : (bs : List Bool) → eqb (word_of bs) (2 ^ length bs - 1) ≡ all_of (λ (b : Bool). b) bs
all-word [] = refl
all-word (true ∷ bs) =
    eqb_as (1 + 2 * word_of bs) (2 ^ suc (length bs) - 1) (word_of bs) (2 ^ length bs - 1) (λ e. omega (arith, pow-suc 2 (length bs), pow_pos (length bs))) (λ e. omega (arith, pow-suc 2 (length bs), pow_pos (length bs)))
    ∙ all-word bs
all-word (false ∷ bs) = ne_eqb (0 + 2 * word_of bs) (2 ^ suc (length bs) - 1) (omega (arith, pow-suc 2 (length bs), pow_pos (length bs)))

module _ (n f c w : ℕ) (fits : f + c ≤ n) where
  pub any_mask : not (eqb (bit_and w (mask_of f c)) 0) ≡ any_of (λ (b : Bool). b) (part f c (bits_of n w))
  any_mask =
      let bits = part f c (bits_of n w) in
      let scale = ap (λ (x : ℕ). eqb (word_of bits * 2 ^ f) x) (sym (zero-mul (2 ^ f))) ∙ eqb_scale (word_of bits) 0 f in
      ap (λ (x : ℕ). not (eqb x 0)) (mask_word n f c w fits) ∙ ap not scale ∙ any_word bits

  pub all_mask : eqb (bit_and w (mask_of f c)) (mask_of f c) ≡ all_of (λ (b : Bool). b) (part f c (bits_of n w))
  all_mask =
      let bits = part f c (bits_of n w) in
      let long : length bits ≡ c = ap length (part-bits n f c w fits) ∙ length-bits c (w / 2 ^ f) in
      ap (λ (x : ℕ). eqb x (mask_of f c)) (mask_word n f c w fits) ∙ eqb_scale (word_of bits) (2 ^ c - 1) f
      ∙ ap (λ (k : ℕ). eqb (word_of bits) (2 ^ k - 1)) (sym long) ∙ all-word bits

-- a word with a mask: the lowest bit, and the others
or-cons : (n w m h : ℕ) (b : Bool) {bs : List Bool} → m / 2 ≡ h → eqb (max (w % 2) (m % 2)) 1 ≡ b → bits_of n (bit_or (w / 2) h) ≡ bs
    → bits_of (suc n) (bit_or w m) ≡ b ∷ bs
or-cons n w m h b half bit others =
    let low : bit_or w m % 2 ≡ max (w % 2) (m % 2) = omega (arith, or_step w m) in
    let high : bit_or w m / 2 ≡ bit_or (w / 2) (m / 2) = omega (arith, or_step w m) in
    ap₂ (λ (c : Bool) (cs : List Bool). c ∷ cs) (ap (λ (x : ℕ). eqb x 1) low ∙ bit) (ap (bits_of n) (high ∙ ap (bit_or (w / 2)) half) ∙ others)

pub or_mask : (n f c w : ℕ) → bits_of n (bit_or w (mask_of f c)) ≡ marked f c (bits_of n w)
or_mask zero f c w = refl
or_mask (suc n) (suc f) c w =
    let even : max (w % 2) (mask_of (suc f) c % 2) ≡ w % 2 = omega (arith, shifted_even (2 ^ c - 1) f) in
    or-cons n w (mask_of (suc f) c) (mask_of f c) (eqb (w % 2) 1) (shifted_half (2 ^ c - 1) f) (ap (λ (x : ℕ). eqb x 1) even) (or_mask n f c (w / 2))
or_mask (suc n) zero zero w = ap (bits_of (suc n)) (or_zero_r w)
or_mask (suc n) zero (suc c) w =
    let odd : max (w % 2) (mask_of 0 (suc c) % 2) ≡ 1 = omega (arith, pow-suc 2 c, pow_pos c) in
    or-cons n w (mask_of 0 (suc c)) (mask_of 0 c) true (omega (arith, pow-suc 2 c, pow_pos c)) (eq-eqb (max (w % 2) (mask_of 0 (suc c) % 2)) 1 odd) (or_mask n 0 c (w / 2))
