-- Eight bytes cut as one number keep their first bits. Assumes nothing.
use Prim.Native.Nat.{ℕ, zero, suc, ◌+◌, ◌-◌, ◌*◌, ◌/◌, ◌%◌, ◌^◌, ◌<◌, min}
use mathlib.Core.Path.{◌≡◌, refl, sym, ap, ◌∙◌}
use mathlib.Core.List.{List, [], ◌∷◌, ◌++◌, append-nil}
use mathlib.Core.Logic.{⊎_elim}
use native.Mathlib.Omega.{arith}
use native.Mathlib.Nat.{eq-zero-or-pos, div-div-eq-div-mul, div-mul-le_self, mod-eq_of_lt, mul-div_cancel, mul-mod_left}
use lib.Pow.{pow_pos, pow-add}
use lib.ListN.{length, get_or, drop, length-append}
use lib.Seq.{take_all, drop-length}
use Rattle.std.specs.Int.{w64, to_be_bytes, from_be_bytes}
use Rattle.header.specs.Fields.{bytes_from}
use Rattle.lent.specs.Written.{written_at}
use Rattle.lent.proofs.Laws.{written_at-first, written_at-more}
use Rattle.header.proofs.Words.{bytes-taken}
use Rattle.advertisements.specs.Bits.{first_bits, first_bits_of}
use Rattle.advertisements.proofs.BitLaws.{power, first-bits-append, length-first-bits-of, get_d_first-bits-of}
use Rattle.advertisements.proofs.FirstBitLaws.{bit_left}

-- a number whose last s bits are cleared
abbrev pub cut : ℕ → ℕ → ℕ
cut s x = x / 2 ^ s * 2 ^ s

-- what stands above the last e bits of it
cut-above : (x e t : ℕ) → cut (t + e) x / 2 ^ e ≡ cut t (x / 2 ^ e)
cut-above x e t =
    let u = 2 ^ t in
    let v = 2 ^ e in
    let w : 2 ^ (t + e) ≡ v * u = pow-add 2 t e ∙ omega arith in
    ap (λ (y : ℕ). x / y * y / v) w
    ∙ ap (λ (q : ℕ). q * (v * u) / v) (sym (div-div-eq-div-mul x v u))
    ∙ ap (λ (y : ℕ). y / v) (omega arith)
    ∙ mul-div_cancel (x / v / u * u) (pow_pos e)

-- the last byte of it
cut-byte : (t x : ℕ) → cut t x % 256 ≡ cut (min t 8) (x % 256)
cut-byte zero x = omega arith
cut-byte (suc zero) x = omega arith
cut-byte (suc (suc zero)) x = omega arith
cut-byte (suc (suc (suc zero))) x = omega arith
cut-byte (suc (suc (suc (suc zero)))) x = omega arith
cut-byte (suc (suc (suc (suc (suc zero))))) x = omega arith
cut-byte (suc (suc (suc (suc (suc (suc zero)))))) x = omega arith
cut-byte (suc (suc (suc (suc (suc (suc (suc zero))))))) x = omega arith
cut-byte (suc (suc (suc (suc (suc (suc (suc (suc t)))))))) x =
    let s = suc (suc (suc (suc (suc (suc (suc (suc t))))))) in
    let q = x / 2 ^ s in
    let e : s ≡ t + 8 = omega arith in
    let k : min s 8 ≡ 8 = omega arith in
    let m : q * 2 ^ s ≡ q * 2 ^ t * 256 = ap (λ (y : ℕ). q * 2 ^ y) e ∙ ap (λ (y : ℕ). q * y) (pow-add 2 t 8) ∙ omega arith in
    ap (λ (y : ℕ). y % 256) m ∙ mul-mod_left (q * 2 ^ t) 256 ∙ sym (ap (λ (y : ℕ). cut y (x % 256)) k ∙ omega arith)

-- a byte b of a number, above e bits: its first m bits are those above the last s of the number
byte-kept : (x s e m b : ℕ) → x / 2 ^ e % 256 ≡ b → min (s - e) 8 ≡ 8 - min m 8 → cut s x / 2 ^ e % 256 ≡ first_bits m b
byte-kept x s e m b p h =
    ap (λ (y : ℕ). y % 256) (⊎_elim below above (eq-zero-or-pos (s - e)))
    ∙ cut-byte (s - e) (x / 2 ^ e)
    ∙ ap (λ (k : ℕ). cut k (x / 2 ^ e % 256)) h
    ∙ ap (λ (v : ℕ). x / 2 ^ e % 256 / v * v) (power m)
    ∙ ap (λ (y : ℕ). first_bits m y) p
  where
    below : s - e ≡ 0 → cut s x / 2 ^ e ≡ cut (s - e) (x / 2 ^ e)
    below k =
        bit_left x s e (omega arith) ∙ sym (ap (λ (t : ℕ). cut t (x / 2 ^ e)) k ∙ omega arith)

    above : 0 < s - e → cut s x / 2 ^ e ≡ cut (s - e) (x / 2 ^ e)
    above l =
        let k : s ≡ s - e + e = omega arith in
        ap (λ (t : ℕ). cut t x / 2 ^ e) k ∙ cut-above x e (s - e)

-- the first n bits of byte i of eight
byte-of_eight : (n x i e b : ℕ) → e + i * 8 ≡ 56 → x / 2 ^ e % 256 ≡ b → cut (64 - n) x / 2 ^ e % 256 ≡ first_bits (n - i * 8) b
byte-of_eight n x i e b h p = byte-kept x (64 - n) e (n - i * 8) b p (omega arith)

-- eight bytes, as a number that is cut behind its first n bits
module _ (n a b c d e f g h x : ℕ) (a8 : a < 256) (b8 : b < 256) (c8 : c < 256) (d8 : d < 256) (e8 : e < 256) (f8 : f < 256) (g8 : g < 256) (h8 : h < 256)
    (number : x ≡ ((((((a * 256 + b) * 256 + c) * 256 + d) * 256 + e) * 256 + f) * 256 + g) * 256 + h) where
  pub first-bits-of_eight : (y : ℕ) → y ≡ cut (64 - n) x
      → y / 2 ^ 56 % 256 ∷ (y / 2 ^ 48 % 256 ∷ (y / 2 ^ 40 % 256 ∷ (y / 2 ^ 32 % 256 ∷ (y / 2 ^ 24 % 256 ∷ (y / 2 ^ 16 % 256 ∷ (y / 2 ^ 8 % 256 ∷ (y % 256 ∷ [])))))))
      ≡ first_bits_of n (a ∷ (b ∷ (c ∷ (d ∷ (e ∷ (f ∷ (g ∷ (h ∷ []))))))))
  first-bits-of_eight y q =
      rw (at 0 56 refl (omega arith), at 1 48 refl (omega arith), at 2 40 refl (omega arith), at 3 32 refl (omega arith), at 4 24 refl (omega arith), at 5 16 refl (omega arith), at 6 8 refl (omega arith), last (at 7 0 refl (omega arith)))
      (bytes-taken 8 0 (first_bits_of n l) (omega (arith, length-first-bits-of n l)) ∙ take_all 8 (first_bits_of n l) (omega (arith, length-first-bits-of n l)))
    where
      l : List ℕ
      l = a ∷ (b ∷ (c ∷ (d ∷ (e ∷ (f ∷ (g ∷ (h ∷ [])))))))

      at : (i k : ℕ) → k + i * 8 ≡ 56 → x / 2 ^ k % 256 ≡ get_or l i 0 → y / 2 ^ k % 256 ≡ get_or (first_bits_of n l) i 0
      at i k o p = ap (λ (z : ℕ). z / 2 ^ k % 256) q ∙ byte-of_eight n x i k (get_or l i 0) o p ∙ sym (get_d_first-bits-of n l i)

      last : y / 2 ^ 0 % 256 ≡ get_or (first_bits_of n l) 7 0 → y % 256 ≡ get_or (first_bits_of n l) 7 0
      last p = omega arith

-- the same of the bytes that the library makes of it
pub cut_bytes : (n : ℕ) (p : List ℕ) → length p ≡ 8 → ((i : ℕ) → get_or p i 0 < 256) → (x : ℕ) → x ≡ from_be_bytes w64 p → (y : ℕ) → y ≡ cut (64 - n) x
    → to_be_bytes w64 y ≡ first_bits_of n p
cut_bytes n p full small x e y q =
    first-bits-of_eight n (get_or p 0 0) (get_or p 1 0) (get_or p 2 0) (get_or p 3 0) (get_or p 4 0) (get_or p 5 0) (get_or p 6 0) (get_or p 7 0) x
    (small 0) (small 1) (small 2) (small 3) (small 4) (small 5) (small 6) (small 7) (e ∙ omega arith) y q
    ∙ ap (λ (l : List ℕ). first_bits_of n l) (bytes-taken 8 0 p (omega arith) ∙ take_all 8 p (omega arith))

-- a shift by less than the width
pub shifted : (n x others : ℕ) → 0 < n → x < 2 ^ 64 → others ≡ (64 - min n 64) % 64 → (x / 2 ^ others * 2 ^ others) % 2 ^ 64 ≡ cut (64 - n) x
shifted n x others h l e =
    let k : others ≡ 64 - n = omega arith in
    rw k (mod-eq_of_lt (omega (arith, div-mul-le_self x (2 ^ (64 - n)))))

-- no bit is left
pub none_left : (n x : ℕ) → n ≡ 0 → x < 2 ^ 64 → 0 ≡ cut (64 - n) x
none_left n x e l =
    let k : 64 - n ≡ 64 = omega arith in
    rw k (omega arith)

-- a prefix is two halves
halves : (n : ℕ) (p : List ℕ) → length p ≡ 16 → first_bits_of n (bytes_from 8 0 p) ++ first_bits_of (n - 64) (bytes_from 8 8 p) ≡ first_bits_of n p
halves n p h =
    sym (first-bits-append n (bytes_from 8 0 p) (bytes_from 8 8 p))
    ∙ ap (λ (l : List ℕ). first_bits_of n l) (bytes-taken 16 0 p (omega arith) ∙ take_all 16 p (omega arith))

-- one half is written behind the other
pub halves_written : (n m : ℕ) (p d : List ℕ) {a b d₁ d₂ : List ℕ} → length p ≡ 16 → length d ≡ 16 → m ≡ n - 64 → a ≡ first_bits_of n (bytes_from 8 0 p)
    → b ≡ first_bits_of m (bytes_from 8 8 p) → d₁ ≡ written_at 0 a d → d₂ ≡ written_at 8 b d₁ → d₂ ≡ first_bits_of n p
halves_written n m p d {a} {b} h k l e f s t =
    let a8 : length a ≡ 8 = ap length e ∙ length-first-bits-of n (bytes_from 8 0 p) in
    let b8 : length b ≡ 8 = ap length f ∙ length-first-bits-of m (bytes_from 8 8 p) in
    let full : length (a ++ b) ≡ length d = length-append a b ∙ omega arith in
    let none : drop (length (a ++ b)) d ≡ [] = ap (λ (i : ℕ). drop i d) full ∙ drop-length d in
    written_at-more 8 a b d a8 (omega arith) (written_at-first a d (omega arith) s) t
    ∙ ap (λ (r : List ℕ). (a ++ b) ++ r) none
    ∙ append-nil (a ++ b)
    ∙ rw (e, f, l) (halves n p h)
