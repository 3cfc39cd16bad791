-- Laws of the first bits of a byte and of bytes. Assumes nothing.
use Prim.Native.Nat.{ℕ, zero, suc, ◌-◌, ◌*◌, ◌^◌, ◌≤◌, min}
use mathlib.Core.Path.{◌≡◌, refl, ap, ◌∙◌}
use mathlib.Core.List.{List, [], ◌∷◌, ◌++◌}
use native.Mathlib.Omega.{arith}
use native.Mathlib.Nat.{div-mul-le_self}
use lib.ListN.{length, get_or}
use Rattle.advertisements.specs.Bits.{last_value, first_bits, first_bits_of}

-- the values are powers of two
pub power : (n : ℕ) → 2 ^ (8 - min n 8) ≡ last_value n
power zero = refl
power (suc zero) = refl
power (suc (suc zero)) = refl
power (suc (suc (suc zero))) = refl
power (suc (suc (suc (suc zero)))) = refl
power (suc (suc (suc (suc (suc zero))))) = refl
power (suc (suc (suc (suc (suc (suc zero)))))) = refl
power (suc (suc (suc (suc (suc (suc (suc zero))))))) = refl
power (suc (suc (suc (suc (suc (suc (suc (suc n)))))))) =
    let e : 8 - min (suc (suc (suc (suc (suc (suc (suc (suc n)))))))) 8 ≡ 0 = omega arith in
    rw e

pub first-bits_le : (n b : ℕ) → first_bits n b ≤ b
first-bits_le n b = div-mul-le_self b (last_value n)

pub length-first-bits-of : (n : ℕ) (bs : List ℕ) → length (first_bits_of n bs) ≡ length bs
unfolding first_bits_of
length-first-bits-of n [] = refl
length-first-bits-of n (b ∷ bs) = ap suc (length-first-bits-of (n - 8) bs)

-- a byte of the first bits: past the end both are 0
pub get_d_first-bits-of : (n : ℕ) (bs : List ℕ) (i : ℕ) → get_or (first_bits_of n bs) i 0 ≡ first_bits (n - i * 8) (get_or bs i 0)
unfolding first_bits_of
get_d_first-bits-of n [] i = omega (arith, first-bits_le (n - i * 8) 0)
get_d_first-bits-of n (b ∷ bs) zero =
    let e : n - 0 * 8 ≡ n = omega arith in
    rw e
get_d_first-bits-of n (b ∷ bs) (suc i) =
    let e : n - suc i * 8 ≡ n - 8 - i * 8 = omega arith in
    rw e (get_d_first-bits-of (n - 8) bs i)

pub first-bits-append : (n : ℕ) (xs ys : List ℕ) → first_bits_of n (xs ++ ys) ≡ first_bits_of n xs ++ first_bits_of (n - length xs * 8) ys
unfolding first_bits_of
first-bits-append n [] ys =
    let e : n ≡ n - 0 * 8 = omega arith in
    ap (λ (k : ℕ). first_bits_of k ys) e
first-bits-append n (x ∷ xs) ys =
    let e : n - 8 - length xs * 8 ≡ n - suc (length xs) * 8 = omega arith in
    ap (λ (l : List ℕ). first_bits n x ∷ l) (first-bits-append (n - 8) xs ys ∙ ap (λ (k : ℕ). first_bits_of (n - 8) xs ++ first_bits_of k ys) e)
