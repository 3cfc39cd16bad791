-- The four numbers of an address and its sixteen bytes are each other's. Assumes nothing.
use Prim.Native.Nat.{ℕ, zero, suc, ◌/◌, ◌%◌, ◌<◌}
use mathlib.Core.Path.{◌≡◌, sym, ap, ◌∙◌}
use mathlib.Core.Bool.{◌&&◌, ◌||◌}
use mathlib.Core.List.{List, [], ◌∷◌}
use native.Mathlib.Omega.{arith}
use mir.Val.{Fits}
use mir.Syntax.{w8}
use lib.ListN.{get_or, length, drop, drop_of_length-le}
use lib.Seq.{drop-cons}
use lib.Dec.{eqb}
use Rattle.address.specs.Address.{quad_of, last_quad, is_under, is_identifier, are_zero}
use Rattle.address.specs.Quads.{quad_bytes, bytes_in, quads_of}
use Rattle.address.specs.declared.quads.Quads.{Quads}
use Rattle.address.proofs.Numbers.{quad_at, under-quads, identifier-quad, zero-quads}

-- the four bytes of a number give it back
quad-back : (n : ℕ) → n < 4294967296 → quad_of (n / 16777216) (n / 65536 % 256) (n / 256 % 256) (n % 256) ≡ n
quad-back n h = omega arith

-- a number of four bytes gives them back
bytes_back : (a b c d : ℕ) (rest : List ℕ) → b < 256 → c < 256 → d < 256 → quad_bytes (quad_of a b c d) rest ≡ a ∷ b ∷ c ∷ d ∷ rest
bytes_back a b c d rest hb hc hd =
    let first : quad_of a b c d / 16777216 ≡ a = omega arith in
    let second : quad_of a b c d / 65536 % 256 ≡ b = omega arith in
    let third : quad_of a b c d / 256 % 256 ≡ c = omega arith in
    let last : quad_of a b c d % 256 ≡ d = omega arith in
    rw (first, second, third, last)

module _ (a : List ℕ) (long : length a ≡ 16) (byte : (i : ℕ) → Fits w8 (get_or a i 0)) where
  four : (i : ℕ) → i < 13 → quad_bytes (quad_at a i) (drop (suc (suc (suc (suc i)))) a) ≡ drop i a
  four i h =
      bytes_back _ _ _ _ _ (byte (suc i)).fits (byte (suc (suc i))).fits (byte (suc (suc (suc i)))).fits
      ∙ sym (rw (drop-cons a i 0 (omega arith), drop-cons a (suc i) 0 (omega arith), drop-cons a (suc (suc i)) 0 (omega arith), drop-cons a (suc (suc (suc i))) 0 (omega arith)))

  -- the numbers of sixteen bytes give them back
  pub quads-bytes : bytes_in (quads_of a) ≡ a
  unfolding bytes_in quads_of
  quads-bytes =
      let end : drop 16 a ≡ [] = drop_of_length-le a {i = 16} (omega arith) in
      ap (λ (r : List ℕ). quad_bytes (quad_at a 0) (quad_bytes (quad_at a 4) (quad_bytes (quad_at a 8) (quad_bytes (quad_at a 12) r)))) (sym end)
      ∙ ap (λ (r : List ℕ). quad_bytes (quad_at a 0) (quad_bytes (quad_at a 4) (quad_bytes (quad_at a 8) r))) (four 12 (omega arith))
      ∙ ap (λ (r : List ℕ). quad_bytes (quad_at a 0) (quad_bytes (quad_at a 4) r)) (four 8 (omega arith))
      ∙ ap (λ (r : List ℕ). quad_bytes (quad_at a 0) r) (four 4 (omega arith))
      ∙ four 0 (omega arith)

-- the bytes of a number, before others, are bytes
fits-before : (n : ℕ) (rest : List ℕ) → n < 4294967296 → ((i : ℕ) → Fits w8 (get_or rest i 0)) → (i : ℕ) → Fits w8 (get_or (quad_bytes n rest) i 0)
fits-before n rest h byte zero = record { fits = omega arith }
fits-before n rest h byte (suc zero) = record { fits = omega arith }
fits-before n rest h byte (suc (suc zero)) = record { fits = omega arith }
fits-before n rest h byte (suc (suc (suc zero))) = record { fits = omega arith }
fits-before n rest h byte (suc (suc (suc (suc i)))) = byte i

none : (i : ℕ) → Fits w8 (get_or [] i 0)
none i = record { fits = omega arith }

module _ (q : Quads) (first : q.first < 4294967296) (second : q.second < 4294967296) (third : q.third < 4294967296) (last : q.last < 4294967296) where
  fits : (i : ℕ) → Fits w8 (get_or (bytes_in q) i 0)
  unfolding bytes_in
  fits =
      let d : List ℕ = quad_bytes q.last [] in
      let c : List ℕ = quad_bytes q.third d in
      fits-before q.first (quad_bytes q.second c) first
      (fits-before q.second c second (fits-before q.third d third (fits-before q.last [] last none)))

  -- the tests on the bytes are tests on the numbers
  pub under-prefix : (p : List ℕ) → ((i : ℕ) → Fits w8 (get_or p i 0)) → (eqb (quad_at p 0) q.first && eqb (quad_at p 4) q.second) ≡ is_under (bytes_in q) p
  unfolding bytes_in
  under-prefix p p-byte = rw (quad-back q.first first, quad-back q.second second) at (under-quads (bytes_in q) fits p p-byte)

  pub identifier_third : (eqb q.third (quad_of 0 0 0x5E 0xFE) || eqb q.third (quad_of 2 0 0x5E 0xFE)) ≡ is_identifier (bytes_in q)
  unfolding bytes_in
  identifier_third = rw (quad-back q.third third) at (identifier-quad (bytes_in q) fits)

  pub zero_three : (eqb q.first 0 && eqb q.second 0 && eqb q.third 0) ≡ are_zero 12 (bytes_in q)
  unfolding bytes_in
  zero_three = rw (quad-back q.first first, quad-back q.second second, quad-back q.third third) at (zero-quads (bytes_in q) fits)

-- the last 32 bits are the last number
pub last-number : (q : Quads) → q.last < 4294967296 → last_quad (bytes_in q) ≡ q.last
unfolding bytes_in last_quad
last-number q h = quad-back q.last h
