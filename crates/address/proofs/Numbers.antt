-- Numbers that are put together of bytes are the same exactly if their bytes are, so that one test of a number is four of bytes.
-- Assumes nothing.
use Prim.Native.Nat.{ℕ, suc, ◌<◌}
use mathlib.Core.Path.{◌≡◌, refl, sym}
use mathlib.Core.Bool.{Bool, true, false, ◌&&◌, ◌||◌, or_self, or-false}
use mathlib.Core.List.{List}
use native.Mathlib.Omega.{arith}
use borrow.Author.Tests.{eqb-true, eq-eqb}
use mir.Val.{Fits}
use mir.Syntax.{w8}
use lib.ListN.{get_or}
use lib.Dec.{eqb}
use Rattle.lists.proofs.Tests.{and_left, and_right}
use Rattle.address.specs.Address.{quad_of, is_under, is_identifier, are_zero}

-- two tests that pass together are the same
alike : (s t : Bool) → (s ≡ true → t ≡ true) → (t ≡ true → s ≡ true) → s ≡ t
alike true t f g = sym (f refl)
alike false true f g = g refl
alike false false f g = refl

module _ (a b c d e f g h : ℕ) (b-byte : b < 256) (c-byte : c < 256) (d-byte : d < 256) (f-byte : f < 256) (g-byte : g < 256) (h-byte : h < 256) where
  -- two numbers of four bytes are the same exactly if the bytes are
  pub quad-same : eqb (quad_of a b c d) (quad_of e f g h) ≡ (eqb a e && eqb b f && eqb c g && eqb d h)
  quad-same = alike _ _ bytes number
    where
      bytes : eqb (quad_of a b c d) (quad_of e f g h) ≡ true → (eqb a e && eqb b f && eqb c g && eqb d h) ≡ true
      bytes q =
          let n : quad_of a b c d ≡ quad_of e f g h = eqb-true _ _ q in
          rw (eq-eqb a e (omega arith), eq-eqb b f (omega arith), eq-eqb c g (omega arith), eq-eqb d h (omega arith))

      number : (eqb a e && eqb b f && eqb c g && eqb d h) ≡ true → eqb (quad_of a b c d) (quad_of e f g h) ≡ true
      number q =
          let abc = and_left (eqb a e && eqb b f && eqb c g) (eqb d h) q in
          let ab = and_left (eqb a e && eqb b f) (eqb c g) abc in
          let a-same = eqb-true a e (and_left (eqb a e) (eqb b f) ab) in
          let b-same = eqb-true b f (and_right (eqb a e) (eqb b f) ab) in
          let c-same = eqb-true c g (and_right (eqb a e && eqb b f) (eqb c g) abc) in
          let d-same = eqb-true d h (and_right (eqb a e && eqb b f && eqb c g) (eqb d h) q) in
          eq-eqb (quad_of a b c d) (quad_of e f g h) (omega arith)

-- behind other tests, a group of four is four in a row
groups : (s e f g h : Bool) → (s && (e && f && g && h)) ≡ (s && e && f && g && h)
groups true e f g h = refl
groups false e f g h = refl

-- 00 or 02 before the same three bytes
either_first : (s t a b c : Bool) → ((s && a && b && c) || (t && a && b && c)) ≡ ((s || t) && a && b && c)
either_first true true a b c = or_self (a && b && c)
either_first true false a b c = or-false (a && b && c)
either_first false t a b c = refl

-- the number of four bytes of a list, from place i on
abbrev pub quad_at : List ℕ → ℕ → ℕ
quad_at a i = quad_of (get_or a i 0) (get_or a (suc i) 0) (get_or a (suc (suc i)) 0) (get_or a (suc (suc (suc i))) 0)

module _ (a : List ℕ) (byte : (i : ℕ) → Fits w8 (get_or a i 0)) where
  -- two numbers of four bytes are the eight bytes of a prefix
  pub under-quads : (p : List ℕ) → ((i : ℕ) → Fits w8 (get_or p i 0)) → (eqb (quad_at p 0) (quad_at a 0) && eqb (quad_at p 4) (quad_at a 4)) ≡ is_under a p
  unfolding is_under
  under-quads p p-byte =
      rw (
        quad-same _ _ _ _ _ _ _ _ (p-byte 1).fits (p-byte 2).fits (p-byte 3).fits (byte 1).fits (byte 2).fits (byte 3).fits,
        quad-same _ _ _ _ _ _ _ _ (p-byte 5).fits (p-byte 6).fits (p-byte 7).fits (byte 5).fits (byte 6).fits (byte 7).fits,
        groups,
      )

  quad_is : (i b c d e : ℕ) → c < 256 → d < 256 → e < 256
      → eqb (quad_at a i) (quad_of b c d e) ≡ (eqb (get_or a i 0) b && eqb (get_or a (suc i) 0) c && eqb (get_or a (suc (suc i)) 0) d && eqb (get_or a (suc (suc (suc i))) 0) e)
  quad_is i b c d e =
      quad-same _ _ _ _ b c d e (byte (suc i)).fits (byte (suc (suc i))).fits (byte (suc (suc (suc i)))).fits

  -- 00-00-5E-FE or 02-00-5E-FE as one number
  pub identifier-quad : (eqb (quad_at a 8) (quad_of 0 0 0x5E 0xFE) || eqb (quad_at a 8) (quad_of 2 0 0x5E 0xFE)) ≡ is_identifier a
  unfolding is_identifier
  identifier-quad =
      rw (
        quad_is 8 0 0 0x5E 0xFE (omega arith) (omega arith) (omega arith),
        quad_is 8 2 0 0x5E 0xFE (omega arith) (omega arith) (omega arith),
        either_first,
      )

  -- three numbers are 96 bits
  pub zero-quads : (eqb (quad_at a 0) 0 && eqb (quad_at a 4) 0 && eqb (quad_at a 8) 0) ≡ are_zero 12 a
  zero-quads =
      rw (
        quad_is 0 0 0 0 0 (omega arith) (omega arith) (omega arith),
        quad_is 4 0 0 0 0 (omega arith) (omega arith) (omega arith),
        quad_is 8 0 0 0 0 (omega arith) (omega arith) (omega arith),
      ) (simp groups)
