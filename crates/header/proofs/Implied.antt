-- A datagram that is as long as its total length, and this no shorter than its header, has at least 20 bytes and the header's. Assumes nothing.
use Prim.Native.Nat.{ℕ, ◌*◌, ◌/◌, ◌%◌, ◌≤◌}
use mathlib.Core.Path.{◌≡◌, refl, sym}
use mathlib.Core.Bool.{Bool, true, false, not, ◌||◌}
use native.Mathlib.Omega.{arith}
use borrow.Author.Tests.{lt-ltb, le-ltb, ltb-true, ltb-false, eqb-true, eqb-false}
use lib.Dec.{eqb, ltb}
use Rattle.lists.proofs.Tests.{or_left, or_right, or_three, or_six}
use Rattle.header.specs.Numbers.{outer_header}
use Rattle.header.specs.Outer.{is_outer_malformed}
use Rattle.header.specs.declared.outer.Outer.{Outer}

-- two tests that fail together are the same
alike : (s t : Bool) → (s ≡ false → t ≡ false) → (t ≡ false → s ≡ false) → s ≡ t
alike true true f g = refl
alike true false f g = g refl
alike false t f g = sym (f refl)

-- the tests of version and header words, asked of the first byte at once
first_byte : (f : ℕ) → (ltb f 0x45 || ltb 0x4f f) ≡ (not (eqb (f / 16) 4) || ltb (f % 16 * 4) outer_header)
first_byte f = go (ltb f 0x45) refl (ltb 0x4f f) refl (eqb (f / 16) 4) refl
  where
    go : (a : Bool) → ltb f 0x45 ≡ a → (b : Bool) → ltb 0x4f f ≡ b → (c : Bool) → eqb (f / 16) 4 ≡ c → (a || b) ≡ (not c || ltb (f % 16 * 4) outer_header)
    go true below b above true four = sym (lt-ltb (f % 16 * 4) outer_header (omega (arith, ltb-true f 0x45 below, eqb-true (f / 16) 4 four)))
    go true below b above false four = refl
    go false below true above true four = absurd (omega (arith, ltb-true 0x4f f above, eqb-true (f / 16) 4 four))
    go false below true above false four = refl
    go false below false above true four = sym (le-ltb (f % 16 * 4) outer_header (omega (arith, ltb-false f 0x45 below, ltb-false 0x4f f above)))
    go false below false above false four = absurd (eqb-false (f / 16) 4 four (omega (arith, ltb-false f 0x45 below, ltb-false 0x4f f above)))

-- the tests of number 2 without the two that follow from the others
abbrev pub fewer_tests : ℕ → Outer → Bool
fewer_tests n o = not (eqb o.version 4) || ltb o.header outer_header || ltb o.total o.header || ltb n o.total

pub implied : (n : ℕ) (o : Outer) → fewer_tests n o ≡ is_outer_malformed n o
unfolding is_outer_malformed
implied n o = alike (fewer_tests n o) (is_outer_malformed n o) all fewer
  where
    v : Bool
    v = not (eqb o.version 4)

    all : fewer_tests n o ≡ false → is_outer_malformed n o ≡ false
    all h =
        let three = or_three v (ltb o.header outer_header) (ltb o.total o.header) (or_left _ (ltb n o.total) h) in
        let long : outer_header ≤ o.header = ltb-false _ _ three.1 in
        let total : o.header ≤ o.total = ltb-false _ _ three.2 in
        let bytes : o.total ≤ n = ltb-false _ _ (or_right (v || ltb o.header outer_header || ltb o.total o.header) _ h) in
        rw (le-ltb n outer_header (omega arith), three.0, three.1, le-ltb n o.header (omega arith), three.2, le-ltb n o.total bytes)

    fewer : is_outer_malformed n o ≡ false → fewer_tests n o ≡ false
    fewer h =
        let six = or_six (ltb n outer_header) v (ltb o.header outer_header) (ltb n o.header) (ltb o.total o.header) (ltb n o.total) h in
        rw (six.0.1, six.0.2, six.1.1, six.1.2)

-- so the code asks less
pub by_first_lem : (n f : ℕ) (o : Outer) → o.version ≡ f / 16 → o.header ≡ f % 16 * 4
    → (ltb f 0x45 || ltb 0x4f f || ltb o.total o.header || ltb n o.total) ≡ is_outer_malformed n o
by_first_lem n f o version words = rw (first_byte f, sym version, sym words) (implied n o)
