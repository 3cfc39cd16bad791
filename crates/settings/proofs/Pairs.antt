-- Two numbers of which the low 32 bits are an address and the rest an interface: they are the same where both are. Assumes nothing.
use Prim.Native.Nat.{ℕ, ◌%◌, ◌/◌}
use mathlib.Core.Path.{◌≡◌, refl}
use mathlib.Core.Bool.{Bool, true, false, ◌&&◌}
use native.Mathlib.Omega.{arith}
use lib.Dec.{eqb}
use borrow.Author.Tests.{eq-eqb, ne_eqb, eqb-true}

module _ (p q x y i j : ℕ) (px : p % 4294967296 ≡ x) (pi : p / 4294967296 ≡ i) (qy : q % 4294967296 ≡ y) (qj : q / 4294967296 ≡ j) where
  pub pairs-same : p ≡ q → (eqb x y && eqb i j) ≡ true
  pairs-same e = rw (eq-eqb x y (omega arith), eq-eqb i j (omega arith))

  pub pairs-other : (p ≡ q → ⊥) → (eqb x y && eqb i j) ≡ false
  pairs-other differ = go (eqb x y) refl
    where
      go : (b : Bool) → eqb x y ≡ b → (b && eqb i j) ≡ false
      go false e = refl
      go true e = let same : x ≡ y = eqb-true x y e in ne_eqb i j (λ f. differ (omega arith))
