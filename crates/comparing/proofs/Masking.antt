-- The test of a masked byte decides the fact, and no byte from 12 on is masked. Assumes nothing.
use Prim.Native.Nat.{ℕ, ◌≤◌}
use mathlib.Core.Path.{◌≡◌}
use mathlib.Core.Logic.{inl, inr}
use mathlib.Core.Bool.{false}
use native.Mathlib.Omega.{arith}
use Rattle.lists.proofs.Decides.{Decides, decides_eq, decides_or, refutes}
use Rattle.comparing.specs.Runs.{is_masked_byte}
use Rattle.comparing.specs.Facts.{Masked}

pub decides_masked : (p : ℕ) → Decides (is_masked_byte p) (Masked p)
decides_masked p =
    decides_or _ _ (decides_or _ _ (decides_or _ _ (decides_or _ _ (decides_eq p 4) (decides_eq p 5)) (decides_eq p 8)) (decides_eq p 10)) (decides_eq p 11)

before-end : (q : ℕ) → 12 ≤ q → Masked q → ⊥
before-end q h (inl (inl (inl (inl e)))) = absurd (omega arith)
before-end q h (inl (inl (inl (inr e)))) = absurd (omega arith)
before-end q h (inl (inl (inr e))) = absurd (omega arith)
before-end q h (inl (inr e)) = absurd (omega arith)
before-end q h (inr e) = absurd (omega arith)

pub mask_ends : (q : ℕ) → 12 ≤ q → is_masked_byte q ≡ false
mask_ends q h = refutes (is_masked_byte q) (decides_masked q) (before-end q h)
