-- The test whether a byte differs decides the fact that it does. Assumes nothing.
use Prim.Native.Nat.{ℕ, ◌≤◌, ◌<◌, min, max}
use mathlib.Core.Path.{◌≡◌, sym, ◌∙◌}
use mathlib.Core.Logic.{inl, inr, ⊎_elim}
use mathlib.Core.Bool.{Bool, true, false, not, ◌&&◌, true≢false}
use mathlib.Core.List.{List}
use native.Mathlib.Omega.{arith}
use borrow.Author.Tests.{le-ltb, ltb-true, ltb-false}
use lib.Dec.{ltb, eqb}
use lib.ListN.{length, get_or}
use Rattle.lists.proofs.Tests.{tested}
use Rattle.lists.proofs.Decides.{Decides, decides_eq, decides_and, decides_not}
use Rattle.comparing.specs.Runs.{is_masked_byte, is_unequal_at, differs_at}
use Rattle.comparing.specs.Facts.{Masked, Differs}
use Rattle.comparing.proofs.Masking.{decides_masked}
use Rattle.comparing.proofs.Searching.{differs-shared, differs-alone}

-- a test on the flag
decides_flag : (b : Bool) → Decides b (b ≡ true)
decides_flag b = record { holds = λ h. h; passes = λ h. h }

module _ (masked : Bool) (a b : List ℕ) (p : ℕ) where
  -- of a byte that both have
  decides_shared : Decides (not (masked && is_masked_byte p) && is_unequal_at a b p) ((((masked ≡ true) × Masked p) → ⊥) × (get_or a p 0 ≡ get_or b p 0 → ⊥))
  decides_shared =
      decides_and _ _ (decides_not (masked && is_masked_byte p) (decides_and masked (is_masked_byte p) (decides_flag masked) (decides_masked p)))
      (decides_not (eqb (get_or a p 0) (get_or b p 0)) (decides_eq (get_or a p 0) (get_or b p 0)))

  -- no byte is behind the longer one's end
  pub differs-past : max (length a) (length b) ≤ p → differs_at masked a b p ≡ false
  unfolding differs_at
  differs-past h = simp (le-ltb p (min (length a) (length b)) (omega arith), le-ltb p (max (length a) (length b)) h)

  alone : min (length a) (length b) ≤ p → p < max (length a) (length b) → Differs masked a b p
  alone h k =
      inr (⊎_elim (λ t. let l = ltb-true p (length a) t in inl (omega arith, omega arith)) (λ t. let l = ltb-false p (length a) t in inr (omega arith, omega arith)) (tested (ltb p (length a))))

  holds : differs_at masked a b p ≡ true → Differs masked a b p
  holds d = ⊎_elim (λ t. shared (ltb-true p (min (length a) (length b)) t)) (λ t. behind (ltb-false p (min (length a) (length b)) t)) (tested (ltb p (min (length a) (length b))))
    where
      shared : p < min (length a) (length b) → Differs masked a b p
      shared h =
          let f = decides_shared.holds (sym (differs-shared masked a b p h) ∙ d) in
          inl (omega arith, omega arith, (λ m n. f.0 (m, n)), f.1)

      behind : min (length a) (length b) ≤ p → Differs masked a b p
      behind h =
          ⊎_elim (λ t. alone h (ltb-true p (max (length a) (length b)) t)) (λ t. absurd (true≢false (sym d ∙ differs-past (ltb-false p (max (length a) (length b)) t))))
          (tested (ltb p (max (length a) (length b))))

  passes : Differs masked a b p → differs_at masked a b p ≡ true
  passes (inl f) = differs-shared masked a b p (omega (arith, f.0, f.1)) ∙ decides_shared.passes ((λ m. f.2 m.0 m.1), f.3)
  passes (inr (inl f)) = differs-alone masked a b p (omega (arith, f.0, f.1)) (omega (arith, f.0, f.1))
  passes (inr (inr f)) = differs-alone masked a b p (omega (arith, f.0, f.1)) (omega (arith, f.0, f.1))

  pub decides_differs : Decides (differs_at masked a b p) (Differs masked a b p)
  decides_differs = record { holds = holds; passes = passes }
