-- The runs of two datagrams are as many as their ends, which are counted in three parts. Assumes nothing.
use Prim.Native.Nat.{ℕ, ◌+◌, ◌-◌, ◌≤◌, ◌<◌, max, min}
use mathlib.Core.Path.{◌≡◌, refl, sym, ap, ◌∙◌}
use mathlib.Core.Bool.{Bool, true, false, not}
use mathlib.Core.List.{List}
use mir.Val.{bool_byte}
use native.Mathlib.Omega.{arith}
use lib.ListN.{length}
use lib.Dec.{eqb}
use borrow.Author.Tests.{eqb-true, eqb-false}
use Rattle.comparing.specs.Runs.{is_unequal_at, differs_at, runs}
use Rattle.comparing.specs.Search.{ends}
use Rattle.comparing.proofs.Running.{runs-passed}
use Rattle.comparing.proofs.Searching.{differs-alone, differs-unmasked, next-alone}
use Rattle.comparing.proofs.Differing.{differs-past}
use Rattle.comparing.proofs.Ending.{runs-ends, ends-past, ends_alike}

module _ (masked : Bool) (a b : List ℕ) where
  -- behind the shorter end there is one run, where the lengths are unequal
  pub ends-alone : ends (differs_at masked a b) (min (length a) (length b)) (max (length a) (length b)) ≡ bool_byte (not (eqb (length a) (length b)))
  ends-alone = go (eqb (length a) (length b)) refl
    where
      go : (t : Bool) → eqb (length a) (length b) ≡ t → ends (differs_at masked a b) (min (length a) (length b)) (max (length a) (length b)) ≡ bool_byte (not t)
      go true t = ends-past (differs_at masked a b) (min (length a) (length b)) (max (length a) (length b)) (omega (arith, eqb-true (length a) (length b) t))
      go false t =
          let d = differs_at masked a b in
          let s = min (length a) (length b) in
          let l = max (length a) (length b) in
          let h : s < l = omega (arith, eqb-false (length a) (length b) t) in
          let e : l - l ≡ 0 = omega arith in
          let one = rw e at (runs-passed d s l l (differs-alone masked a b s (omega arith) h) h (next-alone masked false a b s l (omega arith) (omega arith) refl)) in
          sym (runs-ends d s (l - s) (differs-past masked a b (s + (l - s)) (omega arith))) ∙ ap length one

  -- where no place is masked and both have the next one
  pub ends-unmasked : (p r : ℕ) → (masked ≡ true → p < r → 12 ≤ p) → r < min (length a) (length b) → ends (differs_at masked a b) p r ≡ ends (is_unequal_at a b) p r
  ends-unmasked p r m h =
      ends_alike (is_unequal_at a b) (differs_at masked a b) p p (r - p) (λ i z l. differs-unmasked masked a b (p + i) (λ t. omega (arith, m t (omega arith))) (omega arith))

  -- the runs of two datagrams
  pub runs-count : length (runs masked a b) ≡ ends (differs_at masked a b) 0 (max (length a) (length b))
  unfolding runs
  runs-count =
      let e : max (length a) (length b) - 0 ≡ max (length a) (length b) = omega arith in
      rw e (runs-ends (differs_at masked a b) 0 (max (length a) (length b)) (differs-past masked a b (0 + max (length a) (length b)) (omega arith)))
