-- A turn of the walks over all options, and what the options say where the walks end.
-- Assumes nothing.
use mathlib.Core.Path.{◌≡◌, refl, sym, ap}
use mathlib.Core.List.{List}
use mathlib.Core.Bool.{Bool, true, false}
use Prim.Native.Nat.{ℕ, suc, ◌-◌, ◌≤◌, ◌<◌}
use native.Mathlib.Omega.{arith}
use lib.ListN.{length, take, drop, length-drop}
use lib.Dec.{eqb}
use borrow.Author.Tests.{eqb-true, eqb-false, eq-eqb, ne_eqb}
use Rattle.lists.specs.Walks.{walked}
use Rattle.lists.proofs.Walks as walks
use Rattle.options.specs.declared.Found.{Found}
use Rattle.options.specs.declared.Walked.{Walked}
use Rattle.options.specs.Options.{option_size}
use Rattle.options.specs.SoFar.{size_after, found_with, walked_of, read_of}
use Rattle.options.proofs.Sizes.{size_fits}
use Rattle.options.proofs.Steps.{options_with, read-end, read_bad, read-on}

-- a turn: a walk over the bytes from a place on, which are the part of a slice
module _ (most at : ℕ) (bs : List ℕ) (f : Found)
    (w : Walked) (is : w ≡ walked_of (suc most) (take (length bs - at) (drop at bs)) f) where
  came : (w.found, w.left) ≡ walked size_after found_with (suc most) f (take (length bs - at) (drop at bs))
  unfolding walked_of
  came = ap (λ (v : Walked). (v.found, v.left)) is

  fits : (g : Found) (rest : List ℕ) → size_after g rest ≤ length rest
  fits g rest = size_fits rest

  pub turn_left : w.left ≤ length bs - at
  turn_left = walks.turn_left size_after found_with fits most at bs f (w.found, w.left) came

  pub turn_falls : (option_size (drop at bs) ≡ 0 → ⊥) → w.left < length bs - at
  turn_falls = walks.turn_falls size_after found_with fits most at bs f (w.found, w.left) came

  pub turn_on : at ≤ length bs → read_of (drop at bs) f ≡ read_of (drop (length bs - w.left) bs) w.found
  turn_on within =
      walks.turn_on size_after found_with fits (λ g rest. read_of rest g) (λ g rest good. sym (read-on rest good g)) most at bs f within
      (w.found, w.left) came

-- where there is no option, the options are whole if no byte is left
pub read_none : (bs : List ℕ) (f : Found) → option_size bs ≡ 0 → options_with (eqb (length bs) 0) f ≡ read_of bs f
read_none bs f none = go (eqb (length bs) 0) refl
  where
    go : (t : Bool) → eqb (length bs) 0 ≡ t → options_with t f ≡ read_of bs f
    go true e = read-end bs f (eqb-true _ _ e)
    go false e = read_bad bs f (eqb-false _ _ e) none

-- whether the options are whole is told by the place that the walks came to
pub read_at : (at : ℕ) (bs : List ℕ) (f : Found) → at ≤ length bs → option_size (drop at bs) ≡ 0
    → options_with (eqb at (length bs)) f ≡ read_of (drop at bs) f
read_at at bs f within none = rw same (read_none (drop at bs) f none)
  where
    go : (t : Bool) → eqb at (length bs) ≡ t → t ≡ eqb (length (drop at bs)) 0
    go true e = let last = eqb-true at (length bs) e in sym (eq-eqb (length (drop at bs)) 0 (omega (arith, length-drop at bs)))
    go false e = let more = eqb-false at (length bs) e in sym (ne_eqb (length (drop at bs)) 0 (λ (z : length (drop at bs) ≡ 0). more (omega (arith, length-drop at bs))))

    same : eqb at (length bs) ≡ eqb (length (drop at bs)) 0
    same = go (eqb at (length bs)) refl
