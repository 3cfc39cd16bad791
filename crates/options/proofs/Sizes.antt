-- The size of an option, and the options after it.
-- Assumes nothing.
use mathlib.Core.Path.{◌≡◌, refl, sym}
use mathlib.Core.List.{List, [], ◌∷◌}
use mathlib.Core.Bool.{Bool, true, false, not, cond, ◌&&◌}
use Prim.Native.Nat.{ℕ, zero, suc, ◌*◌, ◌<◌, ◌≤◌, pred}
use native.Mathlib.Nat.{le_of_suc-le-suc, not-suc-le-zero}
use native.Mathlib.Omega.{arith}
use lib.ListN.{length, get_or, take, drop}
use lib.Dec.{eqb, leb}
use Rattle.std.specs.Prelude.{Some, None, is_some}
use Rattle.std.specs.Bool.{then_some}
use borrow.Author.Tests.{eq-eqb, ne_eqb, leb-true}
use Rattle.options.specs.Options.{unit_bytes, option_size, options_from, options_of}
use Rattle.options.specs.SoFar.{some_size}

-- an option is within the bytes
pub size_fits : (bs : List ℕ) → option_size bs ≤ length bs
unfolding option_size
size_fits bs = go (leb (get_or bs 1 0 * unit_bytes) (length bs)) refl
  where
    go : (t : Bool) → leb (get_or bs 1 0 * unit_bytes) (length bs) ≡ t → cond t (get_or bs 1 0 * unit_bytes) 0 ≤ length bs
    go true e = leb-true _ _ e
    go false e = omega arith

-- an option that is not 0 bytes long is as long as its length says
pub size-units : (bs : List ℕ) → (option_size bs ≡ 0 → ⊥) → option_size bs ≡ get_or bs 1 0 * unit_bytes
unfolding option_size
size-units bs = go (leb (get_or bs 1 0 * unit_bytes) (length bs))
  where
    go : (t : Bool) → (cond t (get_or bs 1 0 * unit_bytes) 0 ≡ 0 → ⊥) → cond t (get_or bs 1 0 * unit_bytes) 0 ≡ get_or bs 1 0 * unit_bytes
    go true h = refl
    go false h = absurd (h refl)

pub size-least : (bs : List ℕ) → (option_size bs ≡ 0 → ⊥) → unit_bytes ≤ option_size bs
size-least bs h = omega (arith, h, size-units bs h)

-- a size that is told, and that none is
pub told : (n k : ℕ) → some_size n ≡ Some k → (n ≡ k) × (n ≡ 0 → ⊥)
told zero k e = let no : ◌≡◌ {A = ℕ} 0 1 = cc in absurd (omega arith)
told (suc n) k e = let same = rw (ne_eqb (suc n) 0 (λ z. omega arith)) at e in (cc, λ z. omega arith)

pub not_told : (n : ℕ) → is_some (some_size n) ≡ false → n ≡ 0
not_told zero e = refl
not_told (suc n) e =
    let other = rw (ne_eqb (suc n) 0 (λ z. omega arith)) at e in
    let no : ◌≡◌ {A = ℕ} 0 1 = cc in
    absurd (omega arith)

pub is_told : (n : ℕ) → is_some (some_size n) ≡ true → n ≡ 0 → ⊥
is_told zero e z = let no : ◌≡◌ {A = ℕ} 0 1 = cc in omega arith
is_told (suc n) e z = omega arith

-- it is told where it is not 0 and lies within the bytes
pub sized : (n : ℕ) (t : Bool) → then_some (not (eqb n 0) && t) n ≡ some_size (cond t n 0)
sized n false = go (not (eqb n 0))
  where
    go : (u : Bool) → then_some (u && false) n ≡ None
    go true = refl
    go false = refl
sized n true = go (eqb n 0)
  where
    go : (u : Bool) → then_some (not u && true) n ≡ cond u None (Some n)
    go true = refl
    go false = refl

-- an option that has no length byte
pub size-short : (bs : List ℕ) → length bs < 2 → 0 ≡ option_size bs
unfolding option_size
size-short [] h = refl
size-short (b ∷ []) h = refl
size-short (b ∷ d ∷ bs) h = absurd (not-suc-le-zero (le_of_suc-le-suc (le_of_suc-le-suc h)))

-- no option, if the first has length 0 or runs past the end
pub options-none : (bs : List ℕ) → option_size bs ≡ 0 → options_of bs ≡ []
unfolding options_from
options-none [] e = refl
options-none (b ∷ bs) e = rw (eq-eqb _ _ e)

-- the options from k bytes on
passed : (k : ℕ) (bs : List ℕ) → options_from k bs ≡ options_of (drop k bs)
unfolding options_from
passed zero bs = refl
passed (suc k) [] = refl
passed (suc k) (b ∷ bs) = passed k bs

-- the first option, and the options after it
pub options-cons : (bs : List ℕ) → (option_size bs ≡ 0 → ⊥) → options_of bs ≡ take (option_size bs) bs ∷ options_of (drop (option_size bs) bs)
unfolding options_from
options-cons [] h = absurd (h (sym (size-short [] (omega arith))))
options-cons (b ∷ bs) h = rw (ne_eqb _ _ h) (go (option_size (b ∷ bs)) h)
  where
    go : (n : ℕ) → (n ≡ 0 → ⊥) → take n (b ∷ bs) ∷ options_from (pred n) bs ≡ take n (b ∷ bs) ∷ options_of (drop n (b ∷ bs))
    go zero h = absurd (h refl)
    go (suc n) h = rw (passed n bs)
