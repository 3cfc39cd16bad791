-- What a test says either way; and what tests that are joined say of each: by `||` where all fail, by `&&` where all pass.
-- Assumes nothing.
use mathlib.Core.Path.{◌≡◌, refl}
use mathlib.Core.Logic.{◌⊎◌, inl, inr}
use mathlib.Core.Bool.{Bool, true, false, cond, ◌||◌, ◌&&◌}

-- a test comes out one way or the other
pub tested : (b : Bool) → (b ≡ true) ⊎ (b ≡ false)
tested true = inl refl
tested false = inr refl

-- what holds whichever way a test comes out
pub by_test : {A : Type 0} (P : A → Type 0) (t : Bool) (a b : A) → (t ≡ true → P a) → (t ≡ false → P b) → P (cond t a b)
by_test P true a b f g = f refl
by_test P false a b f g = g refl

pub or_left : (a b : Bool) → (a || b) ≡ false → a ≡ false
or_left true b h = h
or_left false b h = cc

pub or_right : (a b : Bool) → (a || b) ≡ false → b ≡ false
or_right true b h = cc
or_right false b h = h

pub and_left : (a b : Bool) → (a && b) ≡ true → a ≡ true
and_left true b h = refl
and_left false b h = cc

pub and_right : (a b : Bool) → (a && b) ≡ true → b ≡ true
and_right true b h = h
and_right false b h = cc

module _ (a b c : Bool) (h : (a || b || c) ≡ false) where
  pub or_three : (a ≡ false) × (b ≡ false) × (c ≡ false)
  or_three =
      let ab = or_left (a || b) c h in
      (or_left a b ab, or_right a b ab, or_right (a || b) c h)

pub or_six : (a b c d e f : Bool) → (a || b || c || d || e || f) ≡ false
    → ((a ≡ false) × (b ≡ false) × (c ≡ false)) × ((d ≡ false) × (e ≡ false) × (f ≡ false))
or_six a b c d e f h =
    let abcde = or_left (a || b || c || d || e) f h in
    let abcd = or_left (a || b || c || d) e abcde in
    (or_three a b c (or_left (a || b || c) d abcd), (or_right (a || b || c) d abcd, or_right (a || b || c || d) e abcde, or_right (a || b || c || d || e) f h))
