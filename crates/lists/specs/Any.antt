-- Whether some or all elements of a list pass a test or have a property, which is the first, or whether two of them are the same.
use Rattle.std.specs.Prelude.{ℕ, suc, Bool, true, false, cond, ◌&&◌, ◌||◌}
use mathlib.Core.List.{List, [], ◌∷◌, Memᴰ}

module _ {A : Type 0} where
  -- some element passes the test
  abbrev pub any_of : (A → Bool) → List A → Bool
  any_of p [] = false
  any_of p (x ∷ xs) = p x || any_of p xs

  -- every element passes the test
  abbrev pub all_of : (A → Bool) → List A → Bool
  all_of p [] = true
  all_of p (x ∷ xs) = p x && all_of p xs

  -- the place of the first element that passes the test, or their number
  abbrev pub first_with : (A → Bool) → List A → ℕ
  first_with p [] = 0
  first_with p (x ∷ xs) = cond (p x) 0 (suc (first_with p xs))

  -- some element is the same as a later one
  abbrev pub twice : (A → A → Bool) → List A → Bool
  twice same [] = false
  twice same (x ∷ xs) = any_of (same x) xs || twice same xs

  -- some element of the list has the property
  abbrev pub Some : (A → Type 0) → List A → Type 0
  Some F xs = (x : A) × Memᴰ x xs × F x
