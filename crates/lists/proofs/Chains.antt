-- The library's word for some element of a list that passes a test says the same as ours. Assumes nothing.
use mathlib.Core.Path.{◌≡◌, refl, ap}
use mathlib.Core.Bool.{Bool, ◌||◌}
use mathlib.Core.List.{List, [], ◌∷◌}
use Rattle.std.specs.List.{list_any}
use Rattle.lists.specs.Any.{any_of}

pub list-any : {A : Type 0} (p : A → Bool) (xs : List A) → list_any p xs ≡ any_of p xs
list-any p [] = refl
list-any p (x ∷ xs) = ap (λ b. p x || b) (list-any p xs)
