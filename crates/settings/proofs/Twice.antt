-- A chain over the elements with their places, each asked of those behind it. Assumes nothing.
use Prim.Native.Nat.{ℕ, ◌+◌}
use mathlib.Core.Path.{◌≡◌, refl, ap, ◌∙◌}
use mathlib.Core.Bool.{Bool, ◌||◌}
use mathlib.Core.List.{List, [], ◌∷◌}
use native.Mathlib.Numerals.{add-one}
use lib.ListN.{drop}
use lib.Seq.{drop-drop}
use Rattle.std.specs.List.{list_any, enumerate_from}
use Rattle.lists.specs.Any.{any_of, twice}

module _ {A : Type 0} (same : A → A → Bool) (all : List A) where
  -- the element of the pair is the same as one behind its place
  abbrev pub later_same : ℕ × A → Bool
  later_same p = any_of (same p.1) (drop (p.0 + 1) all)

  pub any-later_same : (i : ℕ) (xs : List A) → drop i all ≡ xs → list_any later_same (enumerate_from i xs) ≡ twice same xs
  any-later_same i [] h = refl
  any-later_same i (x ∷ xs) h =
      let behind : drop (i + 1) all ≡ xs = rw (← drop-drop 1 i all, h) in
      rw behind (ap (λ b. any_of (same x) xs || b) (any-later_same (i + 1) xs behind))
