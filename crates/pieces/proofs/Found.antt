-- What the library says of a search and of a comparison, in the words of the definitions. Assumes nothing.
use Prim.Native.Nat.{ℕ, zero, suc, ◌+◌, ◌≤◌, ◌<◌}
use mathlib.Core.Path.{◌≡◌, refl, sym, ◌∙◌}
use mathlib.Core.Bool.{Bool, true, false, cond, not}
use mathlib.Core.List.{List, [], ◌∷◌}
use native.Mathlib.Omega.{arith}
use borrow.Author.Tests.{ltb-true, ltb-false}
use lib.Dec.{eqb, ltb}
use lib.ListN.{length, get_or}
use Rattle.std.specs.Prelude.{Some, None, position}
use Rattle.std.specs.List.{position_or_len}
use Rattle.std.specs.Cmp.Lexicographic.{pointwise}
use Rattle.std.proofs.lemmas.Bool.Decides.{nat_tests}
use Rattle.lists.specs.Any.{first_with}
use Rattle.pieces.specs.Places.{is_equal}
use Rattle.pieces.specs.declared.Place.{Place}

module _ {A : Type 0} (t : A → Bool) where
  -- the first element that passes, or their number
  first_place : (xs : List A) → position_or_len t xs ≡ first_with t xs
  first_place [] = refl
  first_place (x ∷ xs) =
      elim (t x) as (λ v. cond (not v) (1 + position_or_len t xs) 0 ≡ cond v 0 (suc (first_with t xs))) [
        | true ↦ refl
        | false ↦ omega (arith, first_place xs)
      ]

  module _ (xs : List A) where
    -- some element passes
    pub found : (k : ℕ) → position t xs ≡ Some k → (k ≡ first_with t xs) × (k < length xs)
    found k h = go (ltb (position_or_len t xs) (length xs)) refl h
      where
        go : (b : Bool) → ltb (position_or_len t xs) (length xs) ≡ b → cond b (Some (position_or_len t xs)) None ≡ Some k
            → (k ≡ first_with t xs) × (k < length xs)
        go true e h =
            let p : position_or_len t xs ≡ k = cc in
            (sym p ∙ first_place xs, omega (arith, p, ltb-true (position_or_len t xs) (length xs) e))
        go false e h = absurd cc

    -- none does
    pub found-none : position t xs ≡ None → length xs ≤ first_with t xs
    found-none h = go (ltb (position_or_len t xs) (length xs)) refl h
      where
        go : (b : Bool) → ltb (position_or_len t xs) (length xs) ≡ b → cond b (Some (position_or_len t xs)) None ≡ None
            → length xs ≤ first_with t xs
        go true e h = absurd cc
        go false e h = omega (arith, first_place xs, ltb-false (position_or_len t xs) (length xs) e)

-- what the code reads past the end of the places; it never does
abbrev pub blank : Place
blank = record {
  used = 0;
  key = record { source = 0; destination = 0; protocol = 0; identification = 0 };
  first = 0;
  end = 0;
  reach = 0;
  held = record { words = [] };
}

-- within a list it is the same what stands past its end
pub read_within : {A : Type 0} (xs : List A) (i : ℕ) (d e : A) → i < length xs → get_or xs i d ≡ get_or xs i e
read_within [] i d e h = absurd (omega arith)
read_within (x ∷ xs) zero d e h = refl
read_within (x ∷ xs) (suc i) d e h = read_within xs i d e (omega arith)

eqb-swapped : (x y : ℕ) → eqb y x ≡ eqb x y
eqb-swapped x y = grind (arith, nat_tests)

-- bytes that begin with others are those, where they are no more
pub starts-equal : (xs ys : List ℕ) → pointwise eqb ys xs ≡ is_equal xs ys
starts-equal [] [] = refl
starts-equal [] (y ∷ ys) = refl
starts-equal (x ∷ xs) [] = refl
starts-equal (x ∷ xs) (y ∷ ys) = rw (eqb-swapped x y, starts-equal xs ys)
