-- How a loop finds out whether some element of a list passes a test, or two elements of it are the same; and whether all do, or
-- some, of two lists one behind the other and of a list of equal elements. Assumes nothing.
use Prim.Native.Nat.{ℕ, zero, suc, ◌+◌, ◌≤◌, ◌<◌, min}
use mathlib.Core.Path.{◌≡◌, refl, sym, ap, ◌∙◌}
use mathlib.Core.Bool.{Bool, true, false, ◌||◌, ◌&&◌, or_assoc, or-false, and_assoc, and-true}
use mathlib.Core.List.{List, [], ◌∷◌, ◌++◌}
use native.Mathlib.Omega.{arith}
use native.Mathlib.Numerals.{add-one}
use lib.ListN.{length, get_or, take, drop, replicate, length-take, drop_of_length-le}
use Rattle.lists.specs.Any.{any_of, all_of, twice}
use Rattle.lists.proofs.Parts.{take-least}
use lib.Seq.{drop-cons, get_or-take, length-take-le}

module _ {A : Type 0} where
  -- behind the first n elements there is none
  pub front-end : (xs : List A) (n i : ℕ) → n ≤ i → drop i (take n xs) ≡ []
  front-end xs n i h = drop_of_length-le (take n xs) {i = i} (rw length-take (omega arith))

  -- where a loop ends that asks the first `count` elements of xs from `start` on: what it found is what there is
  pub loop-end : (f : List A → Bool) (xs : List A) (start n i count : ℕ) (found : Bool) → f [] ≡ false → n ≤ i → n ≡ min count (length xs)
      → (found || f (drop i (take n xs))) ≡ f (drop start (take n xs)) → found ≡ f (drop start (take count xs))
  loop-end f xs start n i count found none h e inv =
      let done : (found || f []) ≡ f (drop start (take n xs)) = rw (front-end xs n i h) at inv in
      let kept : (found || false) ≡ f (drop start (take n xs)) = rw none at done in
      sym (or-false found) ∙ kept ∙ rw (e, take-least count xs)

  module _ (xs : List A) (n i : ℕ) (d : A) (inside : i < n) (whole : n ≤ length xs) where
    -- the first n elements from i on: the one at i, and those behind it
    pub front_from : drop i (take n xs) ≡ get_or xs i d ∷ drop (i + 1) (take n xs)
    front_from =
        let l : length (take n xs) ≡ n = length-take-le n xs whole in
        rw (add-one, ← get_or-take n xs i d inside) (drop-cons (take n xs) i d (omega arith))

    -- a turn of a loop that asks one element after another
    pub any_turn : (p : A → Bool) (found : Bool)
        → (found || p (get_or xs i d) || any_of p (drop (i + 1) (take n xs))) ≡ (found || any_of p (drop i (take n xs)))
    any_turn p found =
        or_assoc found (p (get_or xs i d)) (any_of p (drop (i + 1) (take n xs))) ∙ ap (λ (l : List A). found || any_of p l) (sym front_from)

    -- a turn of a loop that leaves at the first element that passes: this one passes, or what is left to ask is behind it
    pub any_here : (p : A → Bool) → p (get_or xs i d) ≡ true → any_of p (drop i (take n xs)) ≡ true
    any_here p h = rw (front_from, h)

    pub any-later : (p : A → Bool) → p (get_or xs i d) ≡ false → any_of p (drop i (take n xs)) ≡ any_of p (drop (i + 1) (take n xs))
    any-later p h = rw (front_from, h)

    -- a turn of a loop that asks whether some element is the same as a later one
    pub twice_turn : (same : A → A → Bool) (found : Bool)
        → (found || any_of (same (get_or xs i d)) (drop (i + 1) (take n xs)) || twice same (drop (i + 1) (take n xs)))
        ≡ (found || twice same (drop i (take n xs)))
    twice_turn same found =
        or_assoc found (any_of (same (get_or xs i d)) (drop (i + 1) (take n xs))) (twice same (drop (i + 1) (take n xs)))
        ∙ ap (λ (l : List A). found || twice same l) (sym front_from)

or_same : (b : Bool) → (b || b) ≡ b
or_same true = refl
or_same false = refl

and_same : (b : Bool) → (b && b) ≡ b
and_same true = refl
and_same false = refl

module _ {A : Type 0} (p : A → Bool) where
  -- all of two lists one behind the other
  pub all_append : (xs ys : List A) → all_of p (xs ++ ys) ≡ (all_of p xs && all_of p ys)
  all_append [] ys = refl
  all_append (x ∷ xs) ys = rw (all_append xs ys) (sym (and_assoc (p x) (all_of p xs) (all_of p ys)))

  -- some of equal elements, of which there is one at least
  pub any-replicate : (a : A) (n : ℕ) → 0 < n → any_of p (replicate n a) ≡ p a
  any-replicate a zero h = absurd (omega arith)
  any-replicate a (suc zero) h = or-false (p a)
  any-replicate a (suc (suc n)) h = rw (any-replicate a (suc n) (omega arith)) (or_same (p a))

  -- all of them
  pub all_replicate : (a : A) (n : ℕ) → 0 < n → all_of p (replicate n a) ≡ p a
  all_replicate a zero h = absurd (omega arith)
  all_replicate a (suc zero) h = and-true (p a)
  all_replicate a (suc (suc n)) h = rw (all_replicate a (suc n) (omega arith)) (and_same (p a))
