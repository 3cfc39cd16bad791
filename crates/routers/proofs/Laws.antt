-- One turn of a loop over the first n elements of xs: what a definition says of those from place i on, by the one at i and those from i + 1 on.
-- Assumes nothing.
use mathlib.Core.Path.{◌≡◌, refl, ap, ◌∙◌}
use mathlib.Core.List.{List, [], ◌∷◌, ◌++◌, map, append-nil}
use mathlib.Core.Bool.{Bool, not, ◌&&◌, ◌||◌, or_assoc, and_assoc}
use Prim.Native.Nat.{ℕ, zero, suc, ◌+◌, ◌<◌, ◌≤◌, min}
use native.Mathlib.Numerals.{add-one}
use native.Mathlib.Nat.{le_of_suc-le-suc, not-suc-le-zero}
use native.Mathlib.Omega.{arith}
use lib.ListN.{length, get_or, take, drop, set, length-take, drop_of_length-le}
use lib.Seq.{drop-cons, get_or-take, take_all}
use Rattle.lists.specs.Any.{any_of}
use borrow.Author.Tests.{eq-eqb, ne_eqb}
use Rattle.routers.specs.declared.Router.{Router}
use Rattle.routers.specs.Facts.{no_router}
use Rattle.routers.specs.Routers.{pairs, held_in, due_or, among, are_distinct}
use Rattle.routers.proofs.Rows.{held-length, pair-at}

module _ {A : Type 0} (n i : ℕ) (xs : List A) where
  pub past : length (take n xs) ≤ i → drop i (take n xs) ≡ []
  past h = drop_of_length-le (take n xs) h

  pub rest : (z : A) → i < length (take n xs) → drop i (take n xs) ≡ get_or xs i z ∷ drop (i + 1) (take n xs)
  rest z h =
      let below : i < n = omega (arith, length-take n xs) in
      rw (add-one, drop-cons (take n xs) i z, get_or-take)

  pub any_step : (z : A) → i < length (take n xs) → (p : A → Bool) (found : Bool)
      → (found || any_of p (drop i (take n xs))) ≡ (found || p (get_or xs i z) || any_of p (drop (i + 1) (take n xs)))
  any_step z h p found = rw (rest z h, or_assoc)

-- of the routers that two rows hold in their first n places
module _ (n i : ℕ) (bs ds : List ℕ) where
  pub held-past : min n (min (length bs) (length ds)) ≤ i → drop i (held_in bs ds n) ≡ []
  held-past h = past n i (pairs bs ds) (omega (arith, held-length n bs ds))

  module _ (within : i < min n (min (length bs) (length ds))) where
    abbrev here : Router
    here = record { address = get_or bs i 0; due = get_or ds i 0 }

    pub held_rest : drop i (held_in bs ds n) ≡ here ∷ drop (i + 1) (held_in bs ds n)
    held_rest =
        let at : get_or (pairs bs ds) i no_router ≡ here = pair-at i bs ds (omega arith) (omega arith) in
        rest n i (pairs bs ds) no_router (omega (arith, held-length n bs ds)) ∙ rw at

    pub due-here : (d a : ℕ) → get_or bs i 0 ≡ a → due_or d a (drop i (held_in bs ds n)) ≡ get_or ds i 0
    unfolding due_or
    due-here d a e = rw (held_rest, eq-eqb _ _ e)

    pub due-later : (d a : ℕ) → (get_or bs i 0 ≡ a → ⊥) → due_or d a (drop i (held_in bs ds n)) ≡ due_or d a (drop (i + 1) (held_in bs ds n))
    unfolding due_or
    due-later d a e = rw (held_rest, ne_eqb _ _ e)

pub distinct_step : (n i : ℕ) (xs : List ℕ) → i < length (take n xs) → (so_far : Bool)
    → (so_far && are_distinct (drop i (take n xs)))
    ≡ (so_far && not (among (get_or xs i 0) (drop (i + 1) (take n xs))) && are_distinct (drop (i + 1) (take n xs)))
unfolding are_distinct
distinct_step n i xs h so_far = rw (rest n i xs 0 h, and_assoc)

-- a loop that stores f of each element of xs, one a turn
module _ {A B : Type 0} (f : A → B) (xs : List A) (rs : List B) (i : ℕ) where
  pub fill : (z : A) → i < length xs → i < length rs
      → set (map f (take i xs) ++ drop i rs) i (f (get_or xs i z)) ≡ map f (take (i + 1) xs) ++ drop (i + 1) rs
  fill z h k = rw (add-one, go xs rs i h k)
    where
      go : (xs : List A) (rs : List B) (i : ℕ) → i < length xs → i < length rs
          → set (map f (take i xs) ++ drop i rs) i (f (get_or xs i z)) ≡ map f (take (suc i) xs) ++ drop (suc i) rs
      go [] rs i h k = absurd (not-suc-le-zero h)
      go (a ∷ xs) [] i h k = absurd (not-suc-le-zero k)
      go (a ∷ xs) (r ∷ rs) zero h k = refl
      go (a ∷ xs) (r ∷ rs) (suc i) h k = ap (λ (q : List B). f a ∷ q) (go xs rs i (le_of_suc-le-suc h) (le_of_suc-le-suc k))

  pub filled : length xs ≤ i → length rs ≤ i → map f (take i xs) ++ drop i rs ≡ map f xs
  filled h k = rw (take_all i xs h, drop_of_length-le rs k, append-nil)
