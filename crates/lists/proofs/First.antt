-- The first element of a list that passes a test: after an element was changed, and of a stricter test. Assumes nothing.
use Prim.Native.Nat.{ℕ, zero, suc, ◌≤◌, ◌<◌}
use mathlib.Core.Path.{◌≡◌, refl, ap}
use mathlib.Core.Bool.{Bool, true, false, cond}
use mathlib.Core.List.{List, [], ◌∷◌}
use native.Mathlib.Omega.{arith}
use lib.ListN.{length, get_or, set}
use Rattle.lists.specs.Any.{first_with}

module _ {A : Type 0} (t : A → Bool) where
  -- it is one of them, or their number
  pub first-most : (xs : List A) → first_with t xs ≤ length xs
  first-most [] = omega arith
  first-most (x ∷ xs) = go (t x) (first-most xs)
    where
      go : (b : Bool) → first_with t xs ≤ length xs → cond b 0 (suc (first_with t xs)) ≤ suc (length xs)
      go true h = omega arith
      go false h = omega arith

  -- it passes
  pub first_passes : (xs : List A) (d : A) (k : ℕ) → first_with t xs ≡ k → k < length xs → t (get_or xs k d) ≡ true
  first_passes [] d k e h = absurd (omega arith)
  first_passes (x ∷ xs) d k e h = go (t x) refl k e h (first_passes xs d)
    where
      go : (b : Bool) → t x ≡ b → (k : ℕ) → cond b 0 (suc (first_with t xs)) ≡ k → k < suc (length xs)
          → ((k : ℕ) → first_with t xs ≡ k → k < length xs → t (get_or xs k d) ≡ true) → t (get_or (x ∷ xs) k d) ≡ true
      go true q k e h ih = rw (← e) q
      go false q zero e h ih = absurd (omega arith)
      go false q (suc k) e h ih = ih k (omega arith) (omega arith)

  -- none before it does
  pub first-before : (xs : List A) (d : A) (j : ℕ) → j < first_with t xs → t (get_or xs j d) ≡ false
  first-before [] d j h = absurd (omega arith)
  first-before (x ∷ xs) d j h = go (t x) refl j h (first-before xs d)
    where
      go : (b : Bool) → t x ≡ b → (j : ℕ) → j < cond b 0 (suc (first_with t xs)) → ((j : ℕ) → j < first_with t xs → t (get_or xs j d) ≡ false)
          → t (get_or (x ∷ xs) j d) ≡ false
      go true q j h ih = absurd (omega arith)
      go false q zero h ih = q
      go false q (suc j) h ih = ih j (omega arith)

  -- one that passes, and none before it does
  pub first-at : (xs : List A) (d : A) (k : ℕ) → k < length xs → t (get_or xs k d) ≡ true → ((j : ℕ) → j < k → t (get_or xs j d) ≡ false) → first_with t xs ≡ k
  first-at [] d k l h n = absurd (omega arith)
  first-at (x ∷ xs) d zero l h n = rw h
  first-at (x ∷ xs) d (suc k) l h n = rw (n 0 (omega arith)) (ap suc (first-at xs d k (omega arith) h (λ j i. n (suc j) (omega arith))))

  -- none passes
  pub first-none : (xs : List A) (d : A) → ((j : ℕ) → j < length xs → t (get_or xs j d) ≡ false) → first_with t xs ≡ length xs
  first-none [] d n = refl
  first-none (x ∷ xs) d n = rw (n 0 (omega arith)) (ap suc (first-none xs d (λ j i. n (suc j) (omega arith))))

  -- another element was changed, to one that does not pass
  pub first-other : (xs : List A) (j k : ℕ) (a : A) → first_with t xs ≡ k → (j ≡ k → ⊥) → t a ≡ false → first_with t (set xs j a) ≡ k
  first-other [] j k a e n h = e
  first-other (x ∷ xs) zero k a e n h = rw h (go (t x) e)
    where
      go : (b : Bool) → cond b 0 (suc (first_with t xs)) ≡ k → suc (first_with t xs) ≡ k
      go true e = absurd (n e)
      go false e = e
  first-other (x ∷ xs) (suc j) k a e n h = go (t x) k e n (first-other xs j)
    where
      go : (b : Bool) (k : ℕ) → cond b 0 (suc (first_with t xs)) ≡ k → (suc j ≡ k → ⊥)
          → ((k : ℕ) (a : A) → first_with t xs ≡ k → (j ≡ k → ⊥) → t a ≡ false → first_with t (set xs j a) ≡ k)
          → cond b 0 (suc (first_with t (set xs j a))) ≡ k
      go true k e n ih = e
      go false zero e n ih = absurd (omega arith)
      go false (suc k) e n ih = ap suc (ih k a (omega arith) (λ m. n (ap suc m)) h)

  -- an element was changed, to one that passes, and none before it does
  pub first-here : (xs : List A) (k : ℕ) (a : A) → k < length xs → k ≤ first_with t xs → t a ≡ true → first_with t (set xs k a) ≡ k
  first-here [] k a l h p = absurd (omega arith)
  first-here (x ∷ xs) zero a l h p = rw p
  first-here (x ∷ xs) (suc k) a l h p = go (t x) h (λ m. first-here xs k a (omega arith) m p)
    where
      go : (b : Bool) → suc k ≤ cond b 0 (suc (first_with t xs)) → (k ≤ first_with t xs → first_with t (set xs k a) ≡ k)
          → cond b 0 (suc (first_with t (set xs k a))) ≡ suc k
      go true h ih = absurd (omega arith)
      go false h ih = ap suc (ih (omega arith))

-- of a stricter test: the first that passed, if it still does
pub first-later : {A : Type 0} (t u : A → Bool) → ((a : A) → u a ≡ true → t a ≡ true) → (xs : List A) (d : A) (k : ℕ)
    → first_with t xs ≡ k → k < length xs → u (get_or xs k d) ≡ true → first_with u xs ≡ k
first-later t u s [] d k e l h = absurd (omega arith)
first-later t u s (x ∷ xs) d k e l h = go (t x) refl (u x) refl k e l h (first-later t u s xs d)
  where
    go : (b : Bool) → t x ≡ b → (v : Bool) → u x ≡ v → (k : ℕ) → cond b 0 (suc (first_with t xs)) ≡ k → k < suc (length xs) → u (get_or (x ∷ xs) k d) ≡ true
        → ((k : ℕ) → first_with t xs ≡ k → k < length xs → u (get_or xs k d) ≡ true → first_with u xs ≡ k) → cond v 0 (suc (first_with u xs)) ≡ k
    go true q true r k e l h ih = e
    go true q false r k e l h ih = let z : u x ≡ true = rw (← e) at h in cc
    go false q true r k e l h ih = let z : t x ≡ true = s x r in cc
    go false q false r zero e l h ih = absurd (omega arith)
    go false q false r (suc k) e l h ih = ap suc (ih k (omega arith) (omega arith) h)
