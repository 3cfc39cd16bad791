-- The least of lifetimes is one of them, and none is less.
-- Assumes nothing.
use mathlib.Core.Path.{◌≡◌, refl}
use mathlib.Core.Logic.{◌⊎◌, inl, inr}
use mathlib.Core.List.Memᴰ
use mathlib.Core.List.{List, [], ◌∷◌, Memᴰ}
use Prim.Native.Nat.{ℕ, ◌≤◌, min}
use native.Mathlib.Decide.{dec_le}
use native.Mathlib.Omega.{arith}
use Rattle.options.specs.Lifetimes.{least_of}

pub least-among : (l : ℕ) (ls : List ℕ) → Memᴰ (least_of l ls) (l ∷ ls)
unfolding least_of
least-among l [] = Memᴰ.head refl
least-among l (k ∷ ks) = go (least_of (min l k) ks) (dec_le l k) (Memᴰ.cases_cons (least-among (min l k) ks))
  where
    go : (e : ℕ) → Dec (l ≤ k) → (e ≡ min l k) ⊎ Memᴰ e ks → Memᴰ e (l ∷ k ∷ ks)
    go e (yes h) (inl is) = let same : e ≡ l = omega arith in Memᴰ.head same
    go e (no h) (inl is) = let same : e ≡ k = omega arith in Memᴰ.tail (Memᴰ.head same)
    go e d (inr m) = Memᴰ.tail (Memᴰ.tail m)

least_first : (l : ℕ) (ls : List ℕ) → least_of l ls ≤ l
unfolding least_of
least_first l [] = omega arith
least_first l (k ∷ ks) = omega (arith, least_first (min l k) ks)

pub least-least : (l : ℕ) (ls : List ℕ) (x : ℕ) → Memᴰ x (l ∷ ls) → least_of l ls ≤ x
unfolding least_of
least-least l [] x m = omega (arith, Memᴰ.eq_of_singleton m)
least-least l (k ∷ ks) x m = go (least_first (min l k) ks) (λ n. least-least (min l k) ks x (Memᴰ.tail n)) (Memᴰ.cases_cons m)
  where
    behind : least_of (min l k) ks ≤ min l k → (Memᴰ x ks → least_of (min l k) ks ≤ x) → (x ≡ k) ⊎ Memᴰ x ks → least_of (min l k) ks ≤ x
    behind first later (inl e) = omega arith
    behind first later (inr n) = later n

    go : least_of (min l k) ks ≤ min l k → (Memᴰ x ks → least_of (min l k) ks ≤ x) → (x ≡ l) ⊎ Memᴰ x (k ∷ ks) → least_of (min l k) ks ≤ x
    go first later (inl e) = omega arith
    go first later (inr n) = behind first later (Memᴰ.cases_cons n)
