-- The lifetimes that a reader takes from options that were written of other things. Assumes nothing.
use Prim.Native.Nat.{ℕ}
use mathlib.Core.Path.{sym, subst, ◌∙◌}
use mathlib.Core.List.Memᴰ
use mathlib.Core.List.{List, map, Memᴰ}
use Rattle.lists.specs.Any.{Some}
use Rattle.options.specs.Facts.{HasLifetime}

module _ {A : Type 0} (f : A → List ℕ) (g : A → ℕ) (xs : List A) (tells : (x : A) → Memᴰ x xs → HasLifetime (g x) (f x)) (l : ℕ) where
  -- a lifetime that the options tell is that of something that they were written of
  pub told : Some (HasLifetime l) (map f xs) → Memᴰ l (map g xs)
  told s =
      let x = Memᴰ.of_map f xs s.1 in
      let same : HasLifetime l (f x.0) = rw x.2 s.2 in
      subst (λ (k : ℕ). Memᴰ k (map g xs)) (sym (tells x.0 x.1).1 ∙ same.1) (Memᴰ.map g x.1)

  -- and the other way
  pub telling : Memᴰ l (map g xs) → Some (HasLifetime l) (map f xs)
  telling m =
      let x = Memᴰ.of_map g xs m in
      (f x.0, Memᴰ.map f x.1, subst (λ (k : ℕ). HasLifetime k (f x.0)) x.2 (tells x.0 x.1))
