-- Laws of facts that hold of all elements of a list, of one of them, or of each and the next. Assumes nothing.
use mathlib.Core.Logic.{inl, inr}
use mathlib.Core.List.{List, [], ◌∷◌, ◌++◌}
use Rattle.comparing.specs.Facts.{Each, OneOf, Chained}

module _ {A : Type 0} where
  pub each_append : (F : A → Type 0) (xs ys : List A) → Each F xs → Each F ys → Each F (xs ++ ys)
  each_append F [] ys e f = f
  each_append F (x ∷ xs) ys e f = (e.0, each_append F xs ys e.1 f)

  pub each_as : (F G : A → Type 0) → ((x : A) → F x → G x) → (xs : List A) → Each F xs → Each G xs
  each_as F G to [] e = tt
  each_as F G to (x ∷ xs) e = (to x e.0, each_as F G to xs e.1)

  pub one_left : (F : A → Type 0) (xs ys : List A) → OneOf F xs → OneOf F (xs ++ ys)
  one_left F [] ys o = absurd o
  one_left F (x ∷ xs) ys (inl f) = inl f
  one_left F (x ∷ xs) ys (inr o) = inr (one_left F xs ys o)

  pub one_right : (F : A → Type 0) (xs ys : List A) → OneOf F ys → OneOf F (xs ++ ys)
  one_right F [] ys o = o
  one_right F (x ∷ xs) ys o = inr (one_right F xs ys o)

  pub one_as : (F G : A → Type 0) → ((x : A) → F x → G x) → (xs : List A) → OneOf F xs → OneOf G xs
  one_as F G to [] o = absurd o
  one_as F G to (x ∷ xs) (inl f) = inl (to x f)
  one_as F G to (x ∷ xs) (inr o) = inr (one_as F G to xs o)

  -- two rows one behind the other, where each element of the second may follow each of the first
  pub chained_append : (R : A → A → Type 0) (P Q : A → Type 0) → ((x y : A) → P x → Q y → R x y) → (xs ys : List A) → Each P xs → Each Q ys → Chained R xs → Chained R ys → Chained R (xs ++ ys)
  chained_append R P Q to [] ys p q c d = d
  chained_append R P Q to (x ∷ []) [] p q c d = tt
  chained_append R P Q to (x ∷ []) (y ∷ ys) p q c d = (to x y p.0 q.0, d)
  chained_append R P Q to (x ∷ (x₁ ∷ xs)) ys p q c d = (c.0, chained_append R P Q to (x₁ ∷ xs) ys p.1 q c.1 d)
