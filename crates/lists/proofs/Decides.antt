-- When a test decides a fact: it passes exactly if the fact holds. Tests that are joined decide facts that are joined. Assumes nothing.
use Prim.Native.Nat.{ℕ, ◌≤◌, ◌<◌}
use mathlib.Core.Path.{◌≡◌, refl, sym, ap, ◌∙◌}
use mathlib.Core.Logic.{◌⊎◌, ⊎_elim, inl, inr}
use mathlib.Core.Bool.{Bool, true, false, not, ◌||◌, ◌&&◌, or-true, true≢false}
use mathlib.Core.List.Memᴰ
use mathlib.Core.List.{List, [], ◌∷◌}
use borrow.Author.Tests.{eqb-true, eq-eqb, leb-true, le-leb, ltb-true, lt-ltb}
use lib.Dec.{eqb, leb, ltb}
use Rattle.lists.specs.Any.{any_of, Some}
use Rattle.lists.proofs.Tests.{and_left, and_right}

pub record Decides (t : Bool) (F : Type 0) : Type 0 where
  -- where the test passes, the fact holds
  pub holds : t ≡ true → F
  -- where the fact holds, the test passes
  pub passes : F → t ≡ true

module _ {F : Type 0} where
  -- a test that fails says that the fact does not hold
  pub fails : (t : Bool) → Decides t F → t ≡ false → F → ⊥
  fails t d h f = true≢false (sym (d.passes f) ∙ h)

  -- where the fact does not hold, the test fails
  pub refutes : (t : Bool) → Decides t F → (F → ⊥) → t ≡ false
  refutes true d n = absurd (n (d.holds refl))
  refutes false d n = refl

  -- the test turned round decides that the fact does not hold
  pub decides_not : (t : Bool) → Decides t F → Decides (not t) (F → ⊥)
  decides_not true d = record { holds = λ h. absurd (true≢false (sym h)); passes = λ n. absurd (n (d.holds refl)) }
  decides_not false d = record { holds = λ h. fails false d refl; passes = λ n. refl }

  -- a test that fails exactly if the fact holds decides that it does not
  pub decides_lack : (t : Bool) → (t ≡ false → F) → (F → t ≡ false) → Decides t (F → ⊥)
  decides_lack true to from = record { holds = λ h f. true≢false (from f); passes = λ n. refl }
  decides_lack false to from = record { holds = λ h. absurd (true≢false (sym h)); passes = λ n. absurd (n (to refl)) }

  -- the test decides what is the same fact in other words
  pub decides_as : {G : Type 0} (t : Bool) → Decides t F → (F → G) → (G → F) → Decides t G
  decides_as t d to from = record { holds = λ h. to (d.holds h); passes = λ g. d.passes (from g) }

-- two numbers are the same
pub decides_eq : (a b : ℕ) → Decides (eqb a b) (a ≡ b)
decides_eq a b = record { holds = eqb-true a b; passes = eq-eqb a b }

-- one number is at most the other
pub decides_le : (a b : ℕ) → Decides (leb a b) (a ≤ b)
decides_le a b = record { holds = leb-true a b; passes = le-leb a b }

-- one number is below the other
pub decides_lt : (a b : ℕ) → Decides (ltb a b) (a < b)
decides_lt a b = record { holds = ltb-true a b; passes = lt-ltb a b }

either : (s t : Bool) → (s || t) ≡ true → (s ≡ true) ⊎ (t ≡ true)
either true t h = inl refl
either false t h = inr h

module _ {F G : Type 0} (s t : Bool) (d : Decides s F) (e : Decides t G) where
  -- one of two facts
  pub decides_or : Decides (s || t) (F ⊎ G)
  decides_or = record {
    holds = λ h. ⊎_elim (λ x. inl (d.holds x)) (λ x. inr (e.holds x)) (either s t h);
    passes = ⊎_elim (λ f. rw (d.passes f)) (λ g. rw (e.passes g) (or-true s));
  }

  -- both facts
  pub decides_and : Decides (s && t) (F × G)
  decides_and = record {
    holds = λ h. (d.holds (and_left s t h), e.holds (and_right s t h));
    passes = λ f. rw (d.passes f.0, e.passes f.1);
  }

module _ {A : Type 0} (p : A → Bool) (F : A → Type 0) (d : (x : A) → Decides (p x) (F x)) where
  some_head : (x : A) (xs : List A) → F x → Some F (x ∷ xs)
  some_head x xs f = (x, Memᴰ.head refl, f)

  some-tail : (x : A) (xs : List A) → Some F xs → Some F (x ∷ xs)
  some-tail x xs m = (m.0, Memᴰ.tail m.1, m.2)

  any_some : (xs : List A) → any_of p xs ≡ true → Some F xs
  any_some [] h = absurd (true≢false (sym h))
  any_some (x ∷ xs) h =
      ⊎_elim (λ e. some_head x xs ((d x).holds e)) (λ e. some-tail x xs (any_some xs e)) (either (p x) (any_of p xs) h)

  some-any : (xs : List A) → Some F xs → any_of p xs ≡ true
  some-any [] m = absurd (Memᴰ.not-nil m.1)
  some-any (x ∷ xs) m =
      ⊎_elim (λ e. here (ap p e)) (λ n. rw (some-any xs (m.0, n, m.2)) (or-true (p x))) (Memᴰ.cases_cons m.1)
    where
      here : p m.0 ≡ p x → (p x || any_of p xs) ≡ true
      here e = rw (← e, (d m.0).passes m.2)

  -- some element of the list
  pub decides_any : (xs : List A) → Decides (any_of p xs) (Some F xs)
  decides_any xs = record { holds = any_some xs; passes = some-any xs }
