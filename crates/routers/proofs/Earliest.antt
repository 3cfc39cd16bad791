-- Which router is the earliest, told from any router t of the list: t itself, or one ahead of it.
-- Assumes nothing.
use Rattle.std.specs.Prelude.{Some}
use mathlib.Core.Path.{◌≡◌, refl, ◌∙◌}
use mathlib.Core.Logic.{◌⊎◌, inl, inr}
use mathlib.Core.List.Memᴰ
use mathlib.Core.List.{List, [], ◌∷◌, ◌++◌, Memᴰ}
use mathlib.Core.Bool.{Bool, true, false, cond}
use Prim.Native.Nat.{ℕ, ◌<◌, ◌≤◌}
use native.Mathlib.Omega.{arith}
use lib.Dec.{ltb}
use borrow.Author.Tests.{ltb-true, ltb-false, le-leb}
use Rattle.routers.specs.declared.Router.{Router}
use Rattle.routers.specs.Routers.{earlier_of, earliest, if_due, next_of}

-- e is t, or ahead of it: before t and due no later, or behind t and due earlier
abbrev pub Ahead : Router → List Router → List Router → Router → Type 0
Ahead t front back e = (e ≡ t) ⊎ ((Memᴰ e front × (e.due ≤ t.due)) ⊎ (Memᴰ e back × (e.due < t.due)))

abbrev Behind : Router → List Router → Router → Type 0
Behind s back e = (e ≡ s) ⊎ (Memᴰ e back × (e.due < s.due))

-- e is r or s, by their due times
abbrev pub Chosen : Router → Router → Router → Type 0
Chosen r s e = ((e ≡ r) × (r.due ≤ s.due)) ⊎ ((e ≡ s) × (s.due < r.due))

pub chosen : (r s : Router) → Chosen r s (earlier_of r s)
unfolding earlier_of
chosen r s = go (ltb s.due r.due) refl
  where
    go : (t : Bool) → ltb s.due r.due ≡ t → Chosen r s (cond t s r)
    go true e = inr (refl, ltb-true _ _ e)
    go false e = inl (refl, ltb-false _ _ e)

-- the earliest of s and those behind it
behind : (s : Router) (back : List Router) → Behind s back (earliest s back)
unfolding earliest
behind s [] = inl refl
behind s (b ∷ back) = go (earlier_of s b) _ (chosen s b) (behind (earlier_of s b) back)
  where
    go : (r e : Router) → Chosen s b r → Behind r back e → Behind s (b ∷ back) e
    go r e (inl k) (inl h) = inl (h ∙ k.0)
    go r e (inl k) (inr m) = inr (Memᴰ.tail m.0, rw k.0 at m.1)
    go r e (inr k) (inl h) = inr (Memᴰ.head (h ∙ k.0), rw (h ∙ k.0) k.1)
    go r e (inr k) (inr m) = inr (Memᴰ.tail m.0, let l : e.due < b.due = rw k.0 at m.1 in omega arith)

-- the earliest of a list in which t stands behind s and the rest of the front
ahead : (s t : Router) (front back : List Router) → Ahead t (s ∷ front) back (earliest s (front ++ t ∷ back))
unfolding earliest
ahead s t [] back = go (earlier_of s t) _ (chosen s t) (behind (earlier_of s t) back)
  where
    go : (r e : Router) → Chosen s t r → Behind r back e → Ahead t (s ∷ []) back e
    go r e (inl k) (inl h) = inr (inl (Memᴰ.head (h ∙ k.0), rw (h ∙ k.0) k.1))
    go r e (inl k) (inr m) = inr (inr (m.0, let l : e.due < s.due = rw k.0 at m.1 in omega arith))
    go r e (inr k) (inl h) = inl (h ∙ k.0)
    go r e (inr k) (inr m) = inr (inr (m.0, rw k.0 at m.1))
ahead s t (f ∷ front) back = go (earlier_of s f) _ (chosen s f) (ahead (earlier_of s f) t front back)
  where
    in-front : (r e : Router) → Chosen s f r → (e ≡ r) ⊎ Memᴰ e front → Memᴰ e (s ∷ f ∷ front)
    in-front r e (inl k) (inl h) = Memᴰ.head (h ∙ k.0)
    in-front r e (inr k) (inl h) = Memᴰ.tail (Memᴰ.head (h ∙ k.0))
    in-front r e k (inr m) = Memᴰ.tail (Memᴰ.tail m)

    go : (r e : Router) → Chosen s f r → Ahead t (r ∷ front) back e → Ahead t (s ∷ f ∷ front) back e
    go r e k (inl h) = inl h
    go r e k (inr (inl m)) = inr (inl (in-front r e k (Memᴰ.cases_cons m.0), m.1))
    go r e k (inr (inr m)) = inr (inr m)

-- where t is due, an asking serves it or one ahead of it
pub next_ahead : (now : ℕ) (t : Router) (front back : List Router) → t.due ≤ now
    → (e : Router) × (next_of now (front ++ t ∷ back) ≡ Some e.address) × Ahead t front back e
unfolding next_of
next_ahead now t front back due = go front
  where
    named : (e : Router) (front : List Router) → Ahead t front back e → (d : Router) × (if_due now e ≡ Some d.address) × Ahead t front back d
    named e front (inl h) = let l : e.due ≤ now = rw h due in (e, rw (le-leb _ _ l), inl h)
    named e front (inr (inl m)) = let l : e.due ≤ now = let k = m.1 in omega arith in (e, rw (le-leb _ _ l), inr (inl m))
    named e front (inr (inr m)) = let l : e.due ≤ now = let k = m.1 in omega arith in (e, rw (le-leb _ _ l), inr (inr m))

    first : (e : Router) → Behind t back e → Ahead t [] back e
    first e (inl h) = inl h
    first e (inr m) = inr (inr m)

    go : (front : List Router) → (e : Router) × (next_of now (front ++ t ∷ back) ≡ Some e.address) × Ahead t front back e
    go [] = named _ [] (first _ (behind t back))
    go (s ∷ front) = named _ (s ∷ front) (ahead s t front back)
