-- The router that is asked is the one of the facts; and what a due time that is set leaves. Assumes nothing.
use Rattle.std.specs.Prelude.{Some, None}
use Prim.Native.Nat.{ℕ, zero, suc, ◌<◌, ◌≤◌}
use mathlib.Core.Path.{◌≡◌, refl, sym, ap, subst, ◌∙◌}
use mathlib.Core.Logic.{◌⊎◌, inl, inr}
use mathlib.Core.List.Memᴰ
use mathlib.Core.List.{List, [], ◌∷◌, ◌++◌, Memᴰ}
use mathlib.Core.Bool.{Bool, true, false, cond}
use native.Mathlib.Nat.{not-suc-le-zero, le_of_suc-le-suc}
use native.Mathlib.Omega.{arith}
use lib.ListN.{length, get_or, length-map}
use lib.Dec.{leb}
use borrow.Author.Tests.{lt-ltb, le-ltb, le-leb, lt-leb, leb-true, leb-false, eq-eqb, ne_eqb}
use Rattle.routers.specs.declared.Router.{Router}
use Rattle.routers.specs.declared.RouterList.{RouterList}
use Rattle.routers.specs.Routers.{places_of, earlier_of, earliest, if_due, next_of, due_if, rescheduled, rescheduled_of}
use Rattle.routers.specs.Facts.{EarliestDue, NoneIsDue, no_router, OnlyDue}
use Rattle.routers.proofs.Rows.{pairs-rescheduled}
use Rattle.routers.proofs.Earliest.{Chosen, chosen}

-- where a router stands that is due before those at lower places, and no later than those at higher ones
record Stands (rs : List Router) (e : Router) : Type 0 where
  pub front : List Router
  pub back : List Router
  pub stands : rs ≡ front ++ e ∷ back
  pub lower : (r : Router) → Memᴰ r front → e.due < r.due
  pub higher : (r : Router) → Memᴰ r back → e.due ≤ r.due

none_in : (P : Router → Type 0) (r : Router) → Memᴰ r [] → P r
none_in P r m = absurd (Memᴰ.not-nil m)

one_more : (P : Router → Type 0) (s : Router) (rs : List Router) → P s → ((r : Router) → Memᴰ r rs → P r) → (r : Router) → Memᴰ r (s ∷ rs) → P r
one_more P s rs here later r m = go (Memᴰ.cases_cons m)
  where
    go : (r ≡ s) ⊎ Memᴰ r rs → P r
    go (inl e) = rw e here
    go (inr n) = later r n

-- s stands ahead of e, which is the first of the others
before : (s e : Router) (rs : List Router) → e.due < s.due → Stands rs e → Stands (s ∷ rs) e
before s e rs l w = record {
  front = s ∷ w.front;
  back = w.back;
  stands = ap (λ (q : List Router). s ∷ q) w.stands;
  lower = one_more (λ r. e.due < r.due) s w.front l w.lower;
  higher = w.higher;
}

-- s stands second, and is due no earlier than the router before it
second : (r s e : Router) (rs : List Router) → r.due ≤ s.due → Stands (r ∷ rs) e → Stands (r ∷ s ∷ rs) e
second r s e rs l w = go w.front w.back w.stands w.lower w.higher
  where
    go : (front back : List Router) → r ∷ rs ≡ front ++ e ∷ back → ((x : Router) → Memᴰ x front → e.due < x.due) → ((x : Router) → Memᴰ x back → e.due ≤ x.due)
        → Stands (r ∷ s ∷ rs) e
    go [] back h lower higher =
        let same : r ≡ e = cc in
        let rest : rs ≡ back = cc in
        let late : e.due ≤ s.due = rw (← same) l in
        record { front = []; back = s ∷ back; stands = rw (same, rest); lower = none_in (λ x. e.due < x.due); higher = one_more (λ x. e.due ≤ x.due) s back late higher }
    go (f ∷ front) back h lower higher =
        let same : r ≡ f = cc in
        let rest : rs ≡ front ++ e ∷ back = cc in
        let first : e.due < f.due = lower f (Memᴰ.head refl) in
        let late : r.due ≡ f.due = ap (λ (x : Router). x.due) same in
        record {
          front = f ∷ s ∷ front;
          back = back;
          stands = rw (same, rest);
          lower = one_more (λ x. e.due < x.due) f (s ∷ front) first (one_more (λ x. e.due < x.due) s front (omega arith) (λ x m. lower x (Memᴰ.tail m)));
          higher = higher;
        }

earliest-stands : (r : Router) (rs : List Router) → Stands (r ∷ rs) (earliest r rs)
unfolding earliest
earliest-stands r [] = record { front = []; back = []; stands = refl; lower = none_in (λ x. r.due < x.due); higher = none_in (λ x. r.due ≤ x.due) }
earliest-stands r (s ∷ rs) = go (earlier_of r s) (chosen r s) (earliest-stands (earlier_of r s) rs)
  where
    first : (e : Router) → Stands (s ∷ rs) e → e.due ≤ s.due
    first e w = at w.front w.stands w.lower
      where
        at : (front : List Router) → s ∷ rs ≡ front ++ e ∷ w.back → ((x : Router) → Memᴰ x front → e.due < x.due) → e.due ≤ s.due
        at [] h lower = let same : s ≡ e = cc in omega (arith, ap (λ (x : Router). x.due) same)
        at (f ∷ front) h lower = let same : s ≡ f = cc in omega (arith, lower f (Memᴰ.head refl), ap (λ (x : Router). x.due) same)

    go : (c : Router) → Chosen r s c → Stands (c ∷ rs) (earliest c rs) → Stands (r ∷ s ∷ rs) (earliest c rs)
    go c (inl k) w = let v : Stands (r ∷ rs) (earliest c rs) = rw (← k.0) w in second r s (earliest c rs) rs k.1 v
    go c (inr k) w =
        let v : Stands (s ∷ rs) (earliest c rs) = rw (← k.0) w in
        before r (earliest c rs) (s ∷ rs) (omega (arith, k.1, first (earliest c rs) v)) v

-- a router with no earlier one behind it is the earliest
stands-kept : (e : Router) (back : List Router) → ((r : Router) → Memᴰ r back → e.due ≤ r.due) → earliest e back ≡ e
unfolding earliest earlier_of
stands-kept e [] higher = refl
stands-kept e (b ∷ back) higher =
    rw (le-ltb b.due e.due (higher b (Memᴰ.head refl))) (stands-kept e back (λ r m. higher r (Memᴰ.tail m)))

taken : (s e : Router) → e.due < s.due → earlier_of s e ≡ e
unfolding earlier_of
taken s e l = rw (lt-ltb e.due s.due l)

stands-earliest : (s e : Router) (front back : List Router) → ((r : Router) → Memᴰ r (s ∷ front) → e.due < r.due)
    → ((r : Router) → Memᴰ r back → e.due ≤ r.due) → earliest s (front ++ e ∷ back) ≡ e
unfolding earliest
stands-earliest s e [] back lower higher = ap (λ (r : Router). earliest r back) (taken s e (lower s (Memᴰ.head refl))) ∙ stands-kept e back higher
stands-earliest s e (f ∷ front) back lower higher = stands-earliest (earlier_of s f) e front back ahead higher
  where
    of : (c : Router) → Chosen s f c → (r : Router) → (r ≡ c) ⊎ Memᴰ r front → e.due < r.due
    of c (inl k) r (inl h) = rw (h ∙ k.0) (lower s (Memᴰ.head refl))
    of c (inr k) r (inl h) = rw (h ∙ k.0) (lower f (Memᴰ.tail (Memᴰ.head refl)))
    of c k r (inr m) = lower r (Memᴰ.tail (Memᴰ.tail m))

    ahead : (r : Router) → Memᴰ r (earlier_of s f ∷ front) → e.due < r.due
    ahead r m = of (earlier_of s f) (chosen s f) r (Memᴰ.cases_cons m)

-- the router that is asked is due, and the earliest
pub earliest-due : (now a : ℕ) (rs : List Router) → next_of now rs ≡ Some a → EarliestDue now rs a
unfolding next_of
earliest-due now a [] h = let z : ◌≡◌ {A = ℕ} 0 1 = cc in absurd (omega arith)
earliest-due now a (r ∷ rs) h = go (leb (earliest r rs).due now) refl h
  where
    go : (t : Bool) → leb (earliest r rs).due now ≡ t → cond t (Some (earliest r rs).address) None ≡ Some a → EarliestDue now (r ∷ rs) a
    go true e h =
        let w = earliest-stands r rs in
        record { front = w.front; router = earliest r rs; back = w.back; stands = w.stands; address = cc; due = leb-true _ _ e; lower = w.lower; higher = w.higher }
    go false e h = let z : ◌≡◌ {A = ℕ} 0 1 = cc in absurd (omega arith)

pub due-earliest : (now a : ℕ) (rs : List Router) → EarliestDue now rs a → next_of now rs ≡ Some a
unfolding next_of
due-earliest now a rs d = rw d.stands (go d.front d.lower)
  where
    named : if_due now d.router ≡ Some a
    named = rw (le-leb d.router.due now d.due, d.address)

    go : (front : List Router) → ((r : Router) → Memᴰ r front → d.router.due < r.due) → next_of now (front ++ d.router ∷ d.back) ≡ Some a
    go [] lower = ap (if_due now) (stands-kept d.router d.back d.higher) ∙ named
    go (s ∷ front) lower = ap (if_due now) (stands-earliest s d.router front d.back lower d.higher) ∙ named

-- no router is due before the one that stands so, and that one is in the list
stands-least : (rs : List Router) (e : Router) → Stands rs e → (r : Router) → Memᴰ r rs → e.due ≤ r.due
stands-least rs e w r m = go (Memᴰ.append_cases w.front (subst (Memᴰ r) w.stands m))
  where
    here : (r ≡ e) ⊎ Memᴰ r w.back → e.due ≤ r.due
    here (inl h) = omega (arith, ap (λ (x : Router). x.due) h)
    here (inr n) = w.higher r n

    go : Memᴰ r w.front ⊎ Memᴰ r (e ∷ w.back) → e.due ≤ r.due
    go (inl n) = omega (arith, w.lower r n)
    go (inr n) = here (Memᴰ.cases_cons n)

stands_in : (rs : List Router) (e : Router) → Stands rs e → Memᴰ e rs
stands_in rs e w = subst (Memᴰ e) (sym w.stands) (Memᴰ.append_right w.front (Memᴰ.head refl))

-- 22: no router is due
pub none-due : (now : ℕ) (rs : List Router) → next_of now rs ≡ None → NoneIsDue now rs
unfolding next_of
none-due now [] h x m = absurd (Memᴰ.not-nil m)
none-due now (r ∷ rs) h x m = go (leb (earliest r rs).due now) refl h
  where
    go : (t : Bool) → leb (earliest r rs).due now ≡ t → cond t (Some (earliest r rs).address) None ≡ None → now < x.due
    go true e h = let z : ◌≡◌ {A = ℕ} 0 1 = cc in absurd (omega arith)
    go false e h = omega (arith, leb-false (earliest r rs).due now e, stands-least (r ∷ rs) (earliest r rs) (earliest-stands r rs) x m)

pub due-none : (now : ℕ) (rs : List Router) → NoneIsDue now rs → next_of now rs ≡ None
unfolding next_of
due-none now [] n = refl
due-none now (r ∷ rs) n = rw (lt-leb (earliest r rs).due now (n (earliest r rs) (stands_in (r ∷ rs) (earliest r rs) (earliest-stands r rs))))

-- a due time that is set changes nothing else
entry : (a d k : ℕ) (rs : List Router) → k < length rs → get_or (rescheduled a d rs) k no_router ≡ due_if a d (get_or rs k no_router)
entry a d k [] h = absurd (not-suc-le-zero h)
entry a d zero (r ∷ rs) h = refl
entry a d (suc k) (r ∷ rs) h = entry a d k rs (le_of_suc-le-suc h)

-- an entry, which past the end is none in both lists
entry_or-none : (a d k : ℕ) (rs : List Router)
    → (get_or (rescheduled a d rs) k no_router ≡ due_if a d (get_or rs k no_router)) ⊎ (get_or (rescheduled a d rs) k no_router ≡ get_or rs k no_router)
entry_or-none a d k [] = inr refl
entry_or-none a d zero (r ∷ rs) = inl refl
entry_or-none a d (suc k) (r ∷ rs) = entry_or-none a d k rs

pub only_due : (l : RouterList) (a d : ℕ) → OnlyDue l a d (rescheduled_of a d l)
unfolding due_if
only_due l a d = record {
  count = refl;
  places = rw again (length-map (places_of l) (due_if a d));
  addresses = λ k. rw again (same_address k (entry_or-none a d k (places_of l)));
  due = λ k h e. rw again (ap (λ (r : Router). r.due) (entry a d k (places_of l) h) ∙ rw (eq-eqb _ a e));
  others = λ k n. rw again (same-due k n (entry_or-none a d k (places_of l)));
}
  where
    again : places_of (rescheduled_of a d l) ≡ rescheduled a d (places_of l)
    again = pairs-rescheduled a d l.addresses l.dues

    at : ℕ → Router
    at k = get_or (places_of l) k no_router

    same_address : (k : ℕ) → (get_or (rescheduled a d (places_of l)) k no_router ≡ due_if a d (at k)) ⊎ (get_or (rescheduled a d (places_of l)) k no_router ≡ at k)
        → (get_or (rescheduled a d (places_of l)) k no_router).address ≡ (at k).address
    same_address k (inl e) = ap (λ (r : Router). r.address) e
    same_address k (inr e) = ap (λ (r : Router). r.address) e

    same-due : (k : ℕ) → ((at k).address ≡ a → ⊥)
        → (get_or (rescheduled a d (places_of l)) k no_router ≡ due_if a d (at k)) ⊎ (get_or (rescheduled a d (places_of l)) k no_router ≡ at k)
        → (get_or (rescheduled a d (places_of l)) k no_router).due ≡ (at k).due
    same-due k n (inl e) = ap (λ (r : Router). r.due) e ∙ rw (ne_eqb (at k).address a n)
    same-due k n (inr e) = ap (λ (r : Router). r.due) e
