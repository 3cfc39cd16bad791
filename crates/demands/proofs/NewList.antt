-- A list that is replaced, or made at setup, keeps and sets due times as the facts say. Assumes nothing.
use Prim.Native.Nat.{ℕ, zero, suc, ◌<◌}
use mathlib.Core.Path.{◌≡◌, refl}
use mathlib.Core.List.Memᴰ
use mathlib.Core.List.{List, [], ◌∷◌, ◌++◌, map, Memᴰ}
use native.Mathlib.Nat.{not-suc-le-zero, le_of_suc-le-suc}
use lib.ListN.{length, get_or, length-map}
use borrow.Author.Tests.{eq-eqb, ne_eqb}
use Rattle.routers.specs.Routers.{live, pairs, due_or, replaced_of, new_of}
use Rattle.routers.proofs.Rows.{pairs_of}
use Rattle.routers.specs.Facts.{Listed, no_router}
use Rattle.routers.specs.declared.Router.{Router}
use Rattle.routers.specs.declared.RouterList.{RouterList}
use Rattle.demands.specs.Two.{FirstAt, NewList}

-- the element at a place of a mapped list
mapped_at : (f : ℕ → Router) (xs : List ℕ) (k : ℕ) → k < length xs → get_or (map f xs) k no_router ≡ f (get_or xs k 0)
mapped_at f [] k h = absurd (not-suc-le-zero h)
mapped_at f (x ∷ xs) zero h = refl
mapped_at f (x ∷ xs) (suc k) h = mapped_at f xs k (le_of_suc-le-suc h)

module _ (other a : ℕ) where
  first-due : (front : List Router) (r : Router) (back : List Router) → r.address ≡ a → ((q : Router) → Memᴰ q front → q.address ≡ a → ⊥)
      → due_or other a (front ++ r ∷ back) ≡ r.due
  unfolding due_or
  first-due [] r back e n = rw (eq-eqb _ _ e)
  first-due (q ∷ front) r back e n = rw (ne_eqb _ _ (n q (Memᴰ.head refl)), first-due front r back e (λ p m. n p (Memᴰ.tail m)))

  none-due : (rs : List Router) → (Listed a rs → ⊥) → due_or other a rs ≡ other
  unfolding due_or Listed
  none-due [] n = refl
  none-due (r ∷ rs) n =
      rw (ne_eqb _ _ (λ e. n (r, Memᴰ.head refl, e)), none-due rs (λ l. n (l.0, Memᴰ.tail l.1, l.2)))

-- the routers at the places of a list whose due times are made of its addresses
module _ (f : ℕ → ℕ) (addresses : List ℕ) where
  abbrev made : ℕ → Router
  made a = record { address = a; due = f a }

  made-length : length (pairs addresses (map f addresses)) ≡ length addresses
  made-length = rw (pairs_of f addresses) (length-map addresses made)

  made_at : (k : ℕ) → k < length addresses → get_or (pairs addresses (map f addresses)) k no_router ≡ record { address = get_or addresses k 0; due = f (get_or addresses k 0) }
  made_at k h = rw (pairs_of f addresses) (mapped_at made addresses k h)

pub replaced-list : (addresses : List ℕ) (count now : ℕ) (l : RouterList) → NewList now (live l) addresses count (replaced_of addresses count now l)
replaced-list addresses count now l =
    let due : ℕ → ℕ = λ a. due_or now a (live l) in
    record {
      size = refl;
      places = made-length due addresses;
      address = λ k h. rw (made_at due addresses k h);
      kept = λ k r h f. rw (made_at due addresses k h, f.stands, first-due now (get_or addresses k 0) f.front r f.back f.address f.before);
      new = λ k h n. rw (made_at due addresses k h, none-due now (get_or addresses k 0) (live l) n);
    }

pub new-list : (addresses : List ℕ) (count : ℕ) → NewList 0 [] addresses count (new_of addresses count)
new-list addresses count = record {
  size = refl;
  places = made-length (λ a. 0) addresses;
  address = λ k h. rw (made_at (λ a. 0) addresses k h);
  kept = λ k r h f. absurd (Memᴰ.not-nil (in-nothing f));
  new = λ k h n. rw (made_at (λ a. 0) addresses k h);
}
  where
    in-nothing : {a : ℕ} {r : Router} → FirstAt a [] r → Memᴰ r []
    in-nothing f = rw f.stands (Memᴰ.append_right f.front (Memᴰ.head refl))
