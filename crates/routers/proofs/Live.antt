-- What the calls leave of the routers in the list.
-- Assumes nothing.
use mathlib.Core.Path.{◌≡◌, refl, ap}
use mathlib.Core.List.{List, [], ◌∷◌, map}
use mathlib.Core.Bool.{Bool, true, false, cond, ◌||◌, true≢false}
use Prim.Native.Nat.{ℕ, zero, suc}
use lib.ListN.{take}
use lib.Dec.{eqb}
use Rattle.routers.specs.declared.Router.{Router}
use Rattle.routers.specs.declared.RouterList.{RouterList}
use Rattle.routers.specs.Routers.{places_of, live, listed, due_if, rescheduled, rescheduled_of}
use Rattle.routers.proofs.Rows.{pairs-rescheduled}

take-map : {A B : Type 0} (f : A → B) (n : ℕ) (xs : List A) → take n (map f xs) ≡ map f (take n xs)
take-map f zero xs = refl
take-map f (suc n) [] = refl
take-map {A} {B} f (suc n) (x ∷ xs) = ap (λ (q : List B). f x ∷ q) (take-map f n xs)

pub live-rescheduled : (a d : ℕ) (l : RouterList) → live (rescheduled_of a d l) ≡ rescheduled a d (live l)
live-rescheduled a d l = rw (pairs-rescheduled a d l.addresses l.dues) (take-map (due_if a d) l.count (places_of l))

-- a due time does not change who is listed
pub listed-rescheduled : (b a d : ℕ) (rs : List Router) → listed b (rescheduled a d rs) ≡ listed b rs
unfolding due_if
listed-rescheduled b a d [] = refl
listed-rescheduled b a d (r ∷ rs) = ap (λ (q : Bool). eqb r.address b || q) (listed-rescheduled b a d rs)

-- a new due time of an address that is not listed changes nothing
pub rescheduled-unlisted : (a d : ℕ) (rs : List Router) → listed a rs ≡ false → rescheduled a d rs ≡ rs
unfolding due_if
rescheduled-unlisted a d [] h = refl
rescheduled-unlisted a d (r ∷ rs) h = go (eqb r.address a) h (rescheduled-unlisted a d rs)
  where
    go : (t : Bool) → (t || listed a rs) ≡ false → (listed a rs ≡ false → rescheduled a d rs ≡ rs)
        → record { address = r.address; due = cond t d r.due } ∷ rescheduled a d rs ≡ r ∷ rs
    go true h ih = absurd (true≢false h)
    go false h ih = ap (λ (q : List Router). r ∷ q) (ih h)
