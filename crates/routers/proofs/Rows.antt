-- The routers that a row of addresses and a row of due times hold: what the code reads of the rows is so of the routers.
-- Assumes nothing.
use mathlib.Core.Path.{◌≡◌, refl, sym, ap}
use mathlib.Core.List.{List, [], ◌∷◌, map}
use mathlib.Core.Bool.{Bool, cond, ◌||◌}
use Prim.Native.Nat.{ℕ, zero, suc, ◌<◌, ◌≤◌, min}
use native.Mathlib.Nat.{zero-min, le_of_suc-le-suc, not-suc-le-zero}
use native.Mathlib.Omega.{arith}
use lib.ListN.{length, get_or, take, replicate, length-take}
use lib.Dec.{eqb}
use Rattle.routers.specs.declared.Router.{Router}
use Rattle.routers.specs.Routers.{pairs, held_in, listed, due_if, rescheduled, dues_after, among}
use Rattle.routers.specs.Facts.{no_router}

-- how many places each row has, `routers::PLACES`
abbrev pub places : ℕ
places = 16

pub pairs-length : (bs ds : List ℕ) → length (pairs bs ds) ≡ min (length bs) (length ds)
pairs-length [] ds = sym (zero-min (length ds))
pairs-length (a ∷ bs) [] = omega arith
pairs-length (a ∷ bs) (d ∷ ds) = omega (arith, pairs-length bs ds)

pub held-length : (n : ℕ) (bs ds : List ℕ) → length (held_in bs ds n) ≡ min n (min (length bs) (length ds))
held-length n bs ds = omega (arith, length-take n (pairs bs ds), pairs-length bs ds)

-- the router at a place of both rows
pub pair-at : (i : ℕ) (bs ds : List ℕ) → i < length bs → i < length ds → get_or (pairs bs ds) i no_router ≡ record { address = get_or bs i 0; due = get_or ds i 0 }
pair-at i [] ds h k = absurd (not-suc-le-zero h)
pair-at i (a ∷ bs) [] h k = absurd (not-suc-le-zero k)
pair-at zero (a ∷ bs) (d ∷ ds) h k = refl
pair-at (suc i) (a ∷ bs) (d ∷ ds) h k = pair-at i bs ds (le_of_suc-le-suc h) (le_of_suc-le-suc k)

-- who is listed is a matter of the addresses
pub listed-held : (a n : ℕ) (bs ds : List ℕ) → length bs ≤ length ds → listed a (held_in bs ds n) ≡ among a (take n bs)
listed-held a zero bs ds h = refl
listed-held a (suc n) [] ds h = refl
listed-held a (suc n) (b ∷ bs) [] h = absurd (not-suc-le-zero h)
listed-held a (suc n) (b ∷ bs) (d ∷ ds) h = ap (λ (q : Bool). eqb b a || q) (listed-held a n bs ds (le_of_suc-le-suc h))

-- the rows with new due times hold the routers with new due times
pub pairs-rescheduled : (a d : ℕ) (bs ds : List ℕ) → pairs bs (dues_after a d bs ds) ≡ rescheduled a d (pairs bs ds)
unfolding due_if
pairs-rescheduled a d [] ds = refl
pairs-rescheduled a d (b ∷ bs) [] = refl
pairs-rescheduled a d (b ∷ bs) (e ∷ ds) = ap (λ (q : List Router). due_if a d (record { address = b; due = e }) ∷ q) (pairs-rescheduled a d bs ds)

-- a row of due times that is made of the addresses
pub pairs_of : (f : ℕ → ℕ) (bs : List ℕ) → pairs bs (map f bs) ≡ map (λ b. record { address = b; due = f b }) bs
pairs_of f [] = refl
pairs_of f (b ∷ bs) = ap (λ (q : List Router). record { address = b; due = f b } ∷ q) (pairs_of f bs)

-- the due time that is stored at a place
pub stored_due : (a d i : ℕ) (bs ds : List ℕ) → i < length bs → i < length ds → (due_if a d (get_or (pairs bs ds) i no_router)).due ≡ cond (eqb (get_or bs i 0) a) d (get_or ds i 0)
unfolding due_if
stored_due a d i bs ds h k = rw (pair-at i bs ds h k)

-- the row of what is stored
pub dues_made : (a d : ℕ) (rs : List Router) → map (λ (r : Router). (due_if a d r).due) rs ≡ map (λ (r : Router). r.due) (rescheduled a d rs)
dues_made a d [] = refl
dues_made a d (r ∷ rs) = ap (λ (q : List ℕ). (due_if a d r).due ∷ q) (dues_made a d rs)

-- the row of due times at setup
pub zeros : (bs : List ℕ) → replicate {A = ℕ} (length bs) 0 ≡ map (λ b. 0) bs
zeros [] = refl
zeros (b ∷ bs) = ap (λ (q : List ℕ). 0 ∷ q) (zeros bs)
