-- What the searches of the code ask: one more turn, or what the library finds.
use Rattle.std.specs.Prelude.{Option, Some, None, find, unwrap_or}
use Rattle.std.specs.List.{position_or_len}
use mathlib.Core.Path.{◌≡◌, refl, sym, ap, ◌∙◌}
use mathlib.Core.Bool.{Bool, true, false, cond, ◌||◌, or_assoc, or-false, false≢true}
use mathlib.Core.Logic.{⊎_elim}
use mathlib.Core.List.{List, [], ◌∷◌, ◌++◌}
use Prim.Native.Nat.{ℕ, zero, suc, ◌+◌, ◌-◌, ◌≤◌, ◌<◌, min}
use native.Mathlib.Numerals.{add-one}
use native.Mathlib.Nat.{zero-add}
use native.Mathlib.Omega.{arith}
use borrow.Author.Tests.{ltb-false}
use lib.Dec.{eqb, ltb}
use lib.ListN.{length, take, drop, get_or, length-drop, take-append-drop, drop_of_length-le}
use lib.Seq.{drop-cons, drop-drop, take-add, length-take-le}
use Rattle.lists.proofs.Tests.{tested, or_left, or_right}
use Rattle.paths.specs.Search.{is_among, Passed, Within}
use Rattle.paths.specs.Table.{row_of}
use Rattle.paths.specs.Candidate.{first_below}

-- ---- the search for a neighbour

module _ (v : ℕ) (xs : List ℕ) (i : ℕ) where
  pub row-end : length xs ≤ i → row_of v (drop i xs) ≡ 0
  row-end l = rw (drop_of_length-le xs l)

-- the place that the library finds, or their number
row-position : (v : ℕ) (xs : List ℕ) → position_or_len (λ a. eqb a v) xs ≡ row_of v xs
row-position v [] = refl
row-position v (x ∷ xs) = ⊎_elim (λ e. rw e) (λ e. rw e (omega (arith, row-position v xs))) (tested (eqb x v))

row-most : (v : ℕ) (xs : List ℕ) → row_of v xs ≤ length xs
row-most v [] = omega arith
row-most v (x ∷ xs) = ⊎_elim (λ e. rw e (omega arith)) (λ e. rw e (omega (arith, row-most v xs))) (tested (eqb x v))

pub row-found : (v : ℕ) (xs : List ℕ) (o : Option ℕ)
    → o ≡ cond (ltb (position_or_len (λ a. eqb a v) xs) (length xs)) (Some (position_or_len (λ a. eqb a v) xs)) None → unwrap_or o (length xs) ≡ row_of v xs
row-found v xs o h = rw h (rw (row-position v xs) (go (row_of v xs) (row-most v xs)))
  where
    go : (k : ℕ) → k ≤ length xs → unwrap_or (cond (ltb k (length xs)) (Some k) None) (length xs) ≡ k
    go k most = ⊎_elim (λ e. rw e) (λ e. rw e (omega (arith, ltb-false k (length xs) e))) (tested (ltb k (length xs)))

-- of the first n the place of v is that among all, where there is one
pub row-take : (v n : ℕ) (xs : List ℕ) → row_of v (take n xs) ≡ min (row_of v xs) n
row-take v zero xs = omega arith
row-take v (suc n) [] = omega arith
row-take v (suc n) (x ∷ xs) =
    ⊎_elim (λ e. rw e (omega arith)) (λ e. rw e (omega (arith, row-take v n xs))) (tested (eqb x v))

-- a number is among two lists one after another exactly if it is among one of them
among-both : (v : ℕ) (xs ys : List ℕ) → (is_among v xs || is_among v ys) ≡ is_among v (xs ++ ys)
among-both v [] ys = refl
among-both v (x ∷ xs) ys = or_assoc (eqb x v) (is_among v xs) (is_among v ys) ∙ ap (λ (e : Bool). eqb x v || e) (among-both v xs ys)

among-cut : (v a b : ℕ) (ys : List ℕ) → (is_among v (take a ys) || is_among v (take b (drop a ys))) ≡ is_among v (take (a + b) ys)
among-cut v a b ys = among-both v (take a ys) (take b (drop a ys)) ∙ ap (is_among v) (sym (take-add a b ys))

-- a turn of the loop that compares
pub among_turn : (v : ℕ) (xs : List ℕ) (i : ℕ) (found : Bool) → i < length xs
    → (found || eqb (get_or xs i 0) v || is_among v (drop (i + 1) xs)) ≡ (found || is_among v (drop i xs))
among_turn v xs i found inside = rw (add-one i, drop-cons xs i 0 inside) (or_assoc found (eqb (get_or xs i 0) v) (is_among v (drop (suc i) xs)))

pub among-end : (v : ℕ) (xs : List ℕ) (i : ℕ) (found : Bool) → length xs ≤ i → (found || is_among v (drop i xs)) ≡ found
among-end v xs i found l = rw (drop_of_length-le xs l) (or-false found)

none_in : (v : ℕ) (xs ys : List ℕ) → is_among v xs ≡ false → row_of v (xs ++ ys) ≡ length xs + row_of v ys
none_in v [] ys h = sym (zero-add (row_of v ys))
none_in v (x ∷ xs) ys h = rw (or_left (eqb x v) (is_among v xs) h) (omega (arith, none_in v xs ys (or_right (eqb x v) (is_among v xs) h)))

-- those that v is not among are passed
pub block-passed : (v : ℕ) (xs : List ℕ) (i w : ℕ) → Passed v xs i → i + w ≤ length xs → is_among v (take w (drop i xs)) ≡ false → Passed v xs (i + w)
block-passed v xs i w before h none =
    let parts : take w (drop i xs) ++ drop (i + w) xs ≡ drop i xs = rw (← drop-drop w i xs) (take-append-drop w (drop i xs)) in
    let l : length (take w (drop i xs)) ≡ w = length-take-le w (drop i xs) (omega (arith, length-drop i xs)) in
    let miss : row_of v (drop i xs) ≡ w + row_of v (drop (i + w) xs) = ap (row_of v) (sym parts) ∙ none_in v (take w (drop i xs)) (drop (i + w) xs) none ∙ rw l in
    (h, omega (arith, miss, before.1))

-- a half of those that v is among: the first, as long as the second
pub in-first : (v : ℕ) (xs : List ℕ) (i w h : ℕ) → Within v xs i w → h ≤ w - h → is_among v (take h (drop i xs)) ≡ true → Within v xs i (w - h)
in-first v xs i w h before l there =
    let e : h + (w - h - h) ≡ w - h = omega arith in
    let cut : (is_among v (take h (drop i xs)) || is_among v (take (w - h - h) (drop h (drop i xs)))) ≡ is_among v (take (w - h) (drop i xs)) = among-cut v h (w - h - h) (drop i xs) ∙ rw e in
    let inside : i + w ≤ length xs = before.inside in
    record { passed = before.passed; inside = omega arith; there = sym cut ∙ rw there }

-- or the second
pub in-second : (v : ℕ) (xs : List ℕ) (i w h : ℕ) → Within v xs i w → h ≤ w → is_among v (take h (drop i xs)) ≡ false → Within v xs (i + h) (w - h)
in-second v xs i w h before l none =
    let e : h + (w - h) ≡ w = omega arith in
    let cut : (is_among v (take h (drop i xs)) || is_among v (take (w - h) (drop h (drop i xs)))) ≡ is_among v (take w (drop i xs)) = among-cut v h (w - h) (drop i xs) ∙ rw e in
    let rest : is_among v (take (w - h) (drop h (drop i xs))) ≡ true = rw none at cut ∙ before.there in
    let inside : i + w ≤ length xs = before.inside in
    record { passed = block-passed v xs i h before.passed (omega arith) none; inside = omega arith; there = rw (← drop-drop h i xs) rest }

-- where one is left it is v
front-is : (v : ℕ) (ys : List ℕ) → is_among v (take 1 ys) ≡ true → row_of v ys ≡ 0
front-is v [] h = refl
front-is v (y ∷ ys) h = rw (sym (or-false (eqb y v)) ∙ h)

pub row_left : (v : ℕ) (xs : List ℕ) (i w : ℕ) → Within v xs i w → w ≤ 1 → i ≡ row_of v xs
row_left v xs i zero before l = absurd (false≢true before.there)
row_left v xs i (suc zero) before l = omega (arith, before.passed.1, front-is v (drop i xs) before.there)
row_left v xs i (suc (suc w)) before l = absurd (omega arith)

-- ---- the search for a plateau

pub below-found : (n : ℕ) (ps : List ℕ) → find (λ p. ltb p n) ps ≡ first_below n ps
below-found n [] = refl
below-found n (p ∷ ps) = ap (λ (o : Option ℕ). cond (ltb p n) (Some p) o) (below-found n ps)
