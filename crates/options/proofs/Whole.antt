-- Options are whole exactly if the bytes are options, one after another; and those are the ones that are read.
-- Assumes nothing.
use mathlib.Core.Path.{◌≡◌, refl, sym, ap, ◌∙◌}
use mathlib.Core.List.{List, [], ◌∷◌, ◌++◌, flatten, append_assoc, append-nil}
use mathlib.Core.Bool.{Bool, true, false, cond}
use Prim.Native.Nat.{ℕ, zero, suc, ◌*◌, ◌≤◌, pred}
use native.Mathlib.Omega.{arith}
use lib.ListN.{length, get_or, take, drop, length-append, length-take, take-append-drop, get_or-append}
use lib.Seq.{take-append_seam, drop-append_seam, get_or-take}
use lib.Dec.{eqb}
use borrow.Author.Tests.{eq-eqb, eqb-true, eqb-false, le-leb}
use Rattle.options.specs.Options.{unit_bytes, IsOption, AreOptions, option_size, options_from, options_of, are_options_whole}
use Rattle.options.proofs.Sizes.{size_fits, size-units, size-least, options-cons}

-- an option and whatever stands behind it: the first option has its size
size_option : (o bs : List ℕ) → IsOption o → option_size (o ++ bs) ≡ length o
unfolding option_size
size_option o bs h =
    let long = h.0 in
    let units = h.1 in
    let second : get_or (o ++ bs) 1 0 ≡ get_or o 1 0 = get_or-append o bs 0 1 (omega arith) in
    let fits : get_or o 1 0 * unit_bytes ≤ length (o ++ bs) = omega (arith, length-append o bs) in
    rw (second, le-leb _ _ fits) (sym units)

pub options-of_flatten : (os : List (List ℕ)) → AreOptions os → options_of (flatten os) ≡ os
unfolding AreOptions flatten options_from
options-of_flatten [] h = refl
options-of_flatten (o ∷ os) h =
    let bs = flatten os in
    let size = size_option o bs h.0 in
    let long = h.0.0 in
    options-cons (o ++ bs) (λ z. omega arith) ∙ rw (size, take-append_seam, drop-append_seam, options-of_flatten os h.1)

pub whole-of_flatten : (os : List (List ℕ)) → AreOptions os → are_options_whole (flatten os) ≡ true
unfolding are_options_whole
whole-of_flatten os h = rw (options-of_flatten os h, eq-eqb (length (flatten os)) (length (flatten os)) refl)

-- the first option, where there is one
first-is : (bs : List ℕ) → (option_size bs ≡ 0 → ⊥) → IsOption (take (option_size bs) bs)
first-is bs good =
    let n = option_size bs in
    let long = size-least bs good in
    let all : length (take n bs) ≡ n = omega (arith, length-take n bs, size_fits bs) in
    let second : get_or (take n bs) 1 0 ≡ get_or bs 1 0 = get_or-take n bs 1 0 (omega arith) in
    (omega arith, rw (second, all) (size-units bs good))

from_are : (k : ℕ) (bs : List ℕ) → AreOptions (options_from k bs)
unfolding AreOptions options_from
from_are zero [] = tt
from_are (suc k) [] = tt
from_are (suc k) (b ∷ bs) = from_are k bs
from_are zero (b ∷ bs) = go (eqb (option_size (b ∷ bs)) 0) refl (from_are (pred (option_size (b ∷ bs))) bs)
  where
    go : (t : Bool) → eqb (option_size (b ∷ bs)) 0 ≡ t → AreOptions (options_from (pred (option_size (b ∷ bs))) bs)
        → AreOptions (cond t [] (take (option_size (b ∷ bs)) (b ∷ bs) ∷ options_from (pred (option_size (b ∷ bs))) bs))
    go true e later = tt
    go false e later = (first-is (b ∷ bs) (eqb-false _ _ e), later)

pub options_are : (bs : List ℕ) → AreOptions (options_of bs)
options_are bs = from_are 0 bs

-- the bytes begin with the options that are read
from_begins : (k : ℕ) (bs : List ℕ) → (rest : List ℕ) × (drop k bs ≡ flatten (options_from k bs) ++ rest)
unfolding flatten options_from
from_begins zero [] = ([], refl)
from_begins (suc k) [] = ([], refl)
from_begins (suc k) (b ∷ bs) = from_begins k bs
from_begins zero (b ∷ bs) = go (option_size (b ∷ bs)) (eqb (option_size (b ∷ bs)) 0) refl (from_begins (pred (option_size (b ∷ bs))) bs)
  where
    go : (n : ℕ) (t : Bool) → eqb n 0 ≡ t → (rest : List ℕ) × (drop (pred n) bs ≡ flatten (options_from (pred n) bs) ++ rest)
        → (rest : List ℕ) × (b ∷ bs ≡ flatten (cond t [] (take n (b ∷ bs) ∷ options_from (pred n) bs)) ++ rest)
    go n true e later = (b ∷ bs, refl)
    go zero false e later = absurd (eqb-false 0 0 e refl)
    go (suc n) false e later =
        (later.0, ap (λ (l : List ℕ). b ∷ l) (sym (take-append-drop n bs) ∙ rw later.1 (sym (append_assoc (take n bs) (flatten (options_from n bs)) later.0))))

pub flatten_of-whole : (bs : List ℕ) → are_options_whole bs ≡ true → flatten (options_of bs) ≡ bs
unfolding are_options_whole
flatten_of-whole bs e = go (from_begins 0 bs).0 (from_begins 0 bs).1
  where
    go : (rest : List ℕ) → bs ≡ flatten (options_of bs) ++ rest → flatten (options_of bs) ≡ bs
    go [] h = sym (h ∙ append-nil (flatten (options_of bs)))
    go (r ∷ rest) h =
        let same = eqb-true (length (flatten (options_of bs))) (length bs) e in
        absurd (omega (arith, ap length h, length-append (flatten (options_of bs)) (r ∷ rest)))
