-- The loop that converts the first entries of an array, one a turn, into an array of empty places. Assumes nothing.
--     Firsts            the first i are converted: at the start none, with a turn one more, at the end all that count
use Prim.Native.Nat.{ℕ, suc, ◌+◌, ◌<◌, min}
use mathlib.Core.Path.{◌≡◌, refl, ◌∙◌}
use mathlib.Core.List.{List, ◌∷◌, ◌++◌, map, map-append, append_assoc}
use native.Mathlib.Omega.{arith}
use native.Mathlib.Numerals.{add-one}
use lib.ListN.{length, get_or, take, drop, set, replicate, length-set, length-take, length-map}
use lib.Seq.{drop-cons, take-suc, set_at}
use Rattle.lists.proofs.Parts.{take-least, drop-least}
use Rattle.bogtrumpet.specs.Plain.{first_from}

module _ {A B : Type 0} (f : A → B) (none : B) (xs : List A) where
  abbrev pub Firsts : ℕ → List B → Type 0
  Firsts i all = (length all ≡ 8) × (all ≡ first_from f none i xs)

  pub firsts_start : (x : B) (i : ℕ) → x ≡ none → i ≡ 0 → Firsts i (replicate 8 x)
  unfolding first_from
  firsts_start x i e h = (refl, rw (e, h))

  pub firsts_same : (all next : List B) (i k : ℕ) → k ≡ i → Firsts i all → next ≡ all → Firsts k next
  firsts_same all next i k h e g = (rw g e.0, rw (g, h) e.1)

  pub firsts_turn : (z : A) (all next : List B) (i j k : ℕ) (x : B) → length xs ≡ 8 → i < 8 → j ≡ i → k ≡ i + 1
      → Firsts j all → x ≡ f (get_or xs i z) → next ≡ set all i x → Firsts k next
  unfolding first_from
  firsts_turn z all next i j k x full h s t e v g =
      let zs = replicate 8 none in
      let l : length (map f (take i xs)) ≡ i = rw (length-map, length-take) (omega arith) in
      let a : set (map f (take i xs) ++ drop i zs) i x ≡ map f (take i xs) ++ (x ∷ drop (suc i) zs) =
      rw (drop-cons zs i none h) (set_at (map f (take i xs)) (get_or zs i none) (drop (suc i) zs) x i l) in
      (rw (g, length-set) e.0, rw (g, e.1, s, t, add-one, take-suc xs i z (omega arith), map-append, append_assoc, ← v) a)

  pub firsts_end : (all : List B) (i n : ℕ) → length xs ≡ 8 → i ≡ min n 8 → Firsts i all → all ≡ first_from f none n xs
  unfolding first_from
  firsts_end all i n full h e =
      let t : take (min n 8) xs ≡ take n xs = rw (← full) (take-least n xs) in
      e.1 ∙ rw (h, t, drop-least n (replicate 8 none))
