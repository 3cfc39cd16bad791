-- Parts of a list whose ends lie anywhere, where a count past the end is read as the length; and parts one behind another.
-- Assumes nothing.
use Prim.Native.Nat.{ℕ, zero, suc, ◌+◌, ◌-◌, ◌≤◌, min}
use mathlib.Core.Path.{◌≡◌, sym, ap, ◌∙◌}
use mathlib.Core.List.{List, [], ◌∷◌, ◌++◌, map}
use native.Mathlib.Nat.{min-zero, zero-min, suc-min-suc}
use native.Mathlib.Omega.{arith}
use lib.ListN.{length, take, drop, replicate, length-drop, length-map, length-replicate, replicate-append-replicate}
use lib.Seq.{take_all, take-add, take_at, drop_at, drop-drop, length-take-le}
use Rattle.lists.specs.Parts.{part}

module _ {A : Type 0} where
  pub take-least : (n : ℕ) (xs : List A) → take (min n (length xs)) xs ≡ take n xs
  take-least zero xs = cc (zero-min (length xs))
  take-least (suc n) [] = cc (min-zero (suc n))
  take-least (suc n) (x ∷ xs) = cc (suc-min-suc n (length xs), take-least n xs)

  pub drop-least : (n : ℕ) (xs : List A) → drop (min n (length xs)) xs ≡ drop n xs
  drop-least zero xs = cc (zero-min (length xs))
  drop-least (suc n) [] = cc (min-zero (suc n))
  drop-least (suc n) (x ∷ xs) = cc (suc-min-suc n (length xs), drop-least n xs)

  -- the part of a slice from k to its end
  pub rest_from : (k : ℕ) (xs : List A) → take (length xs - k) (drop k xs) ≡ drop k xs
  rest_from k xs = take_all (length xs - k) (drop k xs) (omega (arith, length-drop k xs))

  -- the same, where k is n or the end
  pub part_from_lem : (n k : ℕ) (xs : List A) → k ≡ min n (length xs) → take (length xs - k) (drop k xs) ≡ drop n xs
  part_from_lem n k xs h = rest_from k xs ∙ rw h (drop-least n xs)

  -- the part from k to n, in either order
  pub drop-take : (k n : ℕ) (xs : List A) → k ≤ n → k ≤ length xs → drop k (take n xs) ≡ take (n - k) (drop k xs)
  drop-take k n xs h l =
      let e : n ≡ k + (n - k) = omega arith in
      ap (λ (m : ℕ). drop k (take m xs)) e ∙ rw take-add (drop_at (take k xs) _ k (length-take-le k xs l))

  -- two parts one behind the other
  pub part-add : (at n m : ℕ) (xs : List A) → part at (n + m) xs ≡ part at n xs ++ part (at + n) m xs
  part-add at n m xs = rw (← drop-drop n at xs) (take-add n m (drop at xs))

  -- a part of equal elements
  pub part-replicate : (o n m : ℕ) (a : A) → o + n ≤ m → part o n (replicate m a) ≡ replicate n a
  part-replicate o n m a h =
      let e : m ≡ o + (n + (m - (o + n))) = omega arith in
      let r : ℕ = m - (o + n) in
      let split : replicate m a ≡ replicate o a ++ (replicate n a ++ replicate r a) =
      ap (λ (j : ℕ). replicate j a) e ∙ rw (replicate-append-replicate n r a, replicate-append-replicate o (n + r) a) in
      rw (split, drop_at (replicate o a) (replicate n a ++ replicate r a) o (length-replicate o a)) (take_at (replicate n a) (replicate r a) n (length-replicate n a))

-- a list is as long as the list of what a function makes of its elements
pub unmapped : {X Y : Type 0} (f : X → Y) (xs : List X) (n : ℕ) → length (map f xs) ≡ n → length xs ≡ n
unmapped f xs n h = sym (length-map xs f) ∙ h
