-- Parts and elements of a list that was written over: apart from the write, and inside of it. Assumes nothing.
use Prim.Native.Nat.{ℕ, ◌+◌, ◌-◌, ◌≤◌, ◌<◌}
use mathlib.Core.Path.{◌≡◌, sym, ap, ◌∙◌}
use mathlib.Core.Logic.{◌⊎◌, ⊎_elim}
use mathlib.Core.List.{List, ◌++◌, append_assoc}
use native.Mathlib.Omega.{arith}
use lib.ListN.{length, take, drop, get_or, length-append, length-drop, get_or-append}
use lib.Seq.{get_or-take, get_or-drop, get_or-append-add, take-append-le, drop-append-le, drop_at, drop-drop, take-take, length-take-le, take-append_seam}
use Rattle.lists.specs.Parts.{part}
use Rattle.lists.proofs.Parts.{drop-take}
use Rattle.lent.specs.Written.{over}

module _ {A : Type 0} (at : ℕ) (w xs : List A) (fits : at + length w ≤ length xs) where
  -- a write leaves what ends before it
  pub part-before : (b n : ℕ) → b + n ≤ at → part b n (over at w xs) ≡ part b n xs
  part-before b n h =
      let l : length (take at xs) ≡ at = length-take-le at xs (omega arith) in
      let front : drop b (over at w xs) ≡ drop b (take at xs) ++ (w ++ drop (at + length w) xs) = drop-append-le b (take at xs) _ (omega arith) in
      let long : n ≤ length (drop b (take at xs)) = simp length-drop (omega arith) in
      rw (front, take-append-le n (drop b (take at xs)) (w ++ drop (at + length w) xs) long, drop-take b at xs (omega arith) (omega arith))
      (take-take n (at - b) (drop b xs) (omega arith))

  -- and what begins behind it
  pub part-behind : (b n : ℕ) → at + length w ≤ b → part b n (over at w xs) ≡ part b n xs
  part-behind b n h =
      let l : length (take at xs ++ w) ≡ at + length w = rw (length-append, length-take-le at xs (omega arith)) in
      let e : b ≡ (at + length w) + (b - (at + length w)) = omega arith in
      let same : drop b (over at w xs) ≡ drop b xs =
      ap (λ (j : ℕ). drop j (over at w xs)) e
      ∙ rw (← append_assoc (take at xs) w (drop (at + length w) xs), ← drop-drop (b - (at + length w)) (at + length w) (take at xs ++ w ++ drop (at + length w) xs))
      (rw (drop_at (take at xs ++ w) (drop (at + length w) xs) (at + length w) l) (drop-drop (b - (at + length w)) (at + length w) xs ∙ ap (λ (j : ℕ). drop j xs) (sym e))) in
      ap (take n) same

  -- inside of it stands what was written
  pub part-inside : (o n : ℕ) → o + n ≤ length w → part (at + o) n (over at w xs) ≡ part o n w
  part-inside o n h =
      let l : length (take at xs) ≡ at = length-take-le at xs (omega arith) in
      let front : drop (at + o) (over at w xs) ≡ drop o (w ++ drop (at + length w) xs) =
      rw (← drop-drop o at (over at w xs)) (ap (drop o) (drop_at (take at xs) (w ++ drop (at + length w) xs) at l)) in
      let long : n ≤ length (drop o w) = simp length-drop (omega arith) in
      rw (front, drop-append-le o w (drop (at + length w) xs) (omega arith)) (take-append-le n (drop o w) _ long)

  -- there it stands
  pub part-written : part at (length w) (over at w xs) ≡ w
  part-written =
      let l : length (take at xs) ≡ at = length-take-le at xs (omega arith) in
      rw (drop_at (take at xs) (w ++ drop (at + length w) xs) at l) (take-append_seam w (drop (at + length w) xs))

  -- an element inside of the write, and one outside of it
  pub get_d_inside : (o : ℕ) (d : A) → o < length w → get_or (over at w xs) (at + o) d ≡ get_or w o d
  get_d_inside o d h =
      let l : length (take at xs) ≡ at = length-take-le at xs (omega arith) in
      ap (λ (j : ℕ). get_or (over at w xs) (j + o) d) (sym l)
      ∙ get_or-append-add (take at xs) (w ++ drop (at + length w) xs) o d
      ∙ get_or-append w (drop (at + length w) xs) d o h

  pub get_d_outside : (i : ℕ) (d : A) → (i < at) ⊎ (at + length w ≤ i) → get_or (over at w xs) i d ≡ get_or xs i d
  get_d_outside i d away =
      let l : length (take at xs) ≡ at = length-take-le at xs (omega arith) in
      ⊎_elim
      (λ h. get_or-append (take at xs) (w ++ drop (at + length w) xs) d i (omega arith) ∙ get_or-take at xs i d h)
      (λ h.
      let lw : length (take at xs ++ w) ≡ at + length w = rw (length-append, l) in
      let e : i ≡ at + length w + (i - (at + length w)) = omega arith in
      let f : i ≡ length (take at xs ++ w) + (i - (at + length w)) = omega arith in
      rw (← append_assoc (take at xs) w (drop (at + length w) xs)) (
      ap (λ (j : ℕ). get_or (take at xs ++ w ++ drop (at + length w) xs) j d) f
      ∙ get_or-append-add (take at xs ++ w) (drop (at + length w) xs) (i - (at + length w)) d
      ∙ get_or-drop (at + length w) xs (i - (at + length w)) d
      ∙ ap (λ (j : ℕ). get_or xs j d) (sym e)))
      away
