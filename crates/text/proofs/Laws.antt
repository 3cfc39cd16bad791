-- Laws of text: one text behind another, the front of what was written, and how long numbers are. Assumes nothing.
use Prim.Native.Nat.{ℕ, zero, suc, ◌+◌, ◌/◌, ◌%◌, ◌^◌, ◌<◌, ◌≤◌}
use mathlib.Core.Path.{◌≡◌, refl, sym, ◌∙◌}
use mathlib.Core.Bool.{Bool, true, false, cond}
use mathlib.Core.List.{List, [], ◌∷◌, ◌++◌, append_assoc}
use native.Mathlib.Omega.{arith}
use native.Mathlib.Nat.{pow-suc, zero-add, add_assoc}
use borrow.Author.Tests.{le-ltb, ltb-false}
use lib.Dec.{ltb}
use lib.ListN.{length, take, drop, length-append, length-take, take-append-drop}
use lib.Seq.{take-append_seam, drop-append-add, drop-drop}
use Rattle.lent.specs.Written.{over, written_at}
use Rattle.lent.proofs.Laws.{written_at-fits, length_over}
use Rattle.text.specs.Text.{behind, decimal_up_to, decimal}

-- behind what fits
pub behind-fits : (at : ℕ) (w d : List ℕ) → at + length w ≤ length d → behind at w d ≡ at + length w
unfolding behind
behind-fits at w d h = simp (le-ltb _ _ h)

-- what a function that writes w into d leaves, with the index that it gives
abbrev pub Wrote : ℕ → List ℕ → List ℕ → ℕ → List ℕ → Type 0
Wrote at w d r e = (r ≡ behind at w d) × (e ≡ written_at at w d)

over_seam : (x p d : List ℕ) (n : ℕ) → length x ≡ n → over n p (x ++ drop n d) ≡ x ++ (p ++ drop (n + length p) d)
over_seam x p d n h = rw (← h) (simp (take-append_seam, drop-append-add, drop-drop))

over-more : (at : ℕ) (w p d : List ℕ) → at + length w ≤ length d → over (at + length w) p (over at w d) ≡ over at (w ++ p) d
over-more at w p d h =
    let l : length (take at d) ≡ at = rw length-take (omega arith) in
    let m : length (take at d ++ w) ≡ at + length w = rw (length-append, l) in
    let e : over at w d ≡ (take at d ++ w) ++ drop (at + length w) d = sym (append_assoc (take at d) w (drop (at + length w) d)) in
    rw e (over_seam (take at d ++ w) p d (at + length w) m ∙ simp (append_assoc, length-append, add_assoc))

-- one text right behind another is both of them
pub wrote_more : (at : ℕ) (w p d : List ℕ) {r r' : ℕ} {e e' : List ℕ} → at + length (w ++ p) ≤ length d
    → Wrote at w d r e → Wrote r p e r' e' → Wrote at (w ++ p) d r' e'
wrote_more at w p d h f g =
    let n = length-append w p in
    let l : length (over at w d) ≡ length d = length_over at w d (omega arith) in
    let e = f.1 ∙ written_at-fits at w d (omega arith) in
    let r = f.0 ∙ behind-fits at w d (omega arith) in
    let room : at + length w + length p ≤ length (over at w d) = rw l (omega arith) in
    let b = rw (e, r) at g.0 in
    let t = rw (e, r) at g.1 in (
      b ∙ behind-fits (at + length w) p (over at w d) room ∙ rw (behind-fits at (w ++ p) d h) (omega arith),
      t ∙ written_at-fits (at + length w) p (over at w d) room ∙ over-more at w p d (omega arith) ∙ sym (written_at-fits at (w ++ p) d h),
    )

-- no text
pub wrote_none : (at : ℕ) (d : List ℕ) → at ≤ length d → Wrote at [] d at d
wrote_none at d h =
    let e : at + 0 ≡ at = omega arith in
    (sym (behind-fits at [] d (omega arith) ∙ e), sym (written_at-fits at [] d (omega arith) ∙ rw e (take-append-drop at d)))

-- the front of what was written over the start of d
pub front_wrote : (w d : List ℕ) {r : ℕ} {e : List ℕ} → length w ≤ length d → Wrote 0 w d r e → (r ≡ length w) × (take r e ≡ w)
front_wrote w d h f =
    let r = f.0 ∙ behind-fits 0 w d (omega arith) ∙ zero-add (length w) in
    let e = f.1 ∙ written_at-fits 0 w d (omega arith) in
    (r, rw (e, r) (take-append_seam w (drop (0 + length w) d)))

-- a number below a power of ten has no more digits than that has zeros
digits_below : (m n j : ℕ) → n < 10 ^ suc j → length (decimal_up_to m n) ≤ suc j
digits_below zero n j h = omega arith
digits_below (suc m) n j h = picked (ltb n 10) j h refl (λ i g. digits_below m (n / 10) i g)
  where
    picked : (t : Bool) (j : ℕ) → n < 10 ^ suc j → ltb n 10 ≡ t → ((i : ℕ) → n / 10 < 10 ^ suc i → length (decimal_up_to m (n / 10)) ≤ suc i)
        → length (cond t [] (decimal_up_to m (n / 10)) ++ (48 + n % 10) ∷ []) ≤ suc j
    picked true j h e shorter = omega arith
    picked false zero h e shorter = let l : n < 10 ^ 1 = h in absurd (omega (arith, ltb-false n 10 e))
    picked false (suc j) h e shorter = let p = pow-suc 10 (suc j) in rw length-append (omega (arith, shorter j (omega arith)))

digits_at-most : (m n : ℕ) → length (decimal_up_to m n) ≤ suc m
digits_at-most zero n = omega arith
digits_at-most (suc m) n = picked (ltb n 10) (digits_at-most m (n / 10))
  where
    picked : (t : Bool) → length (decimal_up_to m (n / 10)) ≤ suc m → length (cond t [] (decimal_up_to m (n / 10)) ++ (48 + n % 10) ∷ []) ≤ suc (suc m)
    picked true h = omega arith
    picked false h = rw length-append (omega arith)

-- no number has more than 20 digits
pub decimal-short : (n : ℕ) → length (decimal n) ≤ 20
unfolding decimal
decimal-short n = digits_at-most 19 n

-- at most 5 digits for 16 bits, 10 for 32, 20 for 64
pub length-decimal : (n j : ℕ) → n < 10 ^ suc j → length (decimal n) ≤ suc j
unfolding decimal
length-decimal n j h = digits_below 19 n j h
