-- Laws of a range of marks: past their end there are none, and of two lists, the one behind the other, it has a part of each. Assumes nothing.
use Prim.Native.Nat.{ℕ, zero, suc, ◌+◌, ◌-◌, ◌<◌, min}
use mathlib.Core.Path.{◌≡◌, refl, sym, ap, ap₂, ◌∙◌}
use mathlib.Core.Bool.{Bool, true, false, ◌||◌, ◌&&◌, or_assoc, or-true, or-false}
use mathlib.Core.List.{List, [], ◌∷◌, ◌++◌}
use native.Mathlib.Nat.{sub-zero, zero-sub, suc-sub-suc, sub-add-eq, zero-min, min-zero, suc-min-suc, zero-add, suc-add}
use native.Mathlib.Omega.{arith}
use lib.ListN.{length, get_or, take, drop, replicate, length-drop}
use lib.Dec.{leb, ltb, leb-zero, leb-suc-zero, leb-suc-suc}
use lib.Seq.{take-nil, drop-nil}
use Rattle.lists.specs.Any.{any_of}
use Rattle.lists.specs.Parts.{part}
use Rattle.lists.proofs.Parts.{take-least, drop-least}
use Rattle.lent.specs.Written.{over}

-- marks of which n from one on are set besides, as far as there are any
abbrev pub marked : ℕ → ℕ → List Bool → List Bool
marked from n [] = []
marked (suc from) n (m ∷ ms) = m ∷ marked from n ms
marked zero zero (m ∷ ms) = m ∷ ms
marked zero (suc n) (m ∷ ms) = true ∷ marked zero n ms

pub part-append : {A : Type 0} (f n : ℕ) (a b : List A) → part f n (a ++ b) ≡ part f n a ++ part (f - length a) (n - (length a - f)) b
part-append f n [] b = simp (drop-nil, take-nil, sub-zero, zero-sub)
part-append (suc f) n (x ∷ a) b = simp suc-sub-suc (part-append f n a b)
part-append zero zero (x ∷ a) b = simp zero-sub
part-append {A} zero (suc n) (x ∷ a) b =
    let rest = part-append zero n a b in
    simp (zero-sub, sub-zero, suc-sub-suc) (ap (λ (l : List A). x ∷ l) (simp (zero-sub, sub-zero) at rest))

marked_none : (ms : List Bool) → marked 0 0 ms ≡ ms
marked_none [] = refl
marked_none (m ∷ ms) = refl

pub marked_append : (f n : ℕ) (a b : List Bool) → marked f n (a ++ b) ≡ marked f n a ++ marked (f - length a) (n - (length a - f)) b
marked_append f n [] b = simp (sub-zero, zero-sub)
marked_append (suc f) n (m ∷ a) b = simp suc-sub-suc (ap (λ (l : List Bool). m ∷ l) (marked_append f n a b))
marked_append zero zero (m ∷ a) b = simp (zero-sub, marked_none)
marked_append zero (suc n) (m ∷ a) b =
    let rest = marked_append zero n a b in
    simp (zero-sub, sub-zero, suc-sub-suc) (ap (λ (l : List Bool). true ∷ l) (simp (zero-sub, sub-zero) at rest))

-- what a range has of four lists of 64 elements, the one behind the other
module _ {A : Type 0} (G : ℕ → ℕ → List A → List A) (append : (f n : ℕ) (a b : List A) → G f n (a ++ b) ≡ G f n a ++ G (f - length a) (n - (length a - f)) b)
    (from n : ℕ) where
  abbrev at : ℕ → List A → List A
  at s xs = G (from - s) (n - (s - from)) xs

  next : (s k : ℕ) (a b : List A) → length a ≡ k → at s (a ++ b) ≡ at s a ++ at (s + k) b
  next s k a b h =
      let f : from - s - length a ≡ from - (s + k) = omega arith in
      let before : s - from + (length a - (from - s)) ≡ s + k - from = omega arith in
      let c = sym (sub-add-eq n (s - from) (length a - (from - s))) ∙ ap (λ (i : ℕ). n - i) before in
      append (from - s) (n - (s - from)) a b ∙ ap₂ (λ (i j : ℕ). at s a ++ G i j b) f c

  pub four : (a b c d : List A) → length a ≡ 64 → length b ≡ 64 → length c ≡ 64 → G from n (a ++ (b ++ (c ++ d))) ≡ at 0 a ++ (at 64 b ++ (at 128 c ++ at 192 d))
  four a b c d ha hb hc =
      let all = a ++ (b ++ (c ++ d)) in
      let whole : G from n all ≡ at 0 all = rw (sub-zero, zero-sub, sub-zero) in
      whole ∙ next 0 64 a (b ++ (c ++ d)) ha
      ∙ ap (λ (l : List A). at 0 a ++ l) (next 64 64 b (c ++ d) hb ∙ ap (λ (l : List A). at 64 b ++ l) (next 128 64 c d hc))

-- past the end there are no marks
pub part_clip : {A : Type 0} (f n k : ℕ) (xs : List A) → length xs ≡ k → part (min f k) (min n (k - min f k)) xs ≡ part f n xs
part_clip {A} f n k xs h =
    let l : min n (k - min f k) ≡ min n (length (drop f xs)) = rw length-drop (omega arith) in
    ap₂ (λ (c : ℕ) (ys : List A). take c ys) l (ap (λ (i : ℕ). drop (min f i) xs) (sym h) ∙ drop-least f xs) ∙ take-least n (drop f xs)

pub marked_clip : (f n : ℕ) (ms : List Bool) → marked (min f (length ms)) (min n (length ms - min f (length ms))) ms ≡ marked f n ms
marked_clip f n [] = refl
marked_clip (suc f) n (m ∷ ms) = simp (suc-min-suc, suc-sub-suc) (ap (λ (l : List Bool). m ∷ l) (marked_clip f n ms))
marked_clip zero zero (m ∷ ms) = simp zero-min
marked_clip zero (suc n) (m ∷ ms) =
    let rest = marked_clip zero n ms in
    simp (zero-min, sub-zero, suc-min-suc) (ap (λ (l : List Bool). true ∷ l) (simp (zero-min, sub-zero) at rest))

-- the marks of a range are set
pub marked_over : (f n : ℕ) (ms : List Bool) → marked f n ms ≡ over f (replicate (min n (length ms - f)) true) ms
marked_over f n [] = simp (zero-sub, min-zero, take-nil, drop-nil)
marked_over (suc f) n (m ∷ ms) = simp (suc-sub-suc, suc-add) (ap (λ (l : List Bool). m ∷ l) (marked_over f n ms))
marked_over zero zero (m ∷ ms) = simp zero-min
marked_over zero (suc n) (m ∷ ms) =
    let rest = marked_over zero n ms in
    simp (sub-zero, suc-min-suc, zero-add) (ap (λ (l : List Bool). true ∷ l) (simp (sub-zero, zero-add) at rest))

-- a mark is set that was or that is of the range
pub marked_at : (f n : ℕ) (ms : List Bool) (u : ℕ) → u < length ms → get_or (marked f n ms) u false ≡ (get_or ms u false || (leb f u && ltb u (f + n)))
marked_at f n [] u h = absurd (omega arith)
marked_at (suc f) n (m ∷ ms) zero h = simp (leb-suc-zero, or-false)
marked_at (suc f) n (m ∷ ms) (suc u) h = simp (suc-add, leb-suc-suc) (marked_at f n ms u (omega arith))
marked_at zero zero (m ∷ ms) u h = simp (leb-zero, leb-suc-zero, or-false)
marked_at zero (suc n) (m ∷ ms) zero h = simp (zero-add, leb-suc-suc 0 n, leb-zero, or-true)
marked_at zero (suc n) (m ∷ ms) (suc u) h =
    let rest = marked_at zero n ms u (omega arith) in
    simp (zero-add, leb-zero, leb-suc-suc) (simp (zero-add, leb-zero) at rest)

module _ {A : Type 0} (p : A → Bool) where
  pub any_append : (a b : List A) → any_of p (a ++ b) ≡ (any_of p a || any_of p b)
  any_append [] b = refl
  any_append (x ∷ a) b = ap (λ (t : Bool). p x || t) (any_append a b) ∙ sym (or_assoc (p x) (any_of p a) (any_of p b))
