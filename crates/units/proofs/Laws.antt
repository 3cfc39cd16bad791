-- Laws of the units that are held. Assumes nothing.
use Prim.Native.Nat.{ℕ, ◌+◌, ◌-◌, ◌≤◌, min}
use mathlib.Core.Path.{◌≡◌, refl, sym, ap, ap₂, ◌∙◌}
use mathlib.Core.Bool.{Bool, true, false}
use mathlib.Core.List.{List, [], ◌++◌, append-nil}
use native.Mathlib.Omega.{arith}
use lib.ListN.{length, drop, replicate, length-append, length-take, length-drop, length-replicate, take-append-drop, drop_of_length-le}
use lib.Seq.{drop-drop, length-take-le}
use Rattle.lists.specs.Parts.{part}
use Rattle.lent.specs.Written.{over}
use Rattle.units.specs.declared.Held.{Held}
use Rattle.units.proofs.Bits.{bits_back}
use Rattle.units.specs.Held.{bits_of, word_of, marks_in, held_of, held_with, none_held}

-- the words of a list's parts have its marks, the one behind the other
part-back : (k i j : ℕ) (ms : List Bool) → i + k ≡ j → j ≤ length ms → bits_of k (word_of (part i k ms)) ++ drop j ms ≡ drop i ms
part-back k i j ms e h =
    let l : length (part i k ms) ≡ k = length-take-le k (drop i ms) (rw length-drop (omega arith)) in
    let back = ap (λ (n : ℕ). bits_of n (word_of (part i k ms))) (sym l) ∙ bits_back (part i k ms) in
    ap₂ (λ (xs ys : List Bool). xs ++ ys) back (rw (← e) (sym (drop-drop k i ms))) ∙ take-append-drop k (drop i ms)

-- the words of 256 marks have these marks
pub marks_back : (ms : List Bool) → length ms ≡ 256 → marks_in (held_of ms) ≡ ms
unfolding marks_in held_of
marks_back ms h =
    let none : [] ≡ drop 256 ms = sym (drop_of_length-le ms {i = 256} (omega arith)) in
    let word : ℕ → List Bool = λ (i : ℕ). bits_of 64 (word_of (part i 64 ms)) in
    let last = sym (append-nil (word 192)) ∙ ap (λ (l : List Bool). word 192 ++ l) none ∙ part-back 64 192 256 ms refl (omega arith) in
    ap (λ (l : List Bool). word 0 ++ (word 64 ++ (word 128 ++ l))) last
    ∙ ap (λ (l : List Bool). word 0 ++ (word 64 ++ l)) (part-back 64 128 192 ms refl (omega arith))
    ∙ ap (λ (l : List Bool). word 0 ++ l) (part-back 64 64 128 ms refl (omega arith))
    ∙ part-back 64 0 64 ms refl (omega arith)

pub length_marks : (h : Held) → length (marks_in h) ≡ 256
unfolding marks_in
length_marks h = refl

-- units that are held besides are marked, as far as there are any
pub held-over : (h : Held) (from n : ℕ) → marks_in (held_with h from n) ≡ over from (replicate (min n (256 - from)) true) (marks_in h)
unfolding held_with
held-over h from n =
    marks_back (over from (replicate (min n (256 - from)) true) (marks_in h)) (simp (length-append, length-take, length-drop, length-replicate, length_marks) (omega arith))

pub held_marks : (h : Held) (from n : ℕ) → from + n ≤ 256 → marks_in (held_with h from n) ≡ over from (replicate n true) (marks_in h)
held_marks h from n fits =
    let least : min n (256 - from) ≡ n = omega arith in
    held-over h from n ∙ ap (λ (k : ℕ). over from (replicate k true) (marks_in h)) least

pub none_marks : marks_in none_held ≡ replicate 256 false
unfolding marks_in
none_marks = refl
