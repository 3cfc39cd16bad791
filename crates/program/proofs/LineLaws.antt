-- Laws of the output: one line more, and how long it is. Assumes nothing.
use Rattle.std.specs.Prelude.{Result, Ok, Err}
use Rattle.refusals.specs.declared.Refusal.{Refusal}
use Prim.Native.Nat.{ℕ, zero, suc, ◌+◌, ◌≤◌, ◌<◌, ◌^◌}
use mathlib.Core.Path.{◌≡◌, ◌∙◌}
use mathlib.Core.List.{List, [], ◌∷◌, ◌++◌, append_assoc, append-nil}
use native.Mathlib.Omega.{arith}
use native.Mathlib.Numerals.{add-one}
use lib.ListN.{length, get_or, take, length-append, length-take}
use lib.Seq.{take-suc, take-length}
use Rattle.text.proofs.Laws.{Wrote, wrote_none, wrote_more, decimal-short, length-decimal}
use Rattle.refusals.specs.Refusals.{number_of}
use Rattle.program.specs.Lines.{longest_line, datagrams_word, deliver_word, refuse_word, entry_of, count_line, line_of, lines_from}

-- the lines of the first i datagrams, counted from 1
unfoldable pub lines_to : ℕ → List (Result ℕ Refusal) → List ℕ
lines_to i ls = lines_from 1 (take i ls)

lines_last : (k : ℕ) (xs : List (Result ℕ Refusal)) (l : Result ℕ Refusal) → lines_from k (xs ++ (l ∷ [])) ≡ lines_from k xs ++ line_of (k + length xs) l
unfolding lines_from
lines_last k [] l = let e : k + 0 ≡ k = omega arith in rw (append-nil (line_of k l), e)
lines_last k (x ∷ xs) l =
    let e : k + suc (length xs) ≡ suc k + length xs = omega arith in
    rw (lines_last (suc k) xs l, append_assoc, e)

-- one line more
pub lines_more : (ls : List (Result ℕ Refusal)) (i : ℕ) (none : Result ℕ Refusal) → i < length ls → lines_to (i + 1) ls ≡ lines_to i ls ++ line_of (i + 1) (get_or ls i none)
unfolding lines_to
lines_more ls i none h =
    let e : 1 + length (take i ls) ≡ i + 1 = rw length-take (omega arith) in
    let t : take (i + 1) ls ≡ take i ls ++ (get_or ls i none ∷ []) = rw add-one (take-suc ls i none h) in
    rw (t, lines_last 1 (take i ls) (get_or ls i none), e)

-- a loop that writes one line after another: where it starts, a turn of it, and where it ends
pub lines_none : (ls : List (Result ℕ Refusal)) (at : ℕ) (d : List ℕ) → at ≤ length d → Wrote at (lines_to 0 ls) d at d
unfolding lines_to lines_from
lines_none ls at d h = wrote_none at d h

pub lines_turn : (ls : List (Result ℕ Refusal)) (i : ℕ) (l none : Result ℕ Refusal) (at : ℕ) (d : List ℕ) {r r' : ℕ} {e e' : List ℕ} → i < length ls
    → l ≡ get_or ls i none → at + length (lines_to (i + 1) ls) ≤ length d
    → Wrote at (lines_to i ls) d r e → Wrote r (line_of (i + 1) l) e r' e' → Wrote at (lines_to (i + 1) ls) d r' e'
lines_turn ls i l none at d h k f w v =
    let t : lines_to (i + 1) ls ≡ lines_to i ls ++ line_of (i + 1) l = lines_more ls i none h ∙ rw k in
    let g = rw t at f in
    rw t (wrote_more at (lines_to i ls) (line_of (i + 1) l) d g w v)

pub lines_end : (ls : List (Result ℕ Refusal)) → lines_to (length ls) ls ≡ lines_from 1 ls
unfolding lines_to
lines_end ls = rw take-length

front-short : (k : ℕ) (ls : List (Result ℕ Refusal)) (i : ℕ) → length (lines_from k (take i ls)) ≤ length (lines_from k ls)
unfolding lines_from
front-short k ls zero = omega arith
front-short k [] (suc i) = omega arith
front-short k (l ∷ ls) (suc i) = simp length-append (omega (arith, front-short (suc k) ls i))

-- the first lines are no longer than all of them
pub lines_front : (ls : List (Result ℕ Refusal)) (i : ℕ) → length (lines_to i ls) ≤ length (lines_from 1 ls)
unfolding lines_to
lines_front ls i = front-short 1 ls i

-- no entry and no line is longer than with numbers of 20 digits
pub entry_short : (w : List ℕ) (n : ℕ) → length (entry_of w n) ≤ length w + 21
unfolding entry_of
entry_short w n = simp length-append (omega (arith, decimal-short n))

pub line_short : (k : ℕ) (l : Result ℕ Refusal) → length (line_of k l) ≤ longest_line
unfolding line_of
line_short k (Ok n) = simp length-append (omega (arith, decimal-short k, entry_short deliver_word n))
line_short k (Err r) = simp length-append (omega (arith, decimal-short k, entry_short refuse_word (number_of r)))

length_entry : (w : List ℕ) (n j : ℕ) → n < 10 ^ suc j → length (entry_of w n) ≤ length w + j + 2
unfolding entry_of
length_entry w n j h = simp length-append (omega (arith, length-decimal n j h))

pub length-count : (n j : ℕ) → n < 10 ^ suc j → length (count_line n) ≤ j + 12
unfolding count_line
length-count n j h = omega (arith, length_entry datagrams_word n j h)

-- with five digits for the datagram's number a line has at most 35 bytes, and at most 16 where it refuses with a number of two digits
pub length_line : (k : ℕ) (l : Result ℕ Refusal) → k < 100000 → length (line_of k l) ≤ 35
unfolding line_of
length_line k (Ok n) h = simp length-append (omega (arith, length-decimal k 4 h, entry_short deliver_word n))
length_line k (Err r) h = simp length-append (omega (arith, length-decimal k 4 h, entry_short refuse_word (number_of r)))

pub length-refusal : (k : ℕ) (r : Refusal) → k < 100000 → number_of r < 100 → length (line_of k (Err r)) ≤ 16
unfolding line_of
length-refusal k r h g = simp length-append (omega (arith, length-decimal k 4 h, length_entry refuse_word (number_of r) 1 g))
