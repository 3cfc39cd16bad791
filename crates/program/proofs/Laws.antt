-- Laws of the program: which text there is, one line after another, and what is given back. Assumes nothing.
use Rattle.std.specs.Prelude.{Result}
use Rattle.refusals.specs.declared.Refusal.{Refusal}
use Prim.Native.Nat.{ℕ, suc, ◌+◌, ◌-◌, ◌≤◌, ◌<◌}
use mathlib.Core.Path.{◌≡◌, refl, sym, ◌∙◌}
use mathlib.Core.Bool.{Bool, true, false, cond}
use mathlib.Core.List.{List, ◌∷◌}
use native.Mathlib.Omega.{arith}
use native.Mathlib.Nat.{zero-add}
use native.Mathlib.Numerals.{add-one}
use borrow.Author.Tests.{lt-ltb, le-ltb}
use lib.Dec.{ltb}
use lib.ListN.{length, get_or, drop, length-append}
use lib.Seq.{drop-cons, take-append_seam}
use Rattle.lent.specs.Written.{written}
use Rattle.lent.proofs.Laws.{written_at-first}
use Rattle.text.proofs.Laws.{Wrote, behind-fits}
use Rattle.settings.specs.Settings.{is_accepted}
use Rattle.node.specs.Node.{setup_of}
use Rattle.node.specs.declared.Node.{Node}
use Rattle.node.specs.declared.receive.Receipt.{Receipt}
use Rattle.input.specs.Section.{count_of}
use Rattle.input.specs.Input.{settings_of, is_well_formed}
use Rattle.input.specs.Recording.{Datagram, interface_of, bytes_of, behind_datagram, first_datagram, datagrams_from, datagrams_of}
use Rattle.program.specs.Lines.{bad_input}
use Rattle.program.specs.Program.{line_with, receipt_of, memory_after, lines_for, lines_of, taken_text, text_for, output_room, IsFront, count_given, bytes_left}
use Rattle.program.proofs.Lengths.{many_lines, text_short}

-- refused settings, and an input that is not well-formed, get the one line
pub text_refused : (s : List ℕ) → is_accepted (settings_of s) ≡ false → text_for s ≡ bad_input
unfolding text_for taken_text setup_of
text_refused s a = rw a (same (is_well_formed s))
  where
    same : (t : Bool) → cond t bad_input bad_input ≡ bad_input
    same true = refl
    same false = refl

pub text_malformed : (s : List ℕ) → is_well_formed s ≡ false → text_for s ≡ bad_input
unfolding text_for
text_malformed s h = rw h

-- a walk has come to the datagram of number k, counted from 0: the lines that are left are those of the datagrams that start with
-- rest, on the node and with the memory that the ones before leave
abbrev pub Walked : Node → List ℕ → List ℕ → ℕ → Node → List ℕ → List ℕ → Type 0
Walked node₀ memory₀ r k node memory rest = drop k (lines_of node₀ memory₀ r) ≡ lines_for node memory (datagrams_from (count_of r - k) rest)

pub walked-first : (node : Node) (memory r : List ℕ) → Walked node memory r 0 node memory (first_datagram r)
unfolding lines_of datagrams_of
walked-first node memory r = let e : count_of r - 0 ≡ count_of r = omega arith in rw e

-- the datagram at the start of rest
abbrev pub datagram_at : List ℕ → Datagram
datagram_at rest = record { interface = interface_of rest; bytes = bytes_of rest }

module _ (node₀ : Node) (memory₀ r : List ℕ) (k : ℕ) (none : Result ℕ Refusal) (h : k < count_of r) (node : Node) (memory rest : List ℕ) (w : Walked node₀ memory₀ r k node memory rest) where
  abbrev ls : List (Result ℕ Refusal)
  ls = lines_of node₀ memory₀ r

  abbrev receipt : Receipt
  receipt = receipt_of node memory (datagram_at rest)

  walked_both : get_or ls k none ∷ drop (suc k) ls
      ≡ line_with receipt.answer ∷ lines_for receipt.node (memory_after node memory (datagram_at rest)) (datagrams_from (count_of r - (k + 1)) (behind_datagram rest))
  walked_both =
      let e : count_of r - k ≡ suc (count_of r - (k + 1)) = omega arith in
      sym (drop-cons ls k none (omega (arith, many_lines node₀ memory₀ r))) ∙ w ∙ rw e

  -- its line, and then the next one
  pub walked_line : line_with receipt.answer ≡ get_or ls k none
  walked_line = cc walked_both

  pub walked_next : Walked node₀ memory₀ r (k + 1) receipt.node (memory_after node memory (datagram_at rest)) (behind_datagram rest)
  walked_next = let d : drop (k + 1) ls ≡ drop (suc k) ls = rw add-one in cc walked_both

-- what is given back is the length of a front of the lent bytes
pub given-front : (s d : List ℕ) → IsFront (count_given s d) (bytes_left s d)
unfolding count_given bytes_left
given-front s d = tested (ltb (length d) output_room)
  where
    tested : (t : Bool) → IsFront (cond t 0 (length (text_for s))) (cond t d (written (text_for s) d))
    tested true = (omega arith, refl)
    tested false = (rw length-append (omega arith), rw take-append_seam)

count-given : (s d : List ℕ) {r : ℕ} {e : List ℕ} → output_room ≤ length d → Wrote 0 (text_for s) d r e → (r ≡ count_given s d) × (e ≡ bytes_left s d)
unfolding count_given bytes_left
count-given s d h w =
    let l : length (text_for s) ≤ length d = omega (arith, text_short s) in
    let t = le-ltb (length d) output_room h in
    let r = w.0 ∙ behind-fits 0 (text_for s) d (omega arith) ∙ zero-add (length (text_for s)) in
    (simp t r, simp t (written_at-first (text_for s) d l w.1))

-- all that is promised, with too little room and with enough
abbrev pub Promised : List ℕ → List ℕ → ℕ → List ℕ → Type 0
Promised s d r e = (r ≡ count_given s d) × ((e ≡ bytes_left s d) × IsFront r e)

pub none-given : (s d : List ℕ) → length d < output_room → Promised s d 0 d
unfolding count_given bytes_left
none-given s d h = let t = lt-ltb (length d) output_room h in (simp t, (simp t, (omega arith, refl)))

pub text_given : (s d : List ℕ) {r : ℕ} {e : List ℕ} → output_room ≤ length d → Wrote 0 (text_for s) d r e → Promised s d r e
text_given s d h w =
    let f = count-given s d h w in
    (f.0, (f.1, rw (f.0, f.1) (given-front s d)))
