-- What follows from a header that is read, and 5 behind 2 to 4. Assumes nothing.
use Rattle.std.specs.Prelude.{Result, Ok, Err}
use Prim.Native.Nat.{ℕ}
use mathlib.Core.Path.{◌≡◌, refl, sym, ◌∙◌}
use mathlib.Core.List.{List, ◌++◌}
use lib.ListN.{length}
use Rattle.refusals.specs.Refusals.{first_of, stop_or}
use Rattle.refusals.proofs.Laws.{stop_append}
use Rattle.refusals.specs.declared.Refusal.{Refusal}
use Rattle.header.specs.Outer.{outer_of, header_rows, protocol_rows, piece_rows, header_check, outer_check, read_with, header_read_of, outer_read_of}
use Rattle.header.specs.declared.outer.Outer.{Outer}

-- what follows from a header that is read; of a refusal, that refusal in the form of the call's answer
abbrev pub read_or : {A : Type 0} → (Refusal → A) → Result Outer Refusal → (Outer → A) → A
read_or refuse (Ok o) follows = follows o
read_or refuse (Err refusal) follows = refuse refusal

-- what follows from a header that a check lets pass follows the check
pub read_stop : {A : Type 0} (refuse : Refusal → A) (c : Result Unit Refusal) (o : Outer) (follows : Outer → A)
    → read_or refuse (read_with c o) follows ≡ stop_or refuse c (follows o)
read_stop refuse (Ok tt) o follows = refl
read_stop refuse (Err r) o follows = refl

-- 2 to 5 are 2 to 4, and then 5
pub outer_read : (d : List ℕ) → outer_read_of d ≡ read_or Err (header_read_of d) (λ (o : Outer). read_with (first_of (piece_rows o)) o)
unfolding outer_read_of header_read_of outer_check header_check
outer_read d =
    let o = outer_of d in
    stop_append Err (header_rows (length d) d o ++ protocol_rows o) (piece_rows o) (Ok o)
    ∙ sym (read_stop Err (header_check (length d) d o) o (λ (q : Outer). read_with (first_of (piece_rows q)) q))
