-- `comparing::blocks::Front::next_masked` meets its contract: no place is passed that is wanted.
use Prim.Native.Nat.{ℕ}
use mathlib.Core.Bool.{Bool, not, ◌&&◌}
use mathlib.Core.List.{List}
use Rattle.comparing.specs.Runs.{is_masked_byte, is_unequal_at}
use Rattle.comparing.specs.Search.{NoneIn}
use Rattle.comparing.proofs.blocks.Front.next_masked.Given as goal

abbrev pub unlike : List ℕ → List ℕ → ℕ → Bool
unlike a b q = not (is_masked_byte q) && is_unequal_at a b q

abbrev pub invariant-loop-p : goal.invariant-loop-p
invariant-loop-p l = NoneIn (unlike l.a l.b) l.wanted l.start l.p
