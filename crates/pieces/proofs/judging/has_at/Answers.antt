use mathlib.Core.Path.{ap, ◌∙◌}
use mathlib.Core.List.{List}
use Prim.Native.Nat.{ℕ}
use lib.ListN.{length, take}
use Rattle.lists.proofs.Parts.{part_from_lem}
use Rattle.pieces.specs.Places.{is_equal}
use Rattle.pieces.proofs.Found.{starts-equal}
use Rattle.pieces.proofs.judging.has_at.Goals as goal

pub returns : goal.returns
returns c = let a = c.args in
    c.starts_with.ensures.value
    ∙ starts-equal (take (length a.payload.now) _) a.payload.now
    ∙ ap (λ (xs : List ℕ). is_equal (take (length a.payload.now) xs) a.payload.now) (part_from_lem a.at c.min.result a.memory.now c.min.ensures)
