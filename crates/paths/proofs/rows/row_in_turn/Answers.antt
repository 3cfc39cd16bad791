use Prim.Native.Nat.{ℕ}
use mathlib.Core.Path.{◌∙◌}
use lib.Dec.{eqb}
use borrow.Author.Tests.{tests}
use Rattle.std.proofs.Common.{rules}
use Rattle.std.proofs.lemmas.Iterator.{YieldsList-from_slice}
use Rattle.std.proofs.lemmas.Iterator.Search.{position_from_yields_List}
use Rattle.paths.proofs.Scan.{row-found}
use Rattle.paths.proofs.rows.row_in_turn.Goals as goal

pub returns : goal.returns
returns c = let a = c.args in
    c.unwrap_or.ensures ∙ row-found a.neighbour a.used.now c.position.result
    (position_from_yields_List (λ (b : ℕ). eqb b a.neighbour) _ _ c.position.result c.position.ensures.ran (YieldsList-from_slice a.used.now cc) (λ x b q k. search (rules, tests)))
