use mathlib.Core.Path.{◌∙◌}
use Prim.Native.Nat.{min}
use native.Mathlib.Omega.{arith}
use lib.ListN.{get_or}
use Rattle.paths.specs.Kept.{while_young, in_force}
use Rattle.paths.proofs.Arrays.{scanned_all, read_in_use, size-at}
use Rattle.paths.proofs.LentRows.size_toward.Goals as goal

-- a table in which no row is in use keeps nothing
pub returns-then-self-eq0 : goal.returns-then-self-eq0
unfolding in_force
returns-then-self-eq0 c = rw c.if-self-eq0.true

pub returns : goal.returns
returns c = let a = c.args in
    let r = c.row_in_lent-row.result in
    let m = c.most.result in
    c.size_at.ensures
    ∙ read_in_use (λ p. in_force a.link (while_young (get_or a.self.sizes.now p 0) (get_or a.self.times.now p 0) a.time)) r (min a.self.count m) a.link
    ∙ size-at (scanned_all a.self.neighbours.now a.self.sizes.now a.self.times.now a.self.count a.neighbour r m c.row_in_lent-row.ensures (omega arith)) a.time a.link
