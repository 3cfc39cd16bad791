use mathlib.Core.Path.{ap, ◌∙◌}
use Prim.Native.Nat.{ℕ, ◌+◌, min, max}
use native.Mathlib.Numerals.{add-one}
use lib.ListN.{length, get_or}
use Rattle.paths.specs.Kept.{while_young, in_force}
use Rattle.paths.specs.Look.{last_row}
use Rattle.paths.proofs.Arrays.{scanned_all, read_in_use, looked-at}
use Rattle.paths.proofs.LentRows.look.Goals as goal

pub returns : goal.returns
returns c = let a = c.args in
    let r : ℕ = c.row_in_lent-found.result in
    let m : ℕ = c.most-rows.result in
    let q : ℕ = c.min-row.result in
    looked-at
    (scanned_all a.self.neighbours.now a.self.sizes.now a.self.times.now a.self.count a.neighbour r m c.row_in_lent-found.ensures c.most-rows.ensures)
    a.time a.link q c.max.result c.size_at-in_force.result
    (c.size_at-in_force.ensures ∙ read_in_use (λ p. in_force a.link (while_young (get_or a.self.sizes.now p 0) (get_or a.self.times.now p 0) a.time)) r (min a.self.count m) a.link)
    (c.min-row.ensures ∙ ap (λ (k : ℕ). min k last_row) (c.min.ensures ∙ ap (min r) c.min-used.ensures))
    (rw (← add-one q) (c.max.ensures ∙ ap (λ (k : ℕ). max k (q + 1)) c.min-used.ensures))
