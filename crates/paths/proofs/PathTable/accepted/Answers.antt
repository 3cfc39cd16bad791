use native.Mathlib.Omega.{arith}
use mathlib.Core.Path.{◌≡◌, ◌∙◌}
use borrow.Author.Rules.{rules}
use lib.ListN.{length}
use Rattle.paths.specs.Kept.{most_neighbours}
use Rattle.paths.proofs.Arrays.{Scanned, pushed-there, made}
use Rattle.paths.proofs.PathTable.accepted.Goals as goal

pub row_of-requires : goal.row_of-requires
row_of-requires c = let full : length c.args.self.neighbours ≡ most_neighbours = search rules in omega arith

pub returns : goal.returns
returns c =
    let a = c.args in
    let t = c.args.self in
    let p = c.min-last.result in
    let neighbours : length t.neighbours ≡ most_neighbours = search rules in
    let sizes : length t.sizes ≡ most_neighbours = search rules in
    let times : length t.times ≡ most_neighbours = search rules in
    let scanned : Scanned t.neighbours t.sizes t.times t.count a.neighbour c.min-used.result c.row_of.result = record { used = omega arith; row = c.row_of.ensures } in
    made scanned a.now a.size p c.max.result _ _ _ c.min-last.ensures (omega arith)
    (c.push.ensures ∙ pushed-there a.neighbour p t.neighbours (omega arith))
    (c.push-2.ensures ∙ pushed-there a.size p t.sizes (omega arith))
    (c.push-3.ensures ∙ pushed-there a.now p t.times (omega arith))
