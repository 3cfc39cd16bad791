use mathlib.Core.Path.{◌≡◌}
use native.Mathlib.Omega.{arith}
use borrow.Author.Rules.{rules}
use borrow.Author.Tests.{lt-ltb, le-ltb}
use lib.ListN.{length}
use Rattle.paths.specs.Kept.{most_neighbours}
use Rattle.paths.specs.Table.{kept_in}
use Rattle.paths.proofs.Arrays.{Scanned, kept_at, kept_in_none}
use Rattle.paths.proofs.PathTable.kept.Goals as goal

pub returns-then-self-eq0 : goal.returns-then-self-eq0
returns-then-self-eq0 c = kept_in_none _ _ _ c.if-self-eq0.true

pub row_of-p-requires : goal.row_of-p-requires
row_of-p-requires c = let full : length c.args.self.neighbours ≡ most_neighbours = search rules in omega arith

pub returns-then-p-count : goal.returns-then-p-count
unfolding kept_in
returns-then-p-count c =
    let t = c.args.self in
    let neighbours : length t.neighbours ≡ most_neighbours = search rules in
    let sizes : length t.sizes ≡ most_neighbours = search rules in
    let times : length t.times ≡ most_neighbours = search rules in
    let scanned : Scanned t.neighbours t.sizes t.times t.count c.args.neighbour c.min-count.result c.row_of-p.result = record { used = omega arith; row = c.row_of-p.ensures } in
    rw (kept_at scanned c.args.now, lt-ltb _ _ c.if-p-count.true) c.while_young.ensures

pub returns-else-p-count : goal.returns-else-p-count
unfolding kept_in
returns-else-p-count c =
    let t = c.args.self in
    let neighbours : length t.neighbours ≡ most_neighbours = search rules in
    let sizes : length t.sizes ≡ most_neighbours = search rules in
    let times : length t.times ≡ most_neighbours = search rules in
    let scanned : Scanned t.neighbours t.sizes t.times t.count c.args.neighbour c.min-count.result c.row_of-p.result = record { used = omega arith; row = c.row_of-p.ensures } in
    rw (kept_at scanned c.args.now, le-ltb _ _ c.if-p-count.false)
