-- `units::Held::range` meets its contract: each word has what is before the end less what is before the range.
use Rattle.units.proofs.Ranged.{less-range, words_le}
use Rattle.units.proofs.Held.range.Goals as goal

pub overflow_sub-result : goal.overflow_sub-result
overflow_sub-result c = let a = c.args in
    (words_le a.from a.count c.min.result c.min-2.result c.first.result c.first-2.result c.min.ensures c.min-2.ensures c.first.ensures c.first-2.ensures).0

pub overflow_sub-result-2 : goal.overflow_sub-result-2
overflow_sub-result-2 c = let a = c.args in
    (words_le a.from a.count c.min.result c.min-2.result c.first.result c.first-2.result c.min.ensures c.min-2.ensures c.first.ensures c.first-2.ensures).1

pub overflow_sub-result-3 : goal.overflow_sub-result-3
overflow_sub-result-3 c = let a = c.args in
    (words_le a.from a.count c.min.result c.min-2.result c.first.result c.first-2.result c.min.ensures c.min-2.ensures c.first.ensures c.first-2.ensures).2

pub overflow_sub-result-4 : goal.overflow_sub-result-4
overflow_sub-result-4 c = let a = c.args in
    (words_le a.from a.count c.min.result c.min-2.result c.first.result c.first-2.result c.min.ensures c.min-2.ensures c.first.ensures c.first-2.ensures).3

pub returns : goal.returns
returns c = let a = c.args in
    less-range a.from a.count c.min.result c.min-2.result c.first.result c.first-2.result c.min.ensures c.min-2.ensures c.first.ensures c.first-2.ensures
