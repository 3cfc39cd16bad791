-- `options::read`: all options say what those from `at` on say, with what is found up to there. A turn's walk takes some of the
-- bytes, since there is an option.
use native.Mathlib.Omega.{arith}
use mathlib.Core.Path.{◌≡◌, sym, ◌∙◌}
use lib.ListN.{drop}
use Rattle.lists.proofs.Parts.{rest_from}
use Rattle.options.specs.Options.{option_size}
use Rattle.options.proofs.Sizes.{is_told, not_told}
use Rattle.options.proofs.Walks.{turn_left, turn_falls, turn_on, read_at}
use Rattle.options.proofs.read.Goals as goal

pub loop-more-init : goal.loop-more-init
loop-more-init c = (omega arith, rw (c.is_some-more.ensures, c.option_size.ensures), cc)

pub overflow_sub-at : goal.overflow_sub-at
overflow_sub-at c = let left = turn_left _ c.loop-more.at c.args.options.now c.loop-more.found c.walk-walked.result c.walk-walked.ensures in
    omega arith

pub loop-more-smaller : goal.loop-more-smaller
loop-more-smaller c = let bs = c.args.options.now in
    let good = is_told _ (sym c.loop-more.invariant.1 ∙ c.loop-more-test.true) in
    let falls = turn_falls _ c.loop-more.at bs c.loop-more.found c.walk-walked.result c.walk-walked.ensures good in
    omega arith

pub loop-more-preserved : goal.loop-more-preserved
loop-more-preserved c = let bs = c.args.options.now in
    (omega arith, rw (c.is_some-more-in-loop-more.ensures, c.option_size-in-loop-more.ensures, rest_from _ bs), c.loop-more.invariant.2 ∙ turn_on _ c.loop-more.at bs c.loop-more.found c.walk-walked.result c.walk-walked.ensures c.loop-more.invariant.0)

pub returns : goal.returns
returns c = let bs = c.args.options.now in
    let none : option_size (drop c.loop-more.at bs) ≡ 0 = not_told _ (sym c.loop-more.invariant.1 ∙ c.loop-more-test.false) in
    read_at c.loop-more.at bs c.loop-more.found c.loop-more.invariant.0 none ∙ sym c.loop-more.invariant.2
