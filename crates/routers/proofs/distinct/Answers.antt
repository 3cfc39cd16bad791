-- `routers::distinct`: those passed are distinct from all behind them, so those from i on decide.
use borrow.Author.Rules.{rules}
use native.Mathlib.Omega.{arith}
use mathlib.Core.Path.{◌≡◌, sym, ◌∙◌}
use mathlib.Core.Bool.{true}
use lib.ListN.{length, length-take}
use Rattle.routers.specs.Routers.{are_distinct}
use Rattle.routers.proofs.Rows.{places}
use Rattle.routers.proofs.Laws.{distinct_step, past}
use Rattle.routers.proofs.distinct.Goals as goal

pub returns-then-stands : goal.returns-then-stands
returns-then-stands c = let a = c.args in
    let whole : length a.addresses ≡ places = search rules in
    sym (c.loop-i.invariant ∙ distinct_step a.count c.loop-i.i a.addresses (omega (arith, length-take a.count a.addresses)) true ∙ rw (← c.stands.ensures, c.if-stands.true))

pub loop-i-preserved : goal.loop-i-preserved
loop-i-preserved c = let a = c.args in
    let whole : length a.addresses ≡ places = search rules in
    c.loop-i.invariant ∙ distinct_step a.count c.loop-i.i a.addresses (omega (arith, length-take a.count a.addresses)) true ∙ rw (← c.stands.ensures, c.if-stands.false)

pub returns : goal.returns
unfolding are_distinct
returns c = let a = c.args in
    let whole : length a.addresses ≡ places = search rules in
    sym (c.loop-i.invariant ∙ rw (past a.count c.loop-i.i a.addresses (omega (arith, length-take a.count a.addresses))))
