-- `routers::stands`: the address stands there if it is one of those passed, or one from i on.
use borrow.Author.Rules.{rules}
use native.Mathlib.Omega.{arith}
use mathlib.Core.Path.{◌≡◌, sym, ◌∙◌}
use mathlib.Core.Bool.{or-false}
use lib.ListN.{length, length-take}
use Rattle.routers.proofs.Rows.{places}
use Rattle.routers.proofs.Laws.{any_step, past}
use Rattle.routers.proofs.stands.Goals as goal

pub loop-i-preserved : goal.loop-i-preserved
loop-i-preserved c = let a = c.args in
    let whole : length a.addresses ≡ places = search rules in
    c.loop-i.invariant ∙ any_step a.count c.loop-i.i a.addresses 0 (omega (arith, length-take a.count a.addresses)) _ c.loop-i.found

pub returns : goal.returns
returns c = let a = c.args in
    let whole : length a.addresses ≡ places = search rules in
    sym (c.loop-i.invariant ∙ rw (past a.count c.loop-i.i a.addresses (omega (arith, length-take a.count a.addresses)), or-false))
