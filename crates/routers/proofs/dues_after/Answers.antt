-- `routers::dues_after`: the first i places are done, the others as they were.
--
use borrow.Author.Rules.{rules}
use native.Mathlib.Omega.{arith}
use mathlib.Core.Path.{◌≡◌, refl, ◌∙◌}
use lib.ListN.{length}
use Rattle.routers.specs.declared.Router.{Router}
use Rattle.routers.specs.Routers.{pairs, due_if}
use Rattle.routers.specs.Facts.{no_router}
use Rattle.routers.proofs.Laws.{fill, filled}
use Rattle.routers.proofs.Rows.{places, pairs-length, stored_due, dues_made}
use Rattle.routers.proofs.dues_after.Goals as goal

pub loop-i-init : goal.loop-i-init
loop-i-init c = (omega arith, refl)

pub loop-i-preserved : goal.loop-i-preserved
loop-i-preserved c = let a = c.args in
    let whole : length a.addresses ≡ places = search rules in
    let full : length a.dues ≡ places = search rules in (
      omega arith,
      rw (c.due_if.ensures, c.loop-i.invariant.1, ← stored_due a.address a.due c.loop-i.i a.addresses a.dues (omega arith) (omega arith))
          (fill (λ (r : Router). (due_if a.address a.due r).due) (pairs a.addresses a.dues) a.dues c.loop-i.i no_router (omega (arith, pairs-length a.addresses a.dues)) (omega arith)),
    )

pub returns : goal.returns
returns c = let a = c.args in
    let whole : length a.addresses ≡ places = search rules in
    let full : length a.dues ≡ places = search rules in
    c.loop-i.invariant.1 ∙ filled (λ (r : Router). (due_if a.address a.due r).due) (pairs a.addresses a.dues) a.dues c.loop-i.i (omega (arith, pairs-length a.addresses a.dues)) (omega arith)
    ∙ dues_made a.address a.due (pairs a.addresses a.dues)
