-- `routers::RouterList::replaced`: the first i places have the new due times, the others the old ones.
--
use borrow.Author.Rules.{rules}
use native.Mathlib.Omega.{arith}
use mathlib.Core.Path.{◌≡◌, refl}
use lib.ListN.{length}
use Rattle.routers.specs.Routers.{held_in, due_or}
use Rattle.routers.proofs.Rows.{places}
use Rattle.routers.proofs.Laws.{fill, filled}
use Rattle.routers.proofs.RouterList.replaced.Goals as goal

pub loop-i-init : goal.loop-i-init
loop-i-init c = (omega arith, refl)

pub slice_bounds-due_among-end : goal.slice_bounds-due_among-end
slice_bounds-due_among-end c = let whole : length c.args.self.addresses ≡ places = search rules in omega arith

pub slice_bounds-due_among-end-in-loop-i : goal.slice_bounds-due_among-end-in-loop-i
slice_bounds-due_among-end-in-loop-i c = let full : length c.args.self.dues ≡ places = search rules in omega arith

pub loop-i-preserved : goal.loop-i-preserved
loop-i-preserved c = let a = c.args in
    let l = a.self in
    let full : length l.dues ≡ places = search rules in
    let whole : length a.addresses ≡ places = search rules in (
      omega arith,
      rw (c.due_among.ensures, c.from.ensures, c.loop-i.invariant.1)
          (fill (λ x. due_or a.now x (held_in l.addresses l.dues l.count)) a.addresses l.dues c.loop-i.i 0 (omega arith) (omega arith)),
    )

pub returns : goal.returns
returns c = let a = c.args in
    let l = a.self in
    let full : length l.dues ≡ places = search rules in
    let whole : length a.addresses ≡ places = search rules in
    rw (c.loop-i.invariant.1, filled (λ x. due_or a.now x (held_in l.addresses l.dues l.count)) a.addresses l.dues c.loop-i.i (omega arith) (omega arith))
