-- `routers::RouterList::lists`: none is listed where none counts; who is listed is a matter of the addresses, of which there are as many
-- as due times.
--
use borrow.Author.Rules.{rules}
use native.Mathlib.Omega.{arith}
use mathlib.Core.Path.{◌≡◌, sym, ◌∙◌}
use lib.ListN.{length}
use Rattle.routers.proofs.Rows.{places, listed-held}
use Rattle.routers.proofs.RouterList.lists.Goals as goal

pub returns-then-self-eq0 : goal.returns-then-self-eq0
returns-then-self-eq0 c = rw c.if-self-eq0.true

pub slice_bounds-lists_among-end : goal.slice_bounds-lists_among-end
slice_bounds-lists_among-end c = let whole : length c.args.self.addresses ≡ places = search rules in omega arith

pub returns : goal.returns
returns c = let a = c.args in
    let l = a.self in
    let whole : length l.addresses ≡ places = search rules in
    let full : length l.dues ≡ places = search rules in
    c.lists_among.ensures ∙ sym (listed-held a.address l.count l.addresses l.dues (omega arith))
