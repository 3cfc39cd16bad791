-- `header::chain::walk`: the header passed lies within the bytes, and is at least 8 bytes long.
use native.Mathlib.Omega.{arith}
use mathlib.Core.Path.{sym, ap, ◌∙◌}
use Prim.Native.Nat.{◌-◌}
use lib.ListN.{length, drop, length-take, length-drop}
use Rattle.lists.proofs.Parts.{rest_from}
use Rattle.lists.proofs.Walks.{walked_none, walked_end, walked_step}
use Rattle.header.specs.Walks.{passed_length, next_in, walked_to, walked_of}
use Rattle.header.proofs.ChainLaws.{passed-fits, passed-least, told, not_told}
use Rattle.header.proofs.chain.+walk.Goals as goal

pub returns-else-most-gt0 : goal.returns-else-most-gt0
unfolding walked_of
returns-else-most-gt0 t c =
    let a = c.args in
    ap walked_to (sym (walked_none passed_length next_in a.most a.next a.rest.now (omega arith)))

pub returns-in_default : goal.returns-in_default
unfolding walked_of
returns-in_default t c =
    let a = c.args in
    let n = passed_length a.next a.rest.now in
    ap walked_to (sym (walked_end passed_length next_in a.most a.next a.rest.now (not_told n (rw (← c.passed_length.ensures, c.in_default.is)))))

pub bounds-rest-0 : goal.bounds-rest-0
bounds-rest-0 t c =
    let a = c.args in
    let e = told (passed_length a.next a.rest.now) c.in-Some.size (sym c.passed_length.ensures ∙ c.in-Some.is) in
    omega (arith, passed-fits a.next a.rest.now, passed-least a.next a.rest.now e.1)

pub slice_bounds-walk-count : goal.slice_bounds-walk-count
slice_bounds-walk-count t c =
    let a = c.args in
    let e = told (passed_length a.next a.rest.now) c.in-Some.size (sym c.passed_length.ensures ∙ c.in-Some.is) in
    omega (arith, e.0, passed-fits a.next a.rest.now)

pub slice_bounds-walk-start : goal.slice_bounds-walk-start
slice_bounds-walk-start t c =
    let a = c.args in
    let e = told (passed_length a.next a.rest.now) c.in-Some.size (sym c.passed_length.ensures ∙ c.in-Some.is) in
    omega (arith, e.0, passed-fits a.next a.rest.now)

-- fewer bytes are left
pub walk-requires : goal.walk-requires
walk-requires t c =
    let a = c.args in
    let bs = a.rest.now in
    let n = c.in-Some.size in
    let e = told (passed_length a.next bs) n (sym c.passed_length.ensures ∙ c.in-Some.is) in
    (omega (arith, e.0, passed-fits a.next bs, passed-least a.next bs e.1, length-take (length bs - n) (drop n bs), length-drop n bs), tt)

pub returns-in-Some : goal.returns-in-Some
unfolding walked_of
returns-in-Some t c =
    let a = c.args in
    let bs = a.rest.now in
    let e = told (passed_length a.next bs) c.in-Some.size (sym c.passed_length.ensures ∙ c.in-Some.is) in
    c.walk.ensures
    ∙ rw (rest_from _ bs, ← e.0)
    (ap walked_to (sym (walked_step passed_length next_in a.most a.next bs (λ z. omega arith) e.1)))
