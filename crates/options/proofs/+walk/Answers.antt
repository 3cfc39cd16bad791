-- `options::walk`: the first option lies within the bytes, and is at least 8 bytes long.
use native.Mathlib.Omega.{arith}
use mathlib.Core.Path.{sym, ap, ◌∙◌}
use Prim.Native.Nat.{◌-◌}
use lib.ListN.{length, drop, length-take, length-drop}
use Rattle.lists.proofs.Parts.{rest_from}
use Rattle.lists.proofs.Walks.{walked_none, walked_end, walked_step}
use Rattle.options.specs.Options.{option_size}
use Rattle.options.specs.SoFar.{size_after, found_with, walked_to, walked_of}
use Rattle.options.proofs.Sizes.{size_fits, size-least, told, not_told}
use Rattle.options.proofs.+walk.Goals as goal

pub returns-else-most-gt0 : goal.returns-else-most-gt0
unfolding walked_of
returns-else-most-gt0 t c =
    let a = c.args in
    ap walked_to (sym (walked_none size_after found_with a.most a.found a.rest.now (omega arith)))

pub returns-in_default : goal.returns-in_default
unfolding walked_of
returns-in_default t c =
    let a = c.args in
    ap walked_to (sym (walked_end size_after found_with a.most a.found a.rest.now (not_told (option_size a.rest.now) (rw (← c.option_size.ensures, c.in_default.is)))))

pub with_option-next-requires : goal.with_option-next-requires
with_option-next-requires t c =
    let bs = c.args.rest.now in
    let e = told (option_size bs) c.in-Some.size (sym c.option_size.ensures ∙ c.in-Some.is) in
    omega (arith, size_fits bs, size-least bs e.1)

pub slice_bounds-walk-count : goal.slice_bounds-walk-count
slice_bounds-walk-count t c =
    let bs = c.args.rest.now in
    let e = told (option_size bs) c.in-Some.size (sym c.option_size.ensures ∙ c.in-Some.is) in
    omega (arith, e.0, size_fits bs)

pub slice_bounds-walk-start : goal.slice_bounds-walk-start
slice_bounds-walk-start t c =
    let bs = c.args.rest.now in
    let e = told (option_size bs) c.in-Some.size (sym c.option_size.ensures ∙ c.in-Some.is) in
    omega (arith, e.0, size_fits bs)

-- fewer bytes are left
pub walk-requires : goal.walk-requires
walk-requires t c =
    let bs = c.args.rest.now in
    let n = c.in-Some.size in
    let e = told (option_size bs) n (sym c.option_size.ensures ∙ c.in-Some.is) in
    (omega (arith, e.0, size_fits bs, size-least bs e.1, length-take (length bs - n) (drop n bs), length-drop n bs), tt)

pub returns-in-Some : goal.returns-in-Some
unfolding walked_of
returns-in-Some t c =
    let a = c.args in
    let bs = a.rest.now in
    let e = told (option_size bs) c.in-Some.size (sym c.option_size.ensures ∙ c.in-Some.is) in
    c.walk.ensures
    ∙ rw (rest_from _ bs, c.with_option-next.ensures, ← e.0)
    (ap walked_to (sym (walked_step size_after found_with a.most a.found bs (λ z. omega arith) e.1)))
