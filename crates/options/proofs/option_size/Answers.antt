-- `options::option_size`: by its tests.
use mathlib.Core.Path.{◌∙◌}
use native.Mathlib.Omega.{arith}
use Prim.Native.Nat.{◌*◌}
use lib.Dec.{leb}
use lib.ListN.{length, get_or}
use Rattle.options.specs.Options.{unit_bytes, option_size}
use Rattle.options.proofs.Sizes.{size-short, sized}
use Rattle.options.proofs.option_size.Goals as goal

pub returns-then-rest-lt2 : goal.returns-then-rest-lt2
returns-then-rest-lt2 c = rw (← size-short _ c.if-rest-lt2.true)

pub overflow_mul-size : goal.overflow_mul-size
overflow_mul-size c = omega (arith, c.from-size.ensures, c.type_inv.rest 1)

pub returns : goal.returns
unfolding option_size
returns c = let bs = c.args.rest.now in
    let n = get_or bs 1 0 * unit_bytes in
    c.then_some.ensures ∙ rw c.from-size.ensures (sized n (leb n (length bs)))
