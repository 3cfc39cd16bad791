-- `address::on_link` meets its contract: none of the prefixes passed fits, so what is left to ask is the rest of them.
use native.Mathlib.Omega.{arith}
use native.Mathlib.Numerals.{add-one}
use Prim.Native.Nat.{min}
use mathlib.Core.Path.{◌≡◌, ◌∙◌}
use mathlib.Core.List.{[]}
use lib.ListN.{length, take, drop_of_length-le}
use lib.Seq.{drop-cons}
use Rattle.lists.proofs.Parts.{take-least}
use Rattle.address.specs.Address.{is_on_link}
use Rattle.address.proofs.on_link.Goals as goal

pub returns-then-link_local_prefixed : goal.returns-then-link_local_prefixed
unfolding is_on_link
returns-then-link_local_prefixed g c = rw (← c.quads-q.ensures, ← c.link_local_prefixed.ensures, c.if-link_local_prefixed.true)

pub loop-p-init : goal.loop-p-init
unfolding is_on_link
loop-p-init g c = let a = c.args in
    let n : c.min.result ≡ min a.count (length a.prefixes) = omega arith in
    rw (← c.link_local_prefixed.ensures, c.if-link_local_prefixed.false, n, take-least a.count a.prefixes)

pub returns-then-under : goal.returns-then-under
returns-then-under g c = let all = take c.min.result c.args.prefixes in
    rw (← c.quads-q.ensures, c.loop-p.invariant, drop-cons all c.loop-p.p-index [] c.loop-p-test.true, ← c.under.ensures, c.if-under.true)

pub loop-p-preserved : goal.loop-p-preserved
loop-p-preserved g c = let all = take c.min.result c.args.prefixes in
    c.loop-p.invariant ∙ rw (drop-cons all c.loop-p.p-index [] c.loop-p-test.true, ← c.under.ensures, c.if-under.false, add-one)

pub returns : goal.returns
returns g c = let all = take c.min.result c.args.prefixes in
    rw (← c.quads-q.ensures, c.loop-p.invariant, drop_of_length-le all c.loop-p-test.false)
