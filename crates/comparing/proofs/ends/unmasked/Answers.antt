-- `comparing::ends::unmasked` meets its contract: a turn counts the ends in one block of those that are left.
use Prim.Native.Nat.{◌+◌, ◌-◌}
use mathlib.Core.Path.{◌∙◌}
use mathlib.Core.Bool.{true}
use native.Mathlib.Omega.{arith}
use lib.ListN.{length-take, length-drop}
use Rattle.comparing.specs.Runs.{is_unequal_at}
use Rattle.comparing.specs.Search.{NoneIn}
use Rattle.comparing.proofs.Ending.{ends_more, ends-behind, ends-most, ends-block, block-length}
use Rattle.comparing.proofs.ends.unmasked.Goals as goal

pub loop-p-init : goal.loop-p-init
loop-p-init c = let a = c.args in
    let b = c.behind_blocks-p.ensures in
    (b.0, b.1, omega (arith, ends-behind (is_unequal_at a.a.now a.b.now) a.start c.behind_blocks-p.result a.end b.0 b.1 b.2))

pub in_block-n-requires : goal.in_block-n-requires
in_block-n-requires c = simp (length-take, length-drop) (omega arith, omega arith, omega arith)

pub overflow_add-n : goal.overflow_add-n
overflow_add-n c = let a = c.args in
    let t = is_unequal_at a.a.now a.b.now in
    let p = c.loop-p.p in
    let here = c.in_block-n.ensures ∙ ends-block a.a.now a.b.now p (p + 64) (p + 64 + 1 - p) (omega arith) (omega arith) (omega arith) in
    omega (arith, here, ends_more t p (p + 64) a.end (omega arith) (omega arith), ends-most t a.start (a.end - a.start))

pub loop-p-preserved : goal.loop-p-preserved
loop-p-preserved c = let a = c.args in
    let t = is_unequal_at a.a.now a.b.now in
    let p = c.loop-p.p in
    let b = c.behind_blocks-p-in-loop-p.ensures in
    let here = c.in_block-n.ensures ∙ ends-block a.a.now a.b.now p (p + 64) (p + 64 + 1 - p) (omega arith) (omega arith) (omega arith) in
    let more = ends_more t p (p + 64) a.end (omega arith) (omega arith) in
    (omega arith, b.1, omega (arith, here, more, ends-behind t (p + 64) c.behind_blocks-p-in-loop-p.result a.end b.0 b.1 b.2))

pub in_block-requires : goal.in_block-requires
in_block-requires c = let a = c.args in
    let r = c.max-r.result in
    block-length a.a.now a.b.now r a.end (a.end + 1 - r) (omega arith) (omega arith) (omega arith) (omega arith) (omega arith)

-- no place from where the blocks end is unequal, up to where the last block does
pub returns : goal.returns
returns c = let a = c.args in
    let t = is_unequal_at a.a.now a.b.now in
    let last = c.behind_block-last in
    let r = c.max-r.result in
    let none : NoneIn t true c.loop-p.p r = λ q h k. last.ensures.2 q (omega arith) (omega arith) in
    let here = c.in_block.ensures ∙ ends-block a.a.now a.b.now r a.end (a.end + 1 - r) (omega arith) (omega arith) (omega arith) in
    omega (arith, here, ends-behind t c.loop-p.p r a.end (omega arith) (omega arith) none)

pub overflow_add-result : goal.overflow_add-result
overflow_add-result c = let a = c.args in
    omega (arith, returns c, ends-most (is_unequal_at a.a.now a.b.now) a.start (a.end - a.start))
