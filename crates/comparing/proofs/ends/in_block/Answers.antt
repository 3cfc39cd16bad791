-- `comparing::ends::in_block` meets its contract: a turn counts one place of those that are left.
use Prim.Native.Nat.{◌-◌}
use native.Mathlib.Omega.{arith}
use lib.ListN.{length}
use Rattle.comparing.specs.Runs.{is_unequal_at}
use Rattle.comparing.proofs.Ending.{ends_turn, ends-past, ends-most}
use Rattle.comparing.proofs.ends.in_block.Goals as goal

pub loop-i-init : goal.loop-i-init
loop-i-init c = omega arith

pub overflow_add-n-in-loop-i-2 : goal.overflow_add-n-in-loop-i-2
overflow_add-n-in-loop-i-2 c = let a = c.args in
    let t = is_unequal_at a.a.now a.b.now in
    omega (arith, ends_turn t c.loop-i.i (length a.a.now - 1) (omega arith), ends-most t 0 (length a.a.now - 1 - 0))

pub loop-i-preserved : goal.loop-i-preserved
loop-i-preserved c = let a = c.args in
    let e = ends_turn (is_unequal_at a.a.now a.b.now) c.loop-i.i (length a.a.now - 1) (omega arith) in
    omega arith

pub overflow_cast-result : goal.overflow_cast-result
overflow_cast-result c = let a = c.args in
    omega (arith, ends-most (is_unequal_at a.a.now a.b.now) 0 (length a.a.now - 1 - 0))

pub returns : goal.returns
returns c = let a = c.args in
    let e = ends-past (is_unequal_at a.a.now a.b.now) c.loop-i.i (length a.a.now - 1) (omega arith) in
    omega arith
