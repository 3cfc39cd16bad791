-- `comparing::pair::Pair::by_bytes` meets its contract: a turn counts one place of those that are left.
use Prim.Native.Nat.{◌-◌}
use native.Mathlib.Omega.{arith}
use Rattle.comparing.specs.Runs.{differs_at}
use Rattle.comparing.proofs.Ending.{ends_turn, ends-past, ends-most}
use Rattle.comparing.proofs.pair.Pair.by_bytes.Goals as goal

pub loop-p-init : goal.loop-p-init
loop-p-init c = omega arith

pub overflow_add-n : goal.overflow_add-n
overflow_add-n c = let a = c.args in
    let d = differs_at a.self.masked a.self.a.now a.self.b.now in
    let e = rw (← c.differs.ensures, ← c.differs-in-loop-p.ensures) at (ends_turn d c.loop-p.p a.end (omega arith)) in
    omega (arith, e, ends-most d a.start (a.end - a.start))

pub loop-p-preserved : goal.loop-p-preserved
loop-p-preserved c = let a = c.args in
    let d = differs_at a.self.masked a.self.a.now a.self.b.now in
    let e = rw (← c.differs.ensures, ← c.differs-in-loop-p.ensures) at (ends_turn d c.loop-p.p a.end (omega arith)) in
    omega arith

pub returns : goal.returns
returns c = let a = c.args in
    let e = ends-past (differs_at a.self.masked a.self.a.now a.self.b.now) c.loop-p.p a.end (omega arith) in
    omega arith
