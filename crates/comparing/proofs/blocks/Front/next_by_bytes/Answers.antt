-- `comparing::blocks::Front::next_by_bytes` meets its contract: no place is passed that is wanted.
use mathlib.Core.Path.{◌≡◌, refl}
use native.Mathlib.Omega.{arith}
use Rattle.comparing.specs.Runs.{is_unequal_at}
use Rattle.comparing.proofs.Searching.{none_yet, none_turn, found_here, found_none}
use Rattle.comparing.proofs.blocks.Front.next_by_bytes.Goals as goal

pub loop-p-init : goal.loop-p-init
loop-p-init c = let a = c.args in none_yet (is_unequal_at a.self.a.now a.self.b.now) a.wanted a.start

pub returns-then-a-p : goal.returns-then-a-p
returns-then-a-p c = let a = c.args in
    found_here (is_unequal_at a.self.a.now a.self.b.now) a.wanted a.start a.self.end c.loop-p.p (omega arith) (omega arith) c.loop-p.invariant c.if-a-p.true

pub loop-p-preserved : goal.loop-p-preserved
loop-p-preserved c = let a = c.args in
    none_turn (is_unequal_at a.self.a.now a.self.b.now) a.wanted a.start c.loop-p.p c.loop-p.invariant c.if-a-p.false

pub returns : goal.returns
returns c = let a = c.args in
    let e : c.loop-p.p ≡ a.self.end = omega arith in
    found_none (is_unequal_at a.self.a.now a.self.b.now) a.wanted a.start a.self.end a.self.end (omega arith) refl (rw e at c.loop-p.invariant)
