-- `comparing::pair::Pair::next` meets its contract: a search in the shorter datagram, and one behind its end.
use Prim.Native.Nat.{max}
use native.Mathlib.Omega.{arith}
use lib.ListN.{length}
use Rattle.comparing.specs.Runs.{differs_at}
use Rattle.comparing.proofs.Searching.{next_more, next-found, next-alone}
use Rattle.comparing.proofs.pair.Pair.next.Goals as goal

pub returns-then-p-end : goal.returns-then-p-end
returns-then-p-end c = let a = c.args in
    next-found (differs_at a.self.masked a.self.a.now a.self.b.now) a.wanted a.start c.min-end.result c.next_shared-p.result (max (length a.self.a.now) (length a.self.b.now))
    c.next_shared-p.ensures c.if-p-end.true (omega arith)

pub returns-then-start-end : goal.returns-then-start-end
returns-then-start-end c = let a = c.args in
    let i = c.next_shared-p.ensures in
    let p = c.next_shared-p.result in
    next_more (differs_at a.self.masked a.self.a.now a.self.b.now) a.wanted a.start c.min-end.result p c.next_alone.result (max (length a.self.a.now) (length a.self.b.now))
    i c.if-p-end.false
    (next-alone a.self.masked a.wanted a.self.a.now a.self.b.now p c.next_alone.result (omega arith) (omega (arith, i.inside)) c.next_alone.ensures)

pub returns : goal.returns
returns c = let a = c.args in
    next-alone a.self.masked a.wanted a.self.a.now a.self.b.now a.start c.next_alone-2.result (omega arith) (omega arith) c.next_alone-2.ensures
