-- `comparing::blocks::Front::next_in_header` meets its contract: a search in the masked part, and one behind it.
use mathlib.Core.Bool.{true, not, ◌&&◌}
use native.Mathlib.Omega.{arith}
use Rattle.comparing.specs.Runs.{is_masked_byte, is_unequal_at, differs_at}
use Rattle.comparing.proofs.Searching.{next_as, next_more, next-found, differs-shared, differs-unmasked}
use Rattle.comparing.proofs.blocks.Front.next_in_header.Goals as goal

pub returns-then-p-front : goal.returns-then-p-front
returns-then-p-front c = let f = c.min-front.result in
    let a = c.args in
    let p = c.next_masked-p.result in
    next-found (differs_at true a.self.a.now a.self.b.now) a.wanted a.start f p a.self.end
    (next_as (λ q. not (is_masked_byte q) && is_unequal_at a.self.a.now a.self.b.now q) a.wanted (differs_at true a.self.a.now a.self.b.now) a.start f p
    (λ q h k. differs-shared true a.self.a.now a.self.b.now q (omega arith)) c.next_masked-p.ensures)
    c.if-p-front.true (omega arith)

pub returns : goal.returns
returns c = let f = c.min-front.result in
    let a = c.args in
    let p = c.next_masked-p.result in
    let d = differs_at true a.self.a.now a.self.b.now in
    let i = c.next_masked-p.ensures in
    next_more d a.wanted a.start f p c.next_unequal.result a.self.end
    (next_as (λ q. not (is_masked_byte q) && is_unequal_at a.self.a.now a.self.b.now q) a.wanted d a.start f p
    (λ q h k. differs-shared true a.self.a.now a.self.b.now q (omega arith)) i)
    c.if-p-front.false
    (next_as (is_unequal_at a.self.a.now a.self.b.now) a.wanted d p a.self.end c.next_unequal.result
    (λ q h k. differs-unmasked true a.self.a.now a.self.b.now q (λ t. omega arith) (omega arith)) c.next_unequal.ensures)
