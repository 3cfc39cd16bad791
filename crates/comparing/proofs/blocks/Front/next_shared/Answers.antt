-- `comparing::blocks::Front::next_shared` meets its contract: behind the masked part no byte is masked.
use native.Mathlib.Omega.{arith}
use borrow.Author.Tests.{ltb-true}
use lib.Dec.{ltb}
use Rattle.lists.proofs.Tests.{and_left, and_right}
use Rattle.comparing.specs.Runs.{is_unequal_at, differs_at}
use Rattle.comparing.proofs.Searching.{next_as, differs-unmasked, not-masked}
use Rattle.comparing.proofs.blocks.Front.next_shared.Goals as goal

pub next_in_header-requires : goal.next_in_header-requires
next_in_header-requires c = let a = c.args in
    (omega arith, ltb-true a.start 12 (and_right a.masked (ltb a.start 12) c.if-masked-start.true), omega arith)

pub returns-then-masked-start : goal.returns-then-masked-start
returns-then-masked-start c = let a = c.args in
    rw (and_left a.masked (ltb a.start 12) c.if-masked-start.true) c.next_in_header.ensures

pub returns : goal.returns
returns c = let a = c.args in
    next_as (is_unequal_at a.self.a.now a.self.b.now) a.wanted (differs_at a.masked a.self.a.now a.self.b.now) a.start a.self.end c.next_unequal.result
    (λ q h k. differs-unmasked a.masked a.self.a.now a.self.b.now q (not-masked a.masked a.start q c.if-masked-start.false h) (omega arith)) c.next_unequal.ensures
