-- `comparing::blocks::next_unequal` meets its contract: no place is passed that is wanted.
use Prim.Native.Nat.{◌+◌}
use native.Mathlib.Omega.{arith}
use Rattle.comparing.specs.Runs.{is_unequal_at}
use Rattle.comparing.proofs.Searching.{next-on, next_more, next-found}
use Rattle.comparing.proofs.blocks.next_unequal.Goals as goal

pub returns-then-first-near : goal.returns-then-first-near
returns-then-first-near c = let a = c.args in
    next-found (is_unequal_at a.a.now a.b.now) a.wanted a.start _ c.next_by_bytes-first.result a.end c.next_by_bytes-first.ensures c.if-first-near.true (omega arith)

pub returns : goal.returns
returns c = let a = c.args in
    let t = is_unequal_at a.a.now a.b.now in
    let near = a.start + c.min.result in
    let first = c.next_by_bytes-first.result in
    let blocks = c.behind_blocks-p in
    let half = c.behind_block-q in
    let quarter = c.behind_block-r in
    let eighth = c.behind_block-s in
    let r = c.next_by_bytes.result in
    next_more t a.wanted a.start near first r a.end c.next_by_bytes-first.ensures c.if-first-near.false
    (next-on t a.wanted first blocks.result r a.end blocks.ensures.0 blocks.ensures.2
    (next-on t a.wanted blocks.result half.result r a.end half.ensures.0 half.ensures.2
    (next-on t a.wanted half.result quarter.result r a.end quarter.ensures.0 quarter.ensures.2
    (next-on t a.wanted quarter.result eighth.result r a.end eighth.ensures.0 eighth.ensures.2 c.next_by_bytes.ensures))))
