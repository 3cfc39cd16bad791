-- `comparing::count` meets its contract: a turn counts the runs of one pair.
use Prim.Native.Nat.{◌+◌}
use mathlib.Core.Path.{◌≡◌, ap}
use native.Mathlib.Omega.{arith}
use lib.ListN.{length}
use Rattle.input.specs.Section.{count_of}
use Rattle.input.specs.Recording.{bytes_of}
use Rattle.comparing.specs.Runs.{runs}
use Rattle.comparing.proofs.Pairing.{pairs-all, pairs-count, pairs_end}
use Rattle.comparing.proofs.count.Goals as goal

pub loop-i-init : goal.loop-i-init
loop-i-init c = let a = c.args in
    let all = pairs-all a.masked a.first.now a.second.now in
    (omega arith, rw (c.first-b.ensures, c.first-a.ensures, all) (omega arith))

pub loop-i-preserved : goal.loop-i-preserved
loop-i-preserved c = let a = c.args in
    let x = c.loop-i.a.now in
    let y = c.loop-i.b.now in
    let t = pairs-count a.masked (count_of a.first.now) (count_of a.second.now) (c.loop-i._i + 1) x y (omega arith) in
    let counted = c.count-n.ensures in
    let same : length (runs a.masked c.datagram.result.now c.datagram-in-loop-i.result.now) ≡ length (runs a.masked (bytes_of x) (bytes_of y)) =
    rw (c.datagram.ensures, c.datagram-in-loop-i.ensures) in
    (omega arith, rw (c.next-b.ensures, c.next-a.ensures) (omega arith))

pub returns : goal.returns
returns c = let a = c.args in
    let e = ap length (pairs_end a.masked (count_of a.first.now) (count_of a.second.now) (c.loop-i._i + 1) c.loop-i.a.now c.loop-i.b.now (omega arith)) in
    omega arith
