-- `comparing::write` meets its contract: a turn writes the runs of one pair behind what was written.
use Prim.Native.Nat.{◌+◌, ◌*◌}
use mathlib.Core.Path.{◌≡◌, refl, ap, ◌∙◌}
use mathlib.Core.List.{List}
use native.Mathlib.Omega.{arith}
use lib.ListN.{length, length-map}
use Rattle.lent.specs.Written.{written_at}
use Rattle.input.specs.Section.{count_of}
use Rattle.input.specs.Recording.{bytes_of, behind_datagram}
use Rattle.comparing.specs.Runs.{Run, runs, numbered, runs_bytes, runs_of}
use Rattle.comparing.specs.Compared.{report_of}
use Rattle.comparing.proofs.Pairing.{left_pairs, pairs-all, pairs_turn, pairs-count, pairs-some, count_small}
use Rattle.comparing.proofs.Writing.{Done, done_none, done_more, done_end, length-report, over-front}
use Rattle.comparing.proofs.write.Goals as goal

pub loop-at-init : goal.loop-at-init
loop-at-init c = let a = c.args in
    let rs = runs_of a.masked a.first.now a.second.now in
    let all : left_pairs a.masked (count_of a.first.now) (count_of a.second.now) 1 c.first-a.result.now c.first-b.result.now ≡ rs =
    rw (c.first-b.ensures, c.first-a.ensures) (pairs-all a.masked a.first.now a.second.now) in
    let none : Done rs (left_pairs a.masked (count_of a.first.now) (count_of a.second.now) 1 c.first-a.result.now c.first-b.result.now) a.out.now 0 a.out.now 0 =
    rw all (done_none rs 0 a.out.now) in
    (refl, omega (arith, ap length all), none)

pub write-at-requires : goal.write-at-requires
write-at-requires c = let a = c.args in
    let x = c.loop-at.a.now in
    let y = c.loop-at.b.now in
    let n = count_of a.first.now in
    let m = count_of a.second.now in
    let some = pairs-some a.masked n m c.loop-at.number x y (omega arith) in
    let t = pairs-count a.masked n m c.loop-at.number x y some in
    record {
      b_in_bounds = rw (c.datagram.ensures, c.datagram-in-loop-at.ensures) (omega arith);
      b_bound = rw (c.datagram.ensures, c.datagram-in-loop-at.ensures) (omega arith);
    }

pub overflow_add-number : goal.overflow_add-number
overflow_add-number c = let a = c.args in
    let some = pairs-some a.masked (count_of a.first.now) (count_of a.second.now) c.loop-at.number c.loop-at.a.now c.loop-at.b.now (omega arith) in
    let bytes = c.type_inv.first in
    omega (arith, some, count_small a.first.now (bytes 0).fits (bytes 1).fits)

pub loop-at-smaller : goal.loop-at-smaller
loop-at-smaller c = let a = c.args in
    let some = pairs-some a.masked (count_of a.first.now) (count_of a.second.now) c.loop-at.number c.loop-at.a.now c.loop-at.b.now (omega arith) in
    omega arith

pub loop-at-preserved : goal.loop-at-preserved
loop-at-preserved c = let a = c.args in
    let x = c.loop-at.a.now in
    let y = c.loop-at.b.now in
    let n = count_of a.first.now in
    let m = count_of a.second.now in
    let i = c.loop-at.number in
    let some = pairs-some a.masked n m i x y (omega arith) in
    let t = pairs-count a.masked n m i x y some in
    let rs = numbered i (runs a.masked (bytes_of x) (bytes_of y)) in
    let same : runs a.masked c.datagram.result.now c.datagram-in-loop-at.result.now ≡ runs a.masked (bytes_of x) (bytes_of y) = rw (c.datagram.ensures, c.datagram-in-loop-at.ensures) in
    let ended : c.write-at.result ≡ c.loop-at.at + 6 * length (runs a.masked (bytes_of x) (bytes_of y)) = c.write-at.ensures.value ∙ rw same in
    let put = c.write-at.ensures.out_after ∙ ap (λ (rs : List Run). written_at c.loop-at.at (runs_bytes (numbered i rs)) c.loop-at.out) same in
    let long : length (runs_bytes rs) ≡ 6 * length (runs a.masked (bytes_of x) (bytes_of y)) = length-report rs ∙ rw length-map in
    let more = done_more (runs_of a.masked a.first.now a.second.now) (left_pairs a.masked n m i x y) rs (left_pairs a.masked n m (i + 1) (behind_datagram x) (behind_datagram y)) 0 c.loop-at.at c.write-at.result a.out.now c.loop-at.invariant.2
    (pairs_turn a.masked n m i x y some) (ended ∙ rw long) (omega (arith, ended, t, c.loop-at.invariant.1, c.requires.1)) put in
    (more.0, rw (c.next-b.ensures, c.next-a.ensures) (omega arith), rw (c.next-b.ensures, c.next-a.ensures) more.1)

pub returns : goal.returns
unfolding report_of
returns c = let a = c.args in
    let done = c.loop-at.invariant.2 in
    done.1 ∙ rw (done_end (runs_of a.masked a.first.now a.second.now) (left_pairs a.masked (count_of a.first.now) (count_of a.second.now) c.loop-at.number c.loop-at.a.now c.loop-at.b.now) done.0 (omega arith) done.3) (over-front (runs_bytes (runs_of a.masked a.first.now a.second.now)) a.out.now)
