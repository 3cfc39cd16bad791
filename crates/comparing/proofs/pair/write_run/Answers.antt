-- `comparing::pair::write_run` meets its contract: six stores in a row.
use Prim.Native.Nat.{suc, ◌+◌}
use mathlib.Core.Path.{◌≡◌, sym, ◌∙◌}
use mathlib.Core.List.{append_assoc}
use native.Mathlib.Omega.{arith}
use lib.ListN.{take, drop, length-set}
use lib.Seq.{sets-eq}
use Rattle.lent.proofs.Laws.{written_at-fits}
use Rattle.comparing.specs.Runs.{run_bytes}
use Rattle.comparing.proofs.pair.write_run.Goals as goal

pub bounds-out-at-2 : goal.bounds-out-at-2
bounds-out-at-2 c = simp length-set (omega arith)

pub bounds-out-at-3 : goal.bounds-out-at-3
bounds-out-at-3 c = simp length-set (omega arith)

pub bounds-out-at-4 : goal.bounds-out-at-4
bounds-out-at-4 c = simp length-set (omega arith)

pub bounds-out-at-5 : goal.bounds-out-at-5
bounds-out-at-5 c = simp length-set (omega arith)

pub bounds-out-at-6 : goal.bounds-out-at-6
bounds-out-at-6 c = simp length-set (omega arith)

pub shape_of-out : goal.shape_of-out
shape_of-out c = simp length-set (omega arith)

pub returns : goal.returns
returns c = let a = c.args in
    let at = a.at in
    let bytes = run_bytes (a.number, record { offset = a.offset; length = a.size }) in
    let one : at + 1 ≡ suc at = omega arith in
    let two : at + 2 ≡ suc (suc at) = omega arith in
    let three : at + 3 ≡ suc (suc (suc at)) = omega arith in
    let four : at + 4 ≡ suc (suc (suc (suc at))) = omega arith in
    let five : at + 5 ≡ suc (suc (suc (suc (suc at)))) = omega arith in
    rw (one, two, three, four, five)
    (sets-eq bytes a.out.now at (omega arith) ∙ append_assoc (take at a.out.now) bytes (drop (at + 6) a.out.now) ∙ sym (written_at-fits at bytes a.out.now (omega arith)))
