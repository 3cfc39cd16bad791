-- `program::lines::write_line` meets its contract: the entry stands behind the datagram's number.
use Rattle.std.specs.Prelude.{Ok, Err}
use Prim.Native.Nat.{ℕ, ◌+◌, ◌≤◌}
use mathlib.Core.Path.{◌≡◌, ◌∙◌}
use mathlib.Core.List.{List}
use native.Mathlib.Omega.{arith}
use lib.ListN.{length}
use Rattle.text.specs.Text.{behind, decimal}
use Rattle.text.proofs.Laws.{behind-fits, wrote_more, decimal-short}
use Rattle.refusals.specs.Refusals.{number_of}
use Rattle.program.specs.Lines.{deliver_word, refuse_word, entry_of, line_of}
use Rattle.program.proofs.LineLaws.{line_short}
use Rattle.program.proofs.lines.write_line.Goals as goal

number-end : (at k : ℕ) (d : List ℕ) {r : ℕ} → at + 20 ≤ length d → r ≡ behind at (decimal k) d → r ≤ at + 20
number-end at k d h e = let s = decimal-short k in omega (arith, e ∙ behind-fits at (decimal k) d (omega arith))

pub put_entry-requires : goal.put_entry-requires
put_entry-requires c = let a = c.args in
    omega (arith, number-end a.at a.k a.out.now (omega arith) c.put_decimal-next.ensures.value)

pub put_entry-requires-in-Err : goal.put_entry-requires-in-Err
put_entry-requires-in-Err c = let a = c.args in
    omega (arith, number-end a.at a.k a.out.now (omega arith) c.put_decimal-next.ensures.value)

pub returns-in-Ok : goal.returns-in-Ok
unfolding line_of
returns-in-Ok c = let a = c.args in
    let n = c.in-Ok.n in
    let p = c.put_decimal-next.ensures in
    let q = c.put_entry.ensures in
    let all = wrote_more a.at (decimal a.k) (entry_of deliver_word n) a.out.now (omega (arith, line_short a.k (Ok n)))
    (p.value, p.out_after) (q.value, q.out_after) in
    rw c.in-Ok.is (record { value = all.0; out_after = all.1 })

pub returns-in-Err : goal.returns-in-Err
unfolding line_of
returns-in-Err c = let a = c.args in
    let r = c.in-Err.refusal in
    let p = c.put_decimal-next.ensures in
    let q = rw c.number.ensures at c.put_entry-in-Err.ensures in
    let all = wrote_more a.at (decimal a.k) (entry_of refuse_word (number_of r)) a.out.now (omega (arith, line_short a.k (Err r)))
    (p.value, p.out_after) (q.value, q.out_after) in
    rw c.in-Err.is (record { value = all.0; out_after = all.1 })
