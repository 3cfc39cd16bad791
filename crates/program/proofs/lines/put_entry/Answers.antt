-- `program::lines::put_entry` meets its contract: word, number and line feed stand one behind another.
use Prim.Native.Nat.{◌+◌, ◌≤◌}
use mathlib.Core.List.{[], ◌∷◌, ◌++◌}
use native.Mathlib.Omega.{arith}
use lib.ListN.{length, length-append}
use Rattle.text.specs.Text.{decimal}
use Rattle.text.proofs.Laws.{wrote_more}
use Rattle.program.specs.Lines.{entry_of}
use Rattle.program.proofs.LineLaws.{entry_short}
use Rattle.program.proofs.lines.put_entry.Goals as goal

pub returns : goal.returns
unfolding entry_of
returns c = let a = c.args in
    let w = a.word.now in
    let n = decimal a.n in
    let h : a.at + length ((w ++ n) ++ (10 ∷ [])) ≤ length a.out.now = omega (arith, entry_short w a.n) in
    let l = length-append (w ++ n) (10 ∷ []) in
    let p = c.put-number.ensures in
    let q = c.put_decimal-end.ensures in
    let r = c.put.ensures in
    let all = wrote_more a.at (w ++ n) (10 ∷ []) a.out.now h
    (wrote_more a.at w n a.out.now (omega arith) (p.value, p.out_after) (q.value, q.out_after))
    (r.value, r.out_after) in
    record { value = all.0; out_after = all.1 }
