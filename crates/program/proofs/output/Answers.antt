-- `output` meets its contract: by whether there is room, and whether the input is well-formed.
use mathlib.Core.Path.{sym, ◌∙◌}
use native.Mathlib.Omega.{arith}
use Rattle.program.specs.Program.{text_for}
use Rattle.program.proofs.Laws.{none-given, text_given}
use Rattle.program.proofs.Lengths.{taken-short}
use Rattle.program.proofs.output.Goals as goal

pub returns-then-out-lt-OUTPUT_ROOM : goal.returns-then-out-lt-OUTPUT_ROOM
returns-then-out-lt-OUTPUT_ROOM c = let a = c.args in
    let all = none-given a.s.now a.out.now c.if-out-lt-OUTPUT_ROOM.true in
    record { value = all.0; out_after = all.1.0; front = all.1.1 }

pub put_taken-requires : goal.put_taken-requires
put_taken-requires c = omega (arith, taken-short c.args.s.now (sym c.well_formed-2.ensures ∙ c.if-well_formed.true))

pub returns-then-well_formed : goal.returns-then-well_formed
unfolding text_for
returns-then-well_formed c = let a = c.args in
    let h = sym c.well_formed-2.ensures ∙ c.if-well_formed.true in
    let p = c.put_taken.ensures in
    let all = text_given a.s.now a.out.now (omega arith) (rw h (p.value, p.out_after)) in
    record { value = all.0; out_after = all.1.0; front = all.1.1 }

pub returns : goal.returns
unfolding text_for
returns c = let a = c.args in
    let h = sym c.well_formed-2.ensures ∙ c.if-well_formed.false in
    let p = c.put_bad_input.ensures in
    let all = text_given a.s.now a.out.now (omega arith) (rw h (p.value, p.out_after)) in
    record { value = all.0; out_after = all.1.0; front = all.1.1 }
