use mathlib.Core.Path.{◌≡◌, sym, ◌∙◌}
use mathlib.Core.Bool.{true, false}
use Prim.Native.Nat.{◌+◌, ◌-◌}
use native.Mathlib.Omega.{arith}
use lib.ListN.{take, drop}
use Rattle.paths.specs.Search.{is_among}
use Rattle.paths.proofs.Scan.{row-end, block-passed}
use Rattle.paths.proofs.rows.row_in_lent.Goals as goal

pub row_within-requires : goal.row_within-requires
row_within-requires c = let a = c.args in
    let w = c.min-width.result in
    let e : c.loop-i.i + w - c.loop-i.i ≡ w = omega arith in
    let there : is_among a.neighbour (take (c.loop-i.i + w - c.loop-i.i) (drop c.loop-i.i a.rows.now)) ≡ true = sym c.among.ensures ∙ c.if-among.true in
    record { passed = c.loop-i.invariant; inside = omega arith; there = rw e at there }

pub returns-then-among : goal.returns-then-among
returns-then-among c = c.row_within.ensures

pub loop-i-preserved : goal.loop-i-preserved
loop-i-preserved c = let a = c.args in
    let w = c.min-width.result in
    let e : c.loop-i.i + w - c.loop-i.i ≡ w = omega arith in
    let none : is_among a.neighbour (take (c.loop-i.i + w - c.loop-i.i) (drop c.loop-i.i a.rows.now)) ≡ false = sym c.among.ensures ∙ c.if-among.false in
    block-passed a.neighbour a.rows.now c.loop-i.i w c.loop-i.invariant (omega arith) (rw e at none)

pub returns : goal.returns
returns c = let a = c.args in
    omega (arith, row-end a.neighbour a.rows.now c.loop-i.i (omega arith))
