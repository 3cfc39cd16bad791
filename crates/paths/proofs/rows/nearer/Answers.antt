use mathlib.Core.Path.{◌≡◌, sym, ◌∙◌}
use mathlib.Core.Bool.{true, false}
use Prim.Native.Nat.{◌+◌, ◌-◌, ◌/◌}
use native.Mathlib.Omega.{arith}
use borrow.Author.Rules.{rules}
use lib.ListN.{take, drop}
use Rattle.paths.specs.Search.{is_among}
use Rattle.paths.proofs.Scan.{in-first, in-second}
use Rattle.paths.proofs.rows.nearer.Goals as goal

pub among-requires : goal.among-requires
among-requires c = search rules

pub returns-then-among : goal.returns-then-among
returns-then-among c = let a = c.args in
    let e : a.i + a.width / 2 - a.i ≡ a.width / 2 = omega arith in
    let there : is_among a.neighbour (take (a.i + a.width / 2 - a.i) (drop a.i a.rows.now)) ≡ true = sym c.among.ensures ∙ c.if-among.true in
    in-first a.neighbour a.rows.now a.i a.width (a.width / 2) c.requires.0 (omega arith) (rw e at there)

pub returns-else-among : goal.returns-else-among
returns-else-among c = let a = c.args in
    let e : a.i + a.width / 2 - a.i ≡ a.width / 2 = omega arith in
    let none : is_among a.neighbour (take (a.i + a.width / 2 - a.i) (drop a.i a.rows.now)) ≡ false = sym c.among.ensures ∙ c.if-among.false in
    in-second a.neighbour a.rows.now a.i a.width (a.width / 2) c.requires.0 (omega arith) (rw e at none)
