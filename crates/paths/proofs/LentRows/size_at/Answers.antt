use Prim.Native.Nat.{◌<◌, ◌≤◌, min}
use native.Mathlib.Omega.{arith}
use borrow.Author.Tests.{lt-ltb, le-ltb}
use Rattle.paths.proofs.LentRows.size_at.Goals as goal

pub returns-then-self-row : goal.returns-then-self-row
returns-then-self-row c = let a = c.args in
    let past : min a.self.count a.rows ≤ a.row = omega arith in
    rw (le-ltb _ _ past)

pub returns-then-rows-row : goal.returns-then-rows-row
returns-then-rows-row c = let a = c.args in
    let past : min a.self.count a.rows ≤ a.row = omega arith in
    rw (le-ltb _ _ past)

pub returns : goal.returns
returns c = let a = c.args in
    let there : a.row < min a.self.count a.rows = omega arith in
    rw (lt-ltb _ _ there, ← c.while_young.ensures) c.in_force.ensures
