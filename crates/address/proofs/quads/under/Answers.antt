-- `address::quads::under` meets its contract: two numbers are the eight bytes.
use borrow.Author.Rules.{elem_Fits}
use native.Mathlib.Omega.{arith}
use Prim.Native.Nat.{ℕ}
use lib.ListN.{get_or}
use mir.Val.{Fits}
use mir.Syntax.{w8}
use Rattle.address.proofs.Bytes.{under-prefix}
use Rattle.address.proofs.quads.under.Goals as goal

pub returns : goal.returns
returns c = let s = c.args in
    let byte : (i : ℕ) → Fits w8 (get_or s.p i 0) = λ i. search elem_Fits in
    rw (c.quad-2.ensures, c.quad.ensures) (under-prefix s.q (omega arith) (omega arith) (omega arith) (omega arith) s.p byte)
