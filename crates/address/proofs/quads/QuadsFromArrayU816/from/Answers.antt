-- Each number is put together of its bytes, and gives them back.
use borrow.Author.Rules.{elem_Fits}
use native.Mathlib.Omega.{arith}
use Prim.Native.Nat.{ℕ}
use mathlib.Core.Path.{◌≡◌, ap, ◌∙◌}
use lib.ListN.{get_or}
use mir.Val.{Fits}
use mir.Syntax.{w8}
use Rattle.address.specs.Quads.{bytes_in, quads_of}
use Rattle.address.specs.declared.quads.Quads.{Quads}
use Rattle.address.proofs.Bytes.{quads-bytes}
use Rattle.address.proofs.quads.QuadsFromArrayU816.from.Goals as goal

pub returns : goal.returns
unfolding quads_of
returns c = let a = c.args.a in
    let byte : (i : ℕ) → Fits w8 (get_or a i 0) = λ i. search elem_Fits in
    let q : ◌≡◌ {A = Quads} (record { first = c.quad.result; second = c.quad-2.result; third = c.quad-3.result; last = c.quad-4.result }) (quads_of a) =
    rw (c.quad-4.ensures, c.quad-3.ensures, c.quad-2.ensures, c.quad.ensures) in
    (q, ap bytes_in q ∙ quads-bytes a (omega arith) byte)
