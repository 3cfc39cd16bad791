-- `header::fields::quads` meets its contract: each number is that of its four bytes.
use Prim.Native.Nat.{ℕ}
use mathlib.Core.Path.{◌≡◌, refl, ap, ◌∙◌}
use lib.ListN.{get_or}
use mir.Val.{Fits}
use mir.Syntax.{w8}
use Rattle.address.specs.Quads.{bytes_in, quads_of}
use Rattle.address.specs.declared.quads.Quads.{Quads}
use Rattle.address.proofs.Bytes.{quads-bytes}
use Rattle.header.specs.Fields.{quad_at, address_at}
use Rattle.header.proofs.Words.{address-fits}
use Rattle.header.proofs.fields.quads.Goals as goal

pub returns : goal.returns
unfolding quads_of quad_at address_at
returns c = let a = c.args in
    let byte : (i : ℕ) → Fits w8 (get_or (address_at a.d.now a.k) i 0) =
    address-fits a.d.now a.k (λ i. c.type_inv.d i) in
    let q : ◌≡◌ {A = Quads} (record { first = c.quad.result; second = c.quad-2.result; third = c.quad-3.result; last = c.quad-4.result }) (quads_of (address_at a.d.now a.k)) =
    rw (c.quad-4.ensures, c.quad-3.ensures, c.quad-2.ensures, c.quad.ensures, c.tail-t.ensures) in
    record {
      value = q;
      result_value = ap bytes_in q ∙ quads-bytes (address_at a.d.now a.k) refl byte;
    }
