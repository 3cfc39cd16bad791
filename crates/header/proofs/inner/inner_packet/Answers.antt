-- `header::inner::inner_packet` meets its contract: the test decides whether there is a packet; a packet that passes it is not cut off.
use native.Mathlib.Omega.{arith}
use mathlib.Core.Path.{sym, ◌∙◌}
use lib.ListN.{length-take}
use Rattle.header.specs.Inner.{inner_packet_of}
use Rattle.header.proofs.InnerLaws.{inner-whole}
use Rattle.header.proofs.inner.inner_packet.Goals as goal

pub returns-then-inner_malformed : goal.returns-then-inner_malformed
unfolding inner_packet_of
returns-then-inner_malformed c = simp (← c.inner_header-i.ensures, ← c.inner_malformed.ensures, c.if-inner_malformed.true)

pub slice_bounds-result-end-2 : goal.slice_bounds-result-end-2
slice_bounds-result-end-2 c = let fits = inner-whole _ _ (sym c.inner_malformed.ensures ∙ c.if-inner_malformed.false) in simp length-take (omega arith)

pub returns : goal.returns
unfolding inner_packet_of
returns c = simp (← c.inner_header-i.ensures, ← c.inner_malformed.ensures, c.if-inner_malformed.false)
