-- `hearing::message::Packet::of` meets its contract: by whether the packet is whole.
use Rattle.std.proofs.Common.{rules}
use mathlib.Core.Path.{sym, ◌∙◌}
use Rattle.checksum.proofs.Bytes.{bytes_of}
use Rattle.hearing.proofs.Stages.{taken-length, taken_bounds}
use Rattle.hearing.proofs.message.Packet.of.Goals as goal

pub returns-then-inner_malformed : goal.returns-then-inner_malformed
returns-then-inner_malformed c = search rules

pub slice_bounds-result-end : goal.slice_bounds-result-end
slice_bounds-result-end c = taken-length c.args.packet.now _ (sym c.inner_malformed.ensures ∙ c.if-inner_malformed.false)

pub invariant_of-result : goal.invariant_of-result
invariant_of-result c = let p = c.args.packet.now in
    record {
      whole = taken_bounds p (bytes_of p (λ i. (c.type_inv.packet i).fits)) c.inner_header-header.ensures (sym c.inner_malformed.ensures ∙ c.if-inner_malformed.false);
    }

pub returns : goal.returns
returns c = search rules
