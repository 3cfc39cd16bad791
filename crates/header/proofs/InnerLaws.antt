-- What an inner packet that is not malformed has. Assumes nothing.
use Prim.Native.Nat.{ℕ}
use mathlib.Core.Path.{◌≡◌}
use mathlib.Core.Bool.{false, not}
use borrow.Author.Tests.{ltb-false, eqb-true, not-false, le-ltb, eq-eqb}
use lib.Dec.{eqb, ltb}
use Rattle.lists.proofs.Tests.{or_three}
use Rattle.header.specs.Inner.{is_inner_malformed, is_packet_malformed}
use Rattle.header.specs.Whole.{WholeInner, WholePacket}
use Rattle.header.specs.declared.inner.Inner.{Inner}

module _ (n : ℕ) (i : Inner) where
  pub inner-whole : is_inner_malformed n i ≡ false → WholeInner n i
  unfolding is_inner_malformed
  inner-whole h =
      let f = or_three (ltb n 40) (not (eqb i.version 6)) (ltb n i.length) h in
      record { some = ltb-false _ _ f.0; version = eqb-true _ _ (not-false _ f.1); whole = ltb-false _ _ f.2 }

  pub whole-inner : WholeInner n i → is_inner_malformed n i ≡ false
  unfolding is_inner_malformed
  whole-inner w = simp (le-ltb n 40 w.some, eq-eqb i.version 6 w.version, le-ltb n i.length w.whole)

  pub packet-whole : is_packet_malformed n i ≡ false → WholePacket n i
  unfolding is_packet_malformed
  packet-whole h =
      let f = or_three (ltb n 40) (not (eqb i.version 6)) (not (eqb n i.length)) h in
      record { some = ltb-false _ _ f.0; version = eqb-true _ _ (not-false _ f.1); exact = eqb-true _ _ (not-false _ f.2) }

  pub whole-packet : WholePacket n i → is_packet_malformed n i ≡ false
  unfolding is_packet_malformed
  whole-packet w = simp (le-ltb n 40 w.some, eq-eqb i.version 6 w.version, eq-eqb n i.length w.exact)
