-- What the writer writes, the reader reads: a wrapped packet, with or without padding behind it. Assumes nothing.
use Rattle.std.specs.Prelude.{Ok}
use Prim.Native.Nat.{ℕ, ◌+◌, ◌*◌, ◌/◌, ◌%◌, ◌≤◌}
use mathlib.Core.Path.{◌≡◌, refl}
use mathlib.Core.Bool.{Bool, true, false, cond}
use mathlib.Core.List.{List, ◌++◌, append_assoc}
use native.Mathlib.Omega.{arith}
use borrow.Author.Tests.{le-ltb, eq-eqb}
use lib.ListN.{length, length-append}
use lib.Seq.{take_at, drop_at}
use Rattle.address.specs.Address.{quad_of}
use Rattle.header.specs.Fields.{word_at, quad_at}
use Rattle.header.specs.Outer.{outer_of, is_outer_malformed, is_sum_wrong, outer_check, payload_of}
use Rattle.header.specs.Wrap.{outer_bytes, wrapped}
use Rattle.header.proofs.WriterLaws.{length-outer_bytes}
use Rattle.header.proofs.Right.{Fits, outer_right}
use Rattle.header.specs.declared.outer.Outer.{Outer}
use Rattle.header.specs.declared.wrap.OuterFields.{OuterFields}

-- the fields as they were put in
abbrev pub put_in : ℕ → OuterFields → Outer
put_in total h = record {
  version = 4;
  header = 20;
  total = total;
  fragment = 0;
  protocol = h.protocol;
  source = h.source;
  destination = h.destination;
}

flags-whole : (b : Bool) → (cond b 64 0 * 256 + 0) % 16384 ≡ 0
flags-whole true = refl
flags-whole false = refl

module _ (h : OuterFields) (packet padding : List ℕ) (f : Fits h) (most : 20 + length packet ≤ 65535) where
  pub wrapped_fields : outer_of (wrapped h packet ++ padding) ≡ put_in (20 + length packet) h
  unfolding outer_of wrapped outer_bytes word_at quad_at
  wrapped_fields =
      let n = 20 + length packet in
      let s = h.source in
      let d = h.destination in
      let e₁ : n / 256 * 256 + n % 256 ≡ n = omega arith in
      let e₂ : quad_of (s / 16777216) (s / 65536 % 256) (s / 256 % 256) (s % 256) ≡ s = omega arith in
      let e₃ : quad_of (d / 16777216) (d / 65536 % 256) (d / 256 % 256) (d % 256) ≡ d = omega arith in
      rw (e₁, e₂, e₃, flags-whole h.dont_fragment)

  long : length (wrapped h packet ++ padding) ≡ 20 + length packet + length padding
  unfolding wrapped
  long = simp (length-append, length-outer_bytes) (omega arith)

  wrapped-malformed : is_outer_malformed (length (wrapped h packet ++ padding)) (put_in (20 + length packet) h) ≡ false
  unfolding is_outer_malformed
  wrapped-malformed =
      let whole = length (wrapped h packet ++ padding) in
      let n = 20 + length packet in
      simp (le-ltb whole 20 (omega (arith, long)), le-ltb n 20 (omega arith), le-ltb whole n (omega (arith, long)))

  wrapped_sum : is_sum_wrong (wrapped h packet ++ padding) (put_in (20 + length packet) h) ≡ false
  unfolding is_sum_wrong wrapped
  wrapped_sum =
      let n = 20 + length packet in
      rw (append_assoc (outer_bytes n h) packet padding, take_at (outer_bytes n h) (packet ++ padding) 20 (length-outer_bytes n h), outer_right n h (omega arith) f)

  -- the header of a wrapped packet passes 2 to 5
  pub wrapped-passes : h.protocol ≡ 41 → outer_check (length (wrapped h packet ++ padding)) (wrapped h packet ++ padding) (outer_of (wrapped h packet ++ padding)) ≡ Ok tt
  unfolding outer_check
  wrapped-passes p = rw wrapped_fields (simp (wrapped-malformed, wrapped_sum, eq-eqb h.protocol 41 p))

  -- the part behind the header of a wrapped packet is the packet
  pub wrapped-payload : payload_of (wrapped h packet ++ padding) (outer_of (wrapped h packet ++ padding)) ≡ packet
  unfolding payload_of wrapped
  wrapped-payload =
      let n = 20 + length packet in
      let w : length (outer_bytes n h ++ packet) ≡ n = simp (length-append, length-outer_bytes) in
      rw wrapped_fields (rw (take_at (outer_bytes n h ++ packet) padding n w) (drop_at (outer_bytes n h) packet 20 (length-outer_bytes n h)))
