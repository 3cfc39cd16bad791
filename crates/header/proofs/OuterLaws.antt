-- What an outer header that is not malformed has. Assumes nothing.
use Prim.Native.Nat.{ℕ, ◌≤◌}
use mathlib.Core.Path.{◌≡◌}
use mathlib.Core.Bool.{false, not}
use borrow.Author.Tests.{ltb-false, eqb-true, not-false, le-ltb, eq-eqb}
use lib.Dec.{eqb, ltb}
use Rattle.lists.proofs.Tests.{or_six}
use Rattle.header.specs.Outer.{is_outer_malformed}
use Rattle.header.specs.declared.outer.Outer.{Outer}

-- a whole IPv4 header, in a datagram of n bytes that is all there
pub record WholeOuter (n : ℕ) (o : Outer) : Type 0 where
  pub some : 20 ≤ n
  pub version : o.version ≡ 4
  pub words : 20 ≤ o.header
  pub whole : o.header ≤ n
  pub inside : o.header ≤ o.total
  pub all : o.total ≤ n

module _ (n : ℕ) (o : Outer) where
  pub outer_whole_lem : is_outer_malformed n o ≡ false → WholeOuter n o
  unfolding is_outer_malformed
  outer_whole_lem h =
      let f = or_six (ltb n 20) (not (eqb o.version 4)) (ltb o.header 20) (ltb n o.header) (ltb o.total o.header) (ltb n o.total) h in
      record {
        some = ltb-false _ _ f.0.0;
        version = eqb-true _ _ (not-false _ f.0.1);
        words = ltb-false _ _ f.0.2;
        whole = ltb-false _ _ f.1.0;
        inside = ltb-false _ _ f.1.1;
        all = ltb-false _ _ f.1.2;
      }

  pub whole_outer : WholeOuter n o → is_outer_malformed n o ≡ false
  unfolding is_outer_malformed
  whole_outer w =
      simp (
        le-ltb n 20 w.some,
        eq-eqb o.version 4 w.version,
        le-ltb o.header 20 w.words,
        le-ltb n o.header w.whole,
        le-ltb o.total o.header w.inside,
        le-ltb n o.total w.all,
      )
