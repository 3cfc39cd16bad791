-- When a writer writes, and how long its headers are. Assumes nothing.
use Rattle.std.specs.Prelude.{Ok, Err}
use Prim.Native.Nat.{ℕ, ◌+◌, ◌≤◌, ◌<◌}
use mathlib.Core.Path.{◌≡◌, refl}
use borrow.Author.Tests.{lt-ltb, le-ltb}
use lib.ListN.{length}
use Rattle.refusals.specs.declared.Refusal.TheVariants.{OutputShort, WrappedTooLong}
use Rattle.header.specs.Wrap.{outer_bytes, wrap_check}
use Rattle.header.specs.declared.wrap.OuterFields.{OuterFields}

module _ (n room : ℕ) where
  pub wrap_too_long : 65535 < 20 + n → wrap_check n room ≡ Err WrappedTooLong
  unfolding wrap_check
  wrap_too_long h = simp (lt-ltb _ _ h)

  pub wrap-short : 20 + n ≤ 65535 → room < 20 + n → wrap_check n room ≡ Err OutputShort
  unfolding wrap_check
  wrap-short h k = simp (le-ltb _ _ h, lt-ltb _ _ k)

  pub wrap_pass : 20 + n ≤ 65535 → 20 + n ≤ room → wrap_check n room ≡ Ok tt
  unfolding wrap_check
  wrap_pass h k = simp (le-ltb _ _ h, le-ltb _ _ k)

pub length-outer_bytes : (total : ℕ) (h : OuterFields) → length (outer_bytes total h) ≡ 20
unfolding outer_bytes
length-outer_bytes total h = refl
