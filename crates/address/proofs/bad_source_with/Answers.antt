-- `address::bad_source_with` meets its contract: each call gives its part of the test.
use native.Mathlib.Omega.{arith}
use Rattle.address.specs.Address.{is_bad_source_with}
use Rattle.address.proofs.Bytes.{last-number}
use Rattle.address.proofs.bad_source_with.Goals as goal

pub returns : goal.returns
unfolding is_bad_source_with
returns g c = rw (c.multicast_or_unspecified.ensures, c.zero_96-zero.ensures, ← c.quads-q.ensures, last-number c.quads-q.result (omega arith))
