-- `address::unspecified` meets its contract: the call gives its part of the test.
use native.Mathlib.Omega.{arith}
use Rattle.address.proofs.Bytes.{last-number}
use Rattle.address.proofs.unspecified.Goals as goal

pub returns : goal.returns
returns g c = rw (c.zero_96.ensures, ← c.quads-q.ensures, last-number c.quads-q.result (omega arith))
