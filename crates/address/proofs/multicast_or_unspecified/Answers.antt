-- `address::multicast_or_unspecified` meets its contract: the call gives its part of the test.
use native.Mathlib.Omega.{arith}
use Prim.Native.Nat.{◌/◌, ◌%◌}
use mathlib.Core.Path.{◌≡◌}
use Rattle.address.specs.Address.{is_multicast_or_unspecified}
use Rattle.address.specs.Quads.{bytes_in}
use Rattle.address.proofs.multicast_or_unspecified.Goals as goal

pub returns : goal.returns
unfolding is_multicast_or_unspecified bytes_in
returns g c = let top : c.quads-q.result.first / 16777216 % 256 ≡ c.quads-q.result.first / 16777216 = omega arith in
    rw (c.unspecified.ensures, ← c.quads-q.ensures, c.to_be_bytes.ensures, top)
