-- `address::link_local` meets its contract: the bytes are the definition.
use native.Mathlib.Omega.{arith}
use Prim.Native.Nat.{◌/◌, ◌%◌}
use mathlib.Core.Path.{◌≡◌}
use Rattle.address.specs.Address.{link_local_of}
use Rattle.address.proofs.link_local.Goals as goal

pub returns : goal.returns
unfolding link_local_of
returns c = let top : c.args.a / 16777216 % 256 ≡ c.args.a / 16777216 = omega arith in
    rw (c.to_be_bytes.ensures, top)
