-- `address::identifier` meets its contract: one number is the four bytes.
use native.Mathlib.Omega.{arith}
use Rattle.address.proofs.Bytes.{identifier_third}
use Rattle.address.proofs.identifier.Goals as goal

pub returns : goal.returns
returns g c = let q = c.quads-third.result in
    rw (← c.quads-third.ensures) (identifier_third q (omega arith) (omega arith) (omega arith) (omega arith))
