-- `address::bad_source` meets its contract: the last number is the last 32 bits.
use native.Mathlib.Omega.{arith}
use Rattle.address.proofs.Bytes.{last-number}
use Rattle.address.proofs.bad_source.Goals as goal

pub returns : goal.returns
returns g c = let q = c.quads-q.result in
    rw (c.bad_source_with.ensures, c.forbidden.ensures, ← c.quads-q.ensures, last-number q (omega arith))
