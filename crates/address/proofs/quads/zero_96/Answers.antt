-- `address::quads::zero_96` meets its contract: three numbers are the twelve bytes.
use native.Mathlib.Omega.{arith}
use Rattle.address.proofs.Bytes.{zero_three}
use Rattle.address.proofs.quads.zero_96.Goals as goal

pub returns : goal.returns
returns c = zero_three c.args.q (omega arith) (omega arith) (omega arith) (omega arith)
