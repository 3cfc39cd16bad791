-- `receiving::judging::source_bad` meets its contract: the last number is the last 32 bits.
use native.Mathlib.Omega.{arith}
use Rattle.address.proofs.Bytes.{last-number}
use Rattle.receiving.proofs.judging.source_bad.Goals as goal

pub returns : goal.returns
returns c = rw (c.bad_source_with.ensures, c.forbidden_to-forbidden.ensures, last-number c.args.q (omega arith))
