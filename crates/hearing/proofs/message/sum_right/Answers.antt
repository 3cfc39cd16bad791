-- `hearing::message::sum_right` meets its contract: one pass gives the sum with the pseudo header.
use native.Mathlib.Omega.{arith}
use lib.ListN.{length}
use lib.Seq.{take-length}
use Rattle.checksum.specs.Sum.{is_right_from}
use Rattle.checksum.proofs.Bytes.{bytes_of}
use Rattle.messages.proofs.SealedLaws.{one_pass}
use Rattle.hearing.specs.Message.{is_sum_right}
use Rattle.hearing.proofs.message.sum_right.Goals as goal

pub returns : goal.returns
unfolding is_sum_right is_right_from
returns c = let p = c.args.p.now in
    let pass = one_pass (length p) p (omega arith) (omega arith) (omega arith) (bytes_of p (λ i. (c.type_inv.p i).fits)) in
    rw (c.right_from.ensures, pass, take-length)
