-- `checksum::sum_from` meets its contract: the last fold's result is the sum.
use Rattle.std.proofs.Common.{sym, ap, ◌∙◌, arith}
use Rattle.checksum.specs.Folding.{folded}
use Rattle.checksum.proofs.Bytes.{bytes_of}
use Rattle.checksum.proofs.FoldInputs.{sum-final}
use Rattle.checksum.proofs.sum_from.Goals as goal

pub returns : goal.returns
returns c = let a = c.args in
    c.fold.ensures
    ∙ ap folded c.final_input.ensures
    ∙ sym (sum-final a.start a.s.now (omega arith) (bytes_of a.s.now (λ i. (c.type_inv.s i).fits)))
