-- `checksum::sum_of_words` meets its contract: nothing is added.
use Rattle.std.proofs.Common.{[], sym, ap, ◌∙◌, arith}
use Rattle.checksum.proofs.Laws.{sum_folded}
use Rattle.checksum.specs.Folding.{word_sum, folded}
use Rattle.checksum.proofs.sum_of_words.Goals as goal

pub returns : goal.returns
unfolding word_sum
returns c = let words = c.args.words in c.fold.ensures ∙ ap folded (omega arith) ∙ sym (sum_folded words [] (omega arith) tt)
