-- `receiving::collect::piece_of` meets its contract: field by field.
use Rattle.receiving.specs.Collect.{piece_of}
use Rattle.receiving.proofs.collect.piece_of.Goals as goal

pub returns : goal.returns
unfolding piece_of
returns c = rw c.word.ensures
