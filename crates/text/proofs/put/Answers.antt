-- `text::put` meets its contract.
use Rattle.text.specs.Text.{behind}
use Rattle.text.proofs.put.Goals as goal

pub returns : goal.returns
unfolding behind
returns c = record {
  value = c.end_of-end.ensures;
  out_after = c.write_at.ensures;
}
