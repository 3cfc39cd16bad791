-- `asking::ask` meets its contract: the answer, carried out.
use mathlib.Core.Path.{◌∙◌}
use Rattle.asking.proofs.ask.Goals as goal

pub returns : goal.returns
returns c = record {
  value = c.answered_with.ensures ∙ c.answer-given.ensures.routers_value;
  out_after = c.answer-given.ensures.out_after;
}
