-- `hearing::hear` meets its contract: what was judged, carried out.
use mathlib.Core.Path.{◌∙◌}
use Rattle.hearing.proofs.hear.Goals as goal

pub returns : goal.returns
returns c = c.heard_with.ensures ∙ c.judge-judged.ensures
