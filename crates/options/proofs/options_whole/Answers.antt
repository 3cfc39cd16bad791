-- `options::options_whole`: what reading all of them finds.
use mathlib.Core.Path.{ap}
use Rattle.options.specs.declared.Options.{Options}
use Rattle.options.proofs.options_whole.Goals as goal

pub returns : goal.returns
returns c = ap (λ (o : Options). o.whole) c.read.ensures
