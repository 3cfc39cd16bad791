-- `options::with_option`: what its calls answer.
use Rattle.options.specs.SoFar.{found_with}
use Rattle.options.proofs.with_option.Goals as goal

pub returns : goal.returns
unfolding found_with
returns c = rw (c.shorter.ensures, c.option_lifetime.ensures)
